-- `host::write_numbers` meets its contract. Assumes nothing.
use mathlib.Core.Path.{sym}
use Rattle.host.proofs.Bytes.{put-numbers}
use Rattle.host.proofs.write_numbers.Goals as goal

pub returns : goal.returns
returns c =
    rw (c.put-4.ensures, c.put-3.ensures, c.put-2.ensures, c.put.ensures) (sym (put-numbers _ _))
