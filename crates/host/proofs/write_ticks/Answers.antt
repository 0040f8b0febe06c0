-- `host::write_ticks` meets its contract. Assumes nothing.
use mathlib.Core.Path.{sym}
use Rattle.host.proofs.Bytes.{put-ticks}
use Rattle.host.proofs.write_ticks.Goals as goal

pub returns : goal.returns
returns c =
    rw (c.put-3.ensures, c.put-2.ensures, c.put.ensures) (sym (put-ticks _ _ _))
