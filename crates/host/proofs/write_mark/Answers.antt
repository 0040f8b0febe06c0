-- `host::write_mark` meets its contract. Assumes nothing.
use mathlib.Core.Path.{sym}
use Rattle.host.proofs.Bytes.{put-mark}
use Rattle.host.proofs.write_mark.Goals as goal

pub returns : goal.returns
returns c = rw (c.put-2.ensures, c.put.ensures) (sym (put-mark _ _))
