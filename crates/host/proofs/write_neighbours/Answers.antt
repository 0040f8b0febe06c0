-- `host::write_neighbours` meets its contract. Assumes nothing.
use mathlib.Core.Path.{sym}
use Rattle.host.proofs.Bytes.{put-neighbours}
use Rattle.host.proofs.write_neighbours.Goals as goal

pub returns : goal.returns
returns c =
    rw (c.put-3.ensures, c.put-2.ensures, c.put.ensures) (sym (put-neighbours _ _))
