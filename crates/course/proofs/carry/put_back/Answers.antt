-- `course::carry::put_back` meets its contract. Assumes nothing.
use Rattle.course.proofs.Carrying.{apart-emptied}
use Rattle.course.proofs.carry.put_back.Goals as goal

pub append-requires : goal.append-requires
append-requires c = let p = c.requires in let s = c.sort.ensures in (p.0, rw c.sort.ensures (apart-emptied _ _ _ _ p.0 p.1 p.2))

pub returns : goal.returns
returns c = λ whole r s. c.append.ensures whole (rw c.sort.ensures (apart-emptied _ _ _ _ whole r s))
