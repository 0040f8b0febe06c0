-- `course::settle::later` meets its contract. Assumes nothing.
use Rattle.course.proofs.Progressing.{later-sooner, later_same}
use Rattle.course.proofs.settle.later.Goals as goal
use Rattle.course.proofs.settle.later.Goals.{then-bound-c, else-bound-c}

pub returns : goal.returns
returns c =
    let z = c.args in
    let watch = c.earlier_timer-watch.ensures in
    let bound = c.earlier_timer-bound.ensures in
    elim c.if-bound-c.branch [
      | then-bound-c w ↦ rw w.x-is (later-sooner z.c z.count z.a _ _ watch bound w.if-bound-c.true)
      | else-bound-c w ↦ rw w.x-is (later_same z.c z.count z.a _ _ watch bound w.if-bound-c.false)
    ]
