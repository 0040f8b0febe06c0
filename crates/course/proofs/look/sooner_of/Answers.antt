-- `course::look::sooner_of` meets its contract. Assumes nothing.
use Rattle.event.proofs.Readiness.{acting-plain}
use Rattle.course.proofs.Looking.{sooner-dead, sooner-live}
use Rattle.course.proofs.look.sooner_of.Goals as goal

pub returns-then-is_listed : goal.returns-then-is_listed
returns-then-is_listed c =
    let p = c.requires in
    sooner-dead _ (acting-plain _ p.acting) _ _ p.dead_value _ _ c.is_listed.ensures _ c.if-is_listed.true

pub returns : goal.returns
returns c =
    let p = c.requires in
    sooner-live _ (acting-plain _ p.acting) _ _ p.dead_value _ _ c.is_listed.ensures _ c.if-is_listed.false _ c.node_at-a.ensures _ _
    c.earlier_timer-watch.ensures c.earlier_timer.ensures
