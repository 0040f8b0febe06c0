-- `course::look::timer_node` meets its contract. Assumes nothing.
use mathlib.Core.Path.{subst}
use Rattle.course.specs.Look.{DueNow, FirstTimer}
use Rattle.course.proofs.Looking.{passed-less, timer-here}
use native.Mathlib.Omega.{arith}
use Rattle.course.proofs.look.timer_node.Goals as goal

pub returns-then-is_due : goal.returns-then-is_due
unfolding FirstTimer
returns-then-is_due c =
    let l = c.loop-i.invariant in
    timer-here _ _ _ _ l.1 (omega (arith, c.loop-i-test.true, l.0)) (subst (DueNow _ _ _ _) c.if-is_due.true c.is_due.ensures)

pub returns : goal.returns
unfolding FirstTimer
returns c = let l = c.loop-i.invariant in passed-less _ _ _ _ _ l.1 (omega (arith, l.0, c.loop-i-test.false))
