-- `course::look::least_timer` meets its contract. Assumes nothing.
use Rattle.event.proofs.Readiness.{acting-plain}
use Rattle.course.proofs.Looking.{under-turn}
use native.Mathlib.Omega.{arith}
use Rattle.course.proofs.look.least_timer.Goals as goal

pub overflow_add-least : goal.overflow_add-least
overflow_add-least c = omega (arith, c.end_tick-least.ensures, (acting-plain _ c.requires.acting).end≤)

pub loop-i-preserved : goal.loop-i-preserved
loop-i-preserved c =
    let p = c.requires in
    let l = c.loop-i.invariant in
    let less = c.loop-i-test.true in
    (l.0, under-turn _ _ _ _ _ _ _ (omega (arith, less, l.0)) p.timers l.1 c.sooner_of-least.ensures)
