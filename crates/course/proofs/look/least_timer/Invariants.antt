-- `course::look::least_timer` meets its contract. Assumes nothing.
use mathlib.Core.Path.{◌≡◌}
use Rattle.store.specs.Store.{plan_in, state_in}
use Rattle.course.specs.Look.{Under}
use Rattle.course.proofs.look.least_timer.Given as goal

abbrev pub invariant-loop-i : goal.invariant-loop-i
invariant-loop-i l = (l.n ≡ (plan_in l.b).n) × Under (plan_in l.b) (state_in l.b) l.i l.t l.least
