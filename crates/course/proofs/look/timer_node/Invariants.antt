-- `course::look::timer_node` meets its contract. Assumes nothing.
use mathlib.Core.Path.{◌≡◌}
use Rattle.store.specs.Store.{plan_in, state_in}
use Rattle.course.specs.Look.{Timers}
use Rattle.course.proofs.look.timer_node.Given as goal

abbrev pub invariant-loop-i : goal.invariant-loop-i
invariant-loop-i l = (l.n ≡ (plan_in l.b).n) × Timers (plan_in l.b) (state_in l.b) l.t l.i
