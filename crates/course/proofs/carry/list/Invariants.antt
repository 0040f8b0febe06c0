-- `course::carry::list` meets its contract. Assumes nothing.
use mathlib.Core.Path.{◌≡◌}
use lib.ListN.{length, take}
use Rattle.store.specs.Store.{state_in}
use Rattle.course.specs.Carry.{Listed}
use Rattle.course.proofs.carry.list.Given as goal

abbrev pub invariant-loop-i : goal.invariant-loop-i
invariant-loop-i l = (l.n ≡ length (state_in l.b).flight) × Listed l.q l.i (take l.i (state_in l.b).flight)
