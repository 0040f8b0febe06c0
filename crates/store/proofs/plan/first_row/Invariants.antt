-- `store::plan::first_row` meets its contract. Assumes nothing.
use Prim.Native.Nat.{◌-◌}
use Rattle.store.specs.Store.{plan_in}
use Rattle.store.proofs.Delays.{Between}
use Rattle.store.proofs.plan.first_row.Given as goal

abbrev pub invariant-loop-low : goal.invariant-loop-low
invariant-loop-low l = Between (plan_in l.s).delays l.number l.low l.high

abbrev pub decreases-loop-low : goal.decreases-loop-low
decreases-loop-low l = l.high - l.low
