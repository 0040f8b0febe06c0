-- `store::plan::crashed_list` meets its contract. The loop's invariant: the list has the nodes of the rows before i. Assumes nothing.
use Rattle.std.proofs.Common.{◌≡◌}
use Rattle.model.specs.Platform.{crashed_list}
use Rattle.store.specs.Store.{plan_in}
use Rattle.store.proofs.plan.crashed_list.Given as goal

abbrev pub invariant-loop-i : goal.invariant-loop-i
invariant-loop-i l = l.dead ≡ crashed_list (plan_in l.s) l.i
