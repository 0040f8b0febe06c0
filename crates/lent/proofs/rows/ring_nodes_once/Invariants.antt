-- `lent::rows::ring_nodes_once` meets its contract. The loop's invariant: the first i numbers passed, and are seen. Assumes nothing.
use Rattle.store.specs.Store.{plan_in}
use Rattle.lent.proofs.RowTests.{Seen}
use Rattle.lent.proofs.rows.ring_nodes_once.Given as goal

abbrev pub invariant-loop-i : goal.invariant-loop-i
invariant-loop-i l = Seen (plan_in l.s) (plan_in l.s).ring l.i l.seen
