-- `lent::state::messages_in_range` meets its contract. The loop's invariant: the answer is that of the messages from place i on, whose
-- numbers may rise from `low`. Assumes nothing.
use Rattle.std.proofs.Common.{◌≡◌, ◌≤◌, drop}
use Rattle.model.specs.Range.{flight_test}
use Rattle.store.specs.Store.{plan_in, state_in}
use Rattle.lent.proofs.state.messages_in_range.Given as goal

abbrev pub invariant-loop-i : goal.invariant-loop-i
invariant-loop-i l = record {
  below : l.low ≤ l.next;
  same : flight_test (plan_in l.s) l.t 0 l.next (state_in l.s).flight ≡ flight_test (plan_in l.s) l.t l.low l.next (drop l.i (state_in l.s).flight);
}
