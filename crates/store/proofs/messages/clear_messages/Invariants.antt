-- `store::messages::clear_messages` meets its contract. The loop's invariant: the fields before this one are done. Assumes nothing.
use Rattle.std.proofs.Common.{◌≡◌, take}
use Rattle.store.specs.Columns.{rows_cleared}
use Rattle.store.specs.Store.{message_parts}
use Rattle.store.proofs.messages.clear_messages.Given as goal

abbrev pub invariant-loop-field : goal.invariant-loop-field
invariant-loop-field l = l.s ≡ rows_cleared (take l.field-index message_parts) l.fn.s l.n
