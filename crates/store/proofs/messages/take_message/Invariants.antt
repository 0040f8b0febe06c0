-- `store::messages::take_message` meets its contract. The loop's invariant: the fields before this one are done. Assumes nothing.
use Rattle.std.proofs.Common.{◌≡◌, take}
use Rattle.store.specs.Columns.{row_out}
use Rattle.store.specs.Store.{message_parts}
use Rattle.store.proofs.messages.take_message.Given as goal

abbrev pub invariant-loop-field : goal.invariant-loop-field
invariant-loop-field l = l.s ≡ row_out (take l.field-index message_parts) l.fn.s l.i l.n
