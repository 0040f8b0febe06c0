-- `host::deliver` meets its contract. Assumes nothing.
use Rattle.std.proofs.Common.{rules, refl}
use Rattle.host.specs.Call.{deliver_answer, deliver_leaves, deliver_sends}
use Rattle.host.proofs.Calls.{record-refused, tick-refused, message-refused, part-refused, known, message-asks, deliver-taken}
use Rattle.host.proofs.deliver.Goals as goal

pub returns-in_err-try_record : goal.returns-in_err-try_record
unfolding deliver_answer deliver_leaves deliver_sends
returns-in_err-try_record c = record-refused _ _ _ _ _ _ _ _ c.in_err-try_record.ensures _ (search rules)

pub returns-in_err-tick : goal.returns-in_err-tick
unfolding deliver_answer deliver_leaves deliver_sends
returns-in_err-tick c = tick-refused _ _ _ c.in_ok-try_record.ensures c.read_record-r.ensures _ _ _ _ _ c.in_err-tick.ensures _ (search rules)

pub returns-in_err-m : goal.returns-in_err-m
unfolding deliver_answer deliver_leaves deliver_sends
returns-in_err-m c =
    message-refused _ _ _ c.in_ok-try_record.ensures c.read_record-r.ensures _ c.in_ok-tick.ensures _ _ _ _ _ _ _ _ c.in_err-m.ensures _
    (search rules)

pub returns-then-messages-lt-PART_SIZE : goal.returns-then-messages-lt-PART_SIZE
unfolding deliver_answer deliver_leaves deliver_sends
returns-then-messages-lt-PART_SIZE c =
    part-refused _ _ _ c.in_ok-try_record.ensures c.read_record-r.ensures _ c.in_ok-tick.ensures _ _ _
    (known _ _ _ c.in_ok-try_record.ensures c.read_record-r.ensures _ c.in_ok-tick.ensures _ _ _ _ _ c.in_ok-m.ensures)
    c.if-messages-lt-PART_SIZE.true

pub message_turn-requires : goal.message_turn-requires
message_turn-requires c = message-asks _ _ _ c.in_ok-try_record.ensures c.read_record-r.ensures _ c.in_ok-tick.ensures _ _ _ _ _ c.in_ok-m.ensures

pub returns : goal.returns
unfolding deliver_answer deliver_leaves deliver_sends
returns c =
    deliver-taken _ _ _ c.in_ok-try_record.ensures c.read_record-r.ensures _ c.in_ok-tick.ensures _ _ _ _ _ c.in_ok-m.ensures _ _ _ _ _
    c.if-messages-lt-PART_SIZE.false refl c.message_turn.ensures c.leave.ensures.0 c.leave.ensures.1
