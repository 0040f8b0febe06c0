-- `host::do_timers` meets its contract. Assumes nothing.
use Rattle.std.proofs.Common.{rules, refl}
use Rattle.host.specs.Call.{timers_answer, timers_leaves, timers_sends}
use Rattle.host.proofs.Calls.{record-refused, tick-refused, part-refused, timer-asks, timers-taken}
use Rattle.host.proofs.do_timers.Goals as goal

pub returns-in_err-try_record : goal.returns-in_err-try_record
unfolding timers_answer timers_leaves timers_sends
returns-in_err-try_record c = record-refused _ _ _ _ _ _ _ _ c.in_err-try_record.ensures _ (search rules)

pub returns-in_err-tick : goal.returns-in_err-tick
unfolding timers_answer timers_leaves timers_sends
returns-in_err-tick c = tick-refused _ _ _ c.in_ok-try_record.ensures c.read_record-r.ensures _ _ _ _ _ c.in_err-tick.ensures _ (search rules)

pub returns-then-messages-lt-PART_SIZE : goal.returns-then-messages-lt-PART_SIZE
unfolding timers_answer timers_leaves timers_sends
returns-then-messages-lt-PART_SIZE c =
    part-refused _ _ _ c.in_ok-try_record.ensures c.read_record-r.ensures _ c.in_ok-tick.ensures _ _ _ refl c.if-messages-lt-PART_SIZE.true

pub timer_turn-requires : goal.timer_turn-requires
timer_turn-requires c = timer-asks _ _ _ c.in_ok-try_record.ensures c.read_record-r.ensures _ c.in_ok-tick.ensures

pub returns : goal.returns
unfolding timers_answer timers_leaves timers_sends
returns c =
    timers-taken _ _ _ c.in_ok-try_record.ensures c.read_record-r.ensures _ c.in_ok-tick.ensures _ _ _ _ _
    c.if-messages-lt-PART_SIZE.false refl c.timer_turn.ensures c.leave.ensures.0 c.leave.ensures.1
