-- `course::steps::step` meets its contract. Assumes nothing.
use mathlib.Core.Path.{ap}
use Rattle.plans.specs.Plan.{Plan}
use Rattle.event.proofs.Readiness.{ready-plain}
use Rattle.course.proofs.Parting.{apart-held, apart-plan, apart-acting}
use Rattle.course.proofs.Choosing.{looked, chosen-quiet, chosen-ended, chosen-crash, chosen-message}
use native.Mathlib.Omega.{arith}
use Rattle.course.proofs.steps.step.Goals as goal

pub end_tick-end-requires : goal.end_tick-end-requires
end_tick-end-requires c = (apart-held c.requires.underway.apart).size

pub earliest_crash-crash-requires : goal.earliest_crash-crash-requires
earliest_crash-crash-requires c =
    let k = c.requires.underway in
    apart-acting k.apart k.ready

pub overflow_add-end : goal.overflow_add-end
overflow_add-end c =
    let p = c.requires in
    let k = p.underway in
    let e = ap (λ (z : Plan). z.end) (apart-plan k.apart) in
    omega (arith, c.end_tick-end.ensures, e, (ready-plain p.whole k.ready).end≤)

pub timers-requires : goal.timers-requires
timers-requires c =
    let l = looked c.args.c.now c.message_tick.result c.end_tick-end.ensures c.earliest_crash-crash.ensures c.message_tick.ensures c.unwrap_or-due.ensures in
    let p = c.requires in
    let k = p.underway in
    let h = c.if-c-crash.true in
    let quiet = chosen-quiet k l h (omega (arith, h, c.if-crash-due.true)) in
    record { whole = p.whole; underway = k; quiet = quiet; room = p.room }

pub returns-then-c-crash : goal.returns-then-c-crash
returns-then-c-crash c =
    λ whole k.
    let l = looked c.args.c.now c.message_tick.result c.end_tick-end.ensures c.earliest_crash-crash.ensures c.message_tick.ensures c.unwrap_or-due.ensures in
    let h = c.if-c-crash.true in
    let quiet = chosen-quiet k l h (omega (arith, h, c.if-crash-due.true)) in
    c.timers.ensures whole k quiet

pub returns-then-end-crash : goal.returns-then-end-crash
returns-then-end-crash c =
    λ whole k.
    let l = looked c.args.c.now c.message_tick.result c.end_tick-end.ensures c.earliest_crash-crash.ensures c.message_tick.ensures c.unwrap_or-due.ensures in
    chosen-ended k l (omega (arith, c.if-crash-due.true)) c.if-c-crash.false c.if-end-crash.true

pub do_crash-requires : goal.do_crash-requires
do_crash-requires c =
    let l = looked c.args.c.now c.message_tick.result c.end_tick-end.ensures c.earliest_crash-crash.ensures c.message_tick.ensures c.unwrap_or-due.ensures in
    let p = c.requires in
    let k = p.underway in
    let next = chosen-crash k l (omega (arith, c.if-crash-due.true)) c.if-c-crash.false c.if-end-crash.false in
    record { q = _; whole = p.whole; underway = k; node = _; next = next }

pub returns-then-crash-due : goal.returns-then-crash-due
returns-then-crash-due c =
    λ whole k.
    let l = looked c.args.c.now c.message_tick.result c.end_tick-end.ensures c.earliest_crash-crash.ensures c.message_tick.ensures c.unwrap_or-due.ensures in
    let next = chosen-crash k l (omega (arith, c.if-crash-due.true)) c.if-c-crash.false c.if-end-crash.false in
    c.do_crash.ensures _ whole _ k next

pub timers-requires-then-c-due : goal.timers-requires-then-c-due
timers-requires-then-c-due c =
    let l = looked c.args.c.now c.message_tick.result c.end_tick-end.ensures c.earliest_crash-crash.ensures c.message_tick.ensures c.unwrap_or-due.ensures in
    let p = c.requires in
    let k = p.underway in
    let h = c.if-c-due.true in
    let quiet = chosen-quiet k l (omega (arith, h, c.if-crash-due.false)) h in
    record { whole = p.whole; underway = k; quiet = quiet; room = p.room }

pub returns-then-c-due : goal.returns-then-c-due
returns-then-c-due c =
    λ whole k.
    let l = looked c.args.c.now c.message_tick.result c.end_tick-end.ensures c.earliest_crash-crash.ensures c.message_tick.ensures c.unwrap_or-due.ensures in
    let h = c.if-c-due.true in
    let quiet = chosen-quiet k l (omega (arith, h, c.if-crash-due.false)) h in
    c.timers-then-c-due.ensures whole k quiet

pub do_message-requires : goal.do_message-requires
do_message-requires c =
    let l = looked c.args.c.now c.message_tick.result c.end_tick-end.ensures c.earliest_crash-crash.ensures c.message_tick.ensures c.unwrap_or-due.ensures in
    let p = c.requires in
    let k = p.underway in
    let delivers = chosen-message k l (omega (arith, c.if-crash-due.false)) (omega (arith, c.if-c-due.false)) in
    record { whole = p.whole; underway = k; delivers = delivers; room = p.room }

pub returns : goal.returns
returns c =
    λ whole k.
    let l = looked c.args.c.now c.message_tick.result c.end_tick-end.ensures c.earliest_crash-crash.ensures c.message_tick.ensures c.unwrap_or-due.ensures in
    let delivers = chosen-message k l (omega (arith, c.if-crash-due.false)) (omega (arith, c.if-c-due.false)) in
    c.do_message.ensures whole k delivers
