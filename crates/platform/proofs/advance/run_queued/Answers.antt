-- `platform::advance::run_queued` meets its contract. Assumes nothing.
use Rattle.std.proofs.Common.{◌≡◌, Some, None, arith}
use mathlib.Core.Path.{refl}
use Rattle.platform.proofs.Running.{run-used}
use Rattle.platform.proofs.Queued.{queued-starts, queued-on, queued-did, queued-ended, queued-refused, queued-back}
use Rattle.platform.proofs.advance.run_queued.Goals as goal

pub loop-events-init : goal.loop-events-init
loop-events-init c = (refl, refl, λ first k. queued-starts first _ _ _ _ k.ready k)

pub next-requires : goal.next-requires
next-requires c = let w = c.loop-events.invariant.2 _ c.begin-c.ensures in (w.whole, w.underway)

pub loop-events-preserved : goal.loop-events-preserved
loop-events-preserved c =
    let l = c.loop-events in
    let n = c.next in
    let e : c.in-Ok-Some.field-0 ≡ Some c.in-Ok-Some.field-0-0 = c.in-Ok-Some.field-0-is in (
      omega (arith, n.auto.b, l.invariant.0),
      omega (arith, n.auto.q, l.invariant.1),
      λ first k. queued-did (l.invariant.2 first k) c.loop-events-test.true n.ensures (rw e at c.in-Ok-Some.is),
    )

pub finish-requires : goal.finish-requires
finish-requires c =
    let w = c.loop-events.invariant.2 _ c.begin-c.ensures in (_, queued-on w c.loop-events-test.true c.next.ensures)

pub returns-in-Ok-None : goal.returns-in-Ok-None
returns-in-Ok-None c =
    let w = c.loop-events.invariant.2 _ c.begin-c.ensures in
    let more = c.loop-events-test.true in
    let e : c.in-Ok-None.field-0 ≡ None = c.in-Ok-None.field-0-is in
    let r = queued-ended w more c.next.ensures (rw e at c.in-Ok-None.is) (c.finish.ensures _ (queued-on w more c.next.ensures)) in
    record { value = r.value; store_after = r.store_after }

pub finish-requires-in-Err : goal.finish-requires-in-Err
finish-requires-in-Err c =
    let w = c.loop-events.invariant.2 _ c.begin-c.ensures in (_, queued-on w c.loop-events-test.true c.next.ensures)

pub returns-in-Err : goal.returns-in-Err
returns-in-Err c =
    let w = c.loop-events.invariant.2 _ c.begin-c.ensures in
    let more = c.loop-events-test.true in
    let r = queued-refused w more c.next.ensures c.in-Err.is (c.finish-in-Err.ensures _ (queued-on w more c.next.ensures)) in
    record { value = r.value; store_after = r.store_after }

pub finish-requires-2 : goal.finish-requires-2
finish-requires-2 c = let w = c.loop-events.invariant.2 _ c.begin-c.ensures in (w.whole, w.underway)

pub after_budget-requires : goal.after_budget-requires
after_budget-requires c = (queued-back (c.loop-events.invariant.2 _ c.begin-c.ensures) c.finish-2.ensures).ready

pub returns : goal.returns
returns c =
    let h = queued-back (c.loop-events.invariant.2 _ c.begin-c.ensures) c.finish-2.ensures in
    let r = run-used _ _ _ _ h (omega arith) c.after_budget.ensures in record { value = r.value; store_after = r.store_after }
