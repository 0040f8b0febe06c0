-- `platform::run` meets its contract. Assumes nothing.
use Rattle.event.proofs.Readiness.{tested-ready}
use Rattle.fields.proofs.Answers.{fails, holds}
use Rattle.platform.proofs.Answers.{run-bad, run-next}
use Rattle.platform.proofs.run.Goals as goal

pub returns-then-not-in_range : goal.returns-then-not-in_range
returns-then-not-in_range c =
    let r = run-bad _ _ (fails c.in_range.ensures c.if-not-in_range.true-raw) in record { value = r.value; store_after = r.store_after }

pub run_ready-requires : goal.run_ready-requires
run_ready-requires c =
    let a = c.args in
    tested-ready a.store.now (λ i. (c.slice_known-1.given i).fits) (holds c.in_range.ensures c.if-not-in_range.false-raw)

pub returns : goal.returns
returns c =
    let u = c.run_ready.ensures in
    let r = run-next _ _ (holds c.in_range.ensures c.if-not-in_range.false-raw) (record { value = u.value; store_after = u.store_after }) in
    record { value = r.value; store_after = r.store_after }
