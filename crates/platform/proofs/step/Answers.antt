-- `platform::step` meets its contract. Assumes nothing.
use native.Mathlib.Omega.{arith}
use Rattle.event.proofs.Readiness.{tested-ready}
use Rattle.fields.proofs.Answers.{fails, holds}
use Rattle.platform.proofs.Answers.{step-bad, step-next}
use Rattle.platform.proofs.step.Goals as goal

pub returns-then-not-in_range : goal.returns-then-not-in_range
returns-then-not-in_range c =
    let r = step-bad _ _ (fails c.in_range.ensures c.if-not-in_range.true-raw) in record { value = r.0; store_after = r.1.0; log_after = r.1.1 }

pub step_ready-requires : goal.step_ready-requires
step_ready-requires c =
    record {
      ready = tested-ready c.args.store.now (λ i. (c.slice_known-1.given i).fits)
          (holds c.in_range.ensures c.if-not-in_range.false-raw);
      log_room_in_bounds = omega arith;
    }

pub returns : goal.returns
returns c =
    let r = step-next _ _ (holds c.in_range.ensures c.if-not-in_range.false-raw) (omega arith)
    (c.step_ready.ensures.value, (c.step_ready.ensures.store_after, c.step_ready.ensures.log_after)) in
    record { value = r.0; store_after = r.1.0; log_after = r.1.1 }
