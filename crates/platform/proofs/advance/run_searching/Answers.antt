-- `platform::advance::run_searching` meets its contract. Assumes nothing.
use Rattle.std.proofs.Common.{◌≡◌, Some, None, arith}
use mathlib.Core.Path.{sym, ◌∙◌}
use Rattle.platform.proofs.Running.{run-starts, run-goes-on, run-ended, run-refused, run-used}
use Rattle.platform.proofs.advance.run_searching.Goals as goal

pub loop-done-init : goal.loop-done-init
loop-done-init c = run-starts _ _ c.requires

pub loop-done-preserved : goal.loop-done-preserved
loop-done-preserved c =
    let d = c.do_event.ensures in
    let e : c.in-Ok-Some.field-0 ≡ Some c.in-Ok-Some.field-0-0 = c.in-Ok-Some.field-0-is in
    run-goes-on _ _ _ _ c.loop-done.invariant c.loop-done-test.true d.1 (rw e at (sym c.in-Ok-Some.is ∙ d.0))

pub returns-in-Ok-None : goal.returns-in-Ok-None
returns-in-Ok-None c =
    let d = c.do_event.ensures in
    let e : c.in-Ok-None.field-0 ≡ None = c.in-Ok-None.field-0-is in
    let r = run-ended _ _ _ _ c.loop-done.invariant c.loop-done-test.true d.1 (rw e at (sym c.in-Ok-None.is ∙ d.0)) in
    record { value = r.value; store_after = r.store_after }

pub returns-in-Err : goal.returns-in-Err
returns-in-Err c =
    let d = c.do_event.ensures in
    let r = run-refused _ _ _ _ c.loop-done.invariant c.loop-done-test.true d.1 (sym c.in-Err.is ∙ d.0) in
    record { value = r.value; store_after = r.store_after }

pub returns : goal.returns
returns c =
    let r = run-used _ _ _ _ c.loop-done.invariant (omega arith) c.after_budget.ensures in record { value = r.value; store_after = r.store_after }
