-- `store::plan::first_row` meets its contract. Assumes nothing.
use Prim.Native.Nat.{◌+◌, ◌-◌, ◌/◌}
use mathlib.Core.Path.{sym, ap, ◌∙◌}
use Rattle.plans.specs.Plan.{Delay}
use Rattle.store.specs.Store.{plan_in}
use Rattle.store.proofs.Store.{delay-read}
use Rattle.store.proofs.Delays.{rows-rise, search-start, search-up, search-down, search-end}
use native.Mathlib.Omega.{arith}
use Rattle.store.proofs.plan.first_row.Goals as goal

pub loop-low-init : goal.loop-low-init
loop-low-init c = search-start _ _ _ c.delay_count-high.ensures

pub loop-low-preserved-then-here-number : goal.loop-low-preserved-then-here-number
loop-low-preserved-then-here-number c =
    let p = plan_in c.args.s.now in
    search-up p.delays c.args.number (rows-rise p.delays c.requires.s_value) c.loop-low.low c.loop-low.high
    (c.loop-low.low + (c.loop-low.high - c.loop-low.low) / 2) c.get-here.result c.loop-low.invariant (omega arith) (omega arith)
    (c.get-here.ensures.value ∙ sym (ap (λ (r : Delay). r.number)
    (delay-read c.args.s.now (c.loop-low.low + (c.loop-low.high - c.loop-low.low) / 2) (omega arith))))
    c.if-here-number.true

pub loop-low-preserved : goal.loop-low-preserved
loop-low-preserved c =
    let p = plan_in c.args.s.now in
    search-down p.delays c.args.number (rows-rise p.delays c.requires.s_value) c.loop-low.low c.loop-low.high
    (c.loop-low.low + (c.loop-low.high - c.loop-low.low) / 2) c.get-here.result c.loop-low.invariant (omega arith) (omega arith)
    (c.get-here.ensures.value ∙ sym (ap (λ (r : Delay). r.number)
    (delay-read c.args.s.now (c.loop-low.low + (c.loop-low.high - c.loop-low.low) / 2) (omega arith))))
    c.if-here-number.false

pub returns : goal.returns
returns c = search-end _ _ _ _ c.loop-low.invariant c.loop-low-test.false
