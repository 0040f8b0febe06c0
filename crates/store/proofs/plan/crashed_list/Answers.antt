-- `store::plan::crashed_list` meets its contract. Assumes nothing.
use Rattle.std.proofs.Common.{◌≡◌, refl, sym, ap, ◌∙◌, arith}
use Rattle.ring.specs.Ring.{listing_all}
use Rattle.plans.specs.Plan.{with_crashed}
use Rattle.plans.proofs.Facts.{plan-plain}
use Rattle.model.specs.Platform.{crashed_list}
use Rattle.store.specs.Store.{plan_in, state_in}
use Rattle.store.proofs.Crashes.{crashed-next}
use Rattle.store.proofs.plan.crashed_list.Goals as goal

pub loop-i-init : goal.loop-i-init
unfolding crashed_list with_crashed listing_all
loop-i-init c = refl

pub with_listed-dead-requires : goal.with_listed-dead-requires
with_listed-dead-requires c =
    let p = plan-plain _ c.requires.s_value in rw c.crash_at.ensures (omega (arith, p.n≤, p.node c.loop-i.i (omega arith)))

pub loop-i-preserved : goal.loop-i-preserved
loop-i-preserved c =
    c.with_listed-dead.ensures
    ∙ rw (c.loop-i.invariant, c.crash_at.ensures) (sym (crashed-next (plan_in c.args.s.now) c.loop-i.i (omega arith)))

pub returns : goal.returns
returns c =
    let e : c.loop-i.i ≡ (state_in c.args.s.now).done = omega arith in c.loop-i.invariant ∙ ap (crashed_list (plan_in c.args.s.now)) e
