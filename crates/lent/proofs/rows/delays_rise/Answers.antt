-- `lent::rows::delays_rise` meets its contract. Assumes nothing.
use Rattle.std.proofs.Common.{rules, refl, ◌∙◌, ◌-◌, ◌+◌, tests}
use Rattle.std.proofs.lemmas.Iterator.{YieldsList-from_range}
use Rattle.std.proofs.lemmas.Iterator.Search.{all_from_yields_List}
use Rattle.plans.specs.Plan.{above, delay_order}
use Rattle.store.specs.Store.{plan_in}
use Rattle.store.specs.Inside.{delay_at}
use Rattle.lent.proofs.Places.{rising-places}
use Rattle.lent.proofs.rows.delays_rise.Goals as goal

pub returns : goal.returns
unfolding delay_order
returns c =
    all_from_yields_List (λ i. above (delay_at (plan_in c.args.s.now) (i - 1)) (delay_at (plan_in c.args.s.now) (i - 1 + 1))) _ _ _ c.all.ensures.ran
    (YieldsList-from_range 1 _ _ refl refl) (λ x b q k. search (rules, tests))
    ∙ rising-places (plan_in c.args.s.now).delays _ above _ c.delay_count.ensures
