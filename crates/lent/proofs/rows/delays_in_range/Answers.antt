-- `lent::rows::delays_in_range` meets its contract. Assumes nothing.
use Rattle.std.proofs.Common.{rules, refl, ◌∙◌, tests}
use Rattle.std.proofs.lemmas.Iterator.{YieldsList-from_range}
use Rattle.std.proofs.lemmas.Iterator.Search.{all_from_yields_List}
use Rattle.plans.specs.Plan.{delay_range}
use Rattle.store.specs.Store.{plan_in}
use Rattle.store.specs.Inside.{delay_at}
use Rattle.lent.proofs.Places.{every-places}
use Rattle.lent.proofs.rows.delays_in_range.Goals as goal

pub returns : goal.returns
returns c =
    all_from_yields_List (λ i. delay_range (plan_in c.args.s.now) (delay_at (plan_in c.args.s.now) i)) _ _ _ c.all.ensures.ran
    (YieldsList-from_range 0 _ _ refl refl) (λ x b q k. search (rules, tests))
    ∙ every-places (plan_in c.args.s.now).delays _ (delay_range (plan_in c.args.s.now)) _ c.delay_count.ensures
