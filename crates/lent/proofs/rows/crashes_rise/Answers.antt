-- `lent::rows::crashes_rise` meets its contract. Assumes nothing.
use Rattle.std.proofs.Common.{rules, refl, ◌∙◌, ◌-◌, ◌+◌, tests}
use Rattle.std.proofs.lemmas.Iterator.{YieldsList-from_range}
use Rattle.std.proofs.lemmas.Iterator.Search.{all_from_yields_List}
use Rattle.plans.specs.Plan.{later}
use Rattle.plans.specs.Plain.{no_crash, row_at}
use Rattle.store.specs.Store.{plan_in}
use Rattle.lent.proofs.Places.{rising-places}
use Rattle.lent.proofs.rows.crashes_rise.Goals as goal

pub returns : goal.returns
returns c =
    all_from_yields_List (λ i. later (row_at (plan_in c.args.s.now) (i - 1)) (row_at (plan_in c.args.s.now) (i - 1 + 1))) _ _ _ c.all.ensures.ran
    (YieldsList-from_range 1 _ _ refl refl) (λ x b q k. search (rules, tests))
    ∙ rising-places (plan_in c.args.s.now).crashes no_crash later _ c.crash_count.ensures
