-- `lent::rows::crashes_in_range` meets its contract. Assumes nothing.
use Rattle.std.proofs.Common.{rules, refl, ◌∙◌, tests}
use Rattle.std.proofs.lemmas.Iterator.{YieldsList-from_range}
use Rattle.std.proofs.lemmas.Iterator.Search.{all_from_yields_List}
use Rattle.plans.specs.Plan.{crash_range}
use Rattle.plans.specs.Plain.{no_crash, row_at}
use Rattle.store.specs.Store.{plan_in}
use Rattle.lent.proofs.Places.{every-places}
use Rattle.lent.proofs.rows.crashes_in_range.Goals as goal

pub returns : goal.returns
returns c =
    all_from_yields_List (λ i. crash_range (plan_in c.args.s.now) (row_at (plan_in c.args.s.now) i)) _ _ _ c.all.ensures.ran
    (YieldsList-from_range 0 _ _ refl refl) (λ x b q k. search (rules, tests))
    ∙ every-places (plan_in c.args.s.now).crashes no_crash (crash_range (plan_in c.args.s.now)) _ c.crash_count.ensures
