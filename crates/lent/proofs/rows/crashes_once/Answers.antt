-- `lent::rows::crashes_once` meets its contract. Assumes nothing.
use Rattle.std.proofs.Common.{rules, refl, ◌∙◌, ◌+◌, drop, not, tests}
use Rattle.std.proofs.lemmas.Iterator.{YieldsList-from_range}
use Rattle.std.proofs.lemmas.Iterator.Search.{all_from_yields_List}
use Rattle.plans.specs.Plan.{hits}
use Rattle.plans.specs.Plain.{row_at}
use Rattle.store.specs.Store.{plan_in}
use Rattle.lent.proofs.Places.{once-places}
use Rattle.lent.proofs.rows.crashes_once.Goals as goal

pub returns : goal.returns
returns c =
    all_from_yields_List (λ i. not (hits (drop (i + 1) (plan_in c.args.s.now).crashes) (row_at (plan_in c.args.s.now) i).node)) _ _ _ c.all.ensures.ran
    (YieldsList-from_range 0 _ _ refl refl) (λ x b q k. search (rules, tests))
    ∙ once-places (plan_in c.args.s.now).crashes _ c.crash_count.ensures
