-- `lent::rows::crashes_from` meets its contract. Assumes nothing.
use Rattle.std.proofs.Common.{rules, refl, ◌∙◌, ◌==◌, tests}
use Rattle.std.proofs.lemmas.Iterator.{YieldsList-from_range}
use Rattle.std.proofs.lemmas.Iterator.Search.{any_from_yields_List}
use Rattle.plans.specs.Plain.{row_at}
use Rattle.store.specs.Store.{plan_in}
use Rattle.lent.proofs.Places.{hits-places}
use Rattle.lent.proofs.rows.crashes_from.Goals as goal

pub returns : goal.returns
returns c =
    any_from_yields_List (λ i. (row_at (plan_in c.args.s.now) i).node == c.args.node) _ _ _ c.any.ensures.ran
    (YieldsList-from_range c.args.first _ _ refl refl) (λ x b q k. search (rules, tests))
    ∙ hits-places (plan_in c.args.s.now).crashes c.args.first c.args.node _ c.crash_count.ensures
