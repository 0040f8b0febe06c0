-- `lent::state::nodes_in_range` meets its contract. Assumes nothing.
use Rattle.std.proofs.Common.{rules, refl, sym, ◌∙◌, tests}
use Rattle.std.proofs.lemmas.Iterator.{YieldsList-from_range}
use Rattle.std.proofs.lemmas.Iterator.Search.{all_from_yields_List}
use Rattle.model.specs.Platform.{node_of}
use Rattle.model.specs.Range.{node_here}
use Rattle.store.specs.Store.{plan_in, state_in}
use Rattle.store.proofs.Store.{length-nodes}
use Rattle.lent.proofs.StateTests.{nodes-places}
use Rattle.lent.proofs.state.nodes_in_range.Goals as goal

pub returns : goal.returns
returns c =
    all_from_yields_List
    (λ i. node_here (plan_in c.args.s.now) (state_in c.args.s.now).done c.args.t i (node_of (state_in c.args.s.now) i)) _ _ _ c.all.ensures.ran
    (YieldsList-from_range 0 _ _ refl refl) (λ x b q k. search (rules, tests))
    ∙ nodes-places (plan_in c.args.s.now) (state_in c.args.s.now).done c.args.t (state_in c.args.s.now).nodes _
    (c.node_count.ensures ∙ sym (length-nodes c.args.s.now))
