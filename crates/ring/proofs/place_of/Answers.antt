-- `ring::place_of` meets its contract. Assumes nothing.
use Rattle.std.proofs.Common.{rules, tests, nat_eq, ◌∙◌}
use Rattle.std.proofs.lemmas.Iterator.Search.{position_from_yields_List}
use Rattle.std.proofs.lemmas.Iterator.{YieldsList-from_slice}
use Rattle.ring.proofs.Searches.{place-found}
use Rattle.ring.proofs.place_of.Goals as goal

pub returns : goal.returns
returns c =
    let p =
    position_from_yields_List (λ x. nat_eq x c.args.i) _ _ _ c.position.ensures.ran (YieldsList-from_slice c.args.order.now cc)
    (λ x b q k. search (rules, tests)) in
    c.unwrap_or.ensures ∙ place-found _ _ _ p
