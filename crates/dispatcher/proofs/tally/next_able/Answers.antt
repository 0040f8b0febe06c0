-- `dispatcher::tally::next_able` meets its contract. Assumes nothing.
use Rattle.std.proofs.Common.{◌≡◌, ◌-◌, rules}
use borrow.Author.Tests.{tests}
use mathlib.Core.Path.{◌∙◌}
use Rattle.std.specs.List.{position_from}
use Rattle.std.proofs.lemmas.Iterator.{YieldsList-from_slice}
use Rattle.std.proofs.lemmas.Iterator.Search.{position_from_yields_List}
use Rattle.std.proofs.lemmas.Iterator.Adapters.{position_from-zero}
use Rattle.dispatcher.specs.declared.tally.Tally.{Tally}
use Rattle.dispatcher.proofs.Marks.{row, found-later, found-earlier}
use Rattle.dispatcher.proofs.tally.next_able.Goals as goal

pub returns-in-Some : goal.returns-in-Some
returns-in-Some c =
    let ts = c.args.tallies.now in
    let r : c.position.result ≡ position_from (λ (t : Tally). t.able) 0 (row ts c.args.at (c.args.n - c.args.at)) =
    position_from_yields_List (λ (t : Tally). t.able) _ _ c.position.result c.position.ensures.ran (YieldsList-from_slice _ c.iter.ensures.rest)
    (λ x b q k. search (rules, tests)) ∙ position_from-zero (λ (t : Tally). t.able) _ in
    found-later ts c.told-tallies c.args.n c.args.at c.requires.0 c.requires.1 r c.in-Some.is

pub returns-in-None : goal.returns-in-None
returns-in-None c =
    let ts = c.args.tallies.now in
    let r : c.position.result ≡ position_from (λ (t : Tally). t.able) 0 (row ts c.args.at (c.args.n - c.args.at)) =
    position_from_yields_List (λ (t : Tally). t.able) _ _ c.position.result c.position.ensures.ran (YieldsList-from_slice _ c.iter.ensures.rest)
    (λ x b q k. search (rules, tests)) ∙ position_from-zero (λ (t : Tally). t.able) _ in
    let q : c.position-in-None.result ≡ position_from (λ (t : Tally). t.able) 0 (row ts 0 c.args.at) =
    position_from_yields_List (λ (t : Tally). t.able) _ _ c.position-in-None.result c.position-in-None.ensures.ran
    (YieldsList-from_slice _ c.iter-in-None.ensures.rest) (λ x b q k. search (rules, tests)) ∙ position_from-zero (λ (t : Tally). t.able) _ in
    found-earlier ts c.told-tallies c.args.n c.args.at c.requires.0 c.requires.1 r c.in-None.is q
