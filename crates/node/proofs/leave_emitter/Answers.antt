-- `node::leave_emitter` meets its contract. Assumes nothing.
use mathlib.Core.Path.{refl, sym, ap, ◌∙◌}
use mathlib.Core.List.{[], ◌∷◌}
use Rattle.ring.proofs.Searches.{place-le}
use Rattle.node.specs.Node.{O, message, turn, silent, turned, relayed}
use Rattle.node.proofs.Messages.{turned-count, turned-passed}
use Rattle.node.proofs.Rules.{leaving-alone, leaving-moves}
use borrow.Author.Rules.{rules}
use Rattle.node.proofs.leave_emitter.Goals as goal

-- the place after the emitter's fits a machine word
pub overflow_add-p : goal.overflow_add-p
overflow_add-p c = let h = place-le c.args.order.now c.args.n.emitter in search rules

pub returns-then-found-me : goal.returns-then-found-me
returns-then-found-me c =
    let d = c.with_listed-list.ensures in
    let k = c.with_listed-mark.ensures in
    turned-passed _ _ [] _ (c.quiet.ensures ∙ ap (λ n. turned (silent n)) c.lone.ensures)
    ∙ ap turned (sym (leaving-alone _ _ _ _ _ _ _ _ _ d k c.place_of-p.ensures c.find_back-found.ensures
    c.if-found-me.true))

pub relay-requires : goal.relay-requires
relay-requires c =
    let one = turned-count _ (turn _ (message O _ 0 ∷ []) 0) c.sends_one.ensures in
    search rules

pub returns : goal.returns
returns c =
    let d = c.with_listed-list.ensures in
    let k = c.with_listed-mark.ensures in
    c.relay.ensures ∙ ap (relayed _ _ _) (turned-passed _ _ (message O _ 0 ∷ []) _ c.sends_one.ensures)
    ∙ sym (leaving-moves _ _ _ _ _ _ _ _ _ d k c.place_of-p.ensures c.find_back-found.ensures
    c.if-found-me.false (search rules) _ refl)
