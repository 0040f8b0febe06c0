-- `ring::table_rows` meets its contract. Assumes nothing.
use Rattle.std.proofs.Common.{rules, List, ◌≡◌, ℕ, ◌≤◌, take, refl, ap, ◌∙◌}
use Rattle.limits.specs.Limits.{most_nodes}
use Rattle.ring.specs.Ring.{numbers, table_row}
use Rattle.ring.proofs.Rows.{length-numbers, take-numbers, filled, filled-turn, full}
use Rattle.ring.proofs.TableLaws.{refused-rows, accepted-rows, accepted, is-refused, is-taken}
use Rattle.ring.proofs.table_rows.Goals as goal

pub returns-then-is_err : goal.returns-then-is_err
returns-then-is_err c = refused-rows _ _ (is-refused _ _ _ _ c.table_answer.ensures c.is_err.ensures.negation c.if-is_err.true)

pub slice_bounds-all-end : goal.slice_bounds-all-end
slice_bounds-all-end c =
    let taken = is-taken _ _ _ _ c.table_answer.ensures c.is_err.ensures.negation c.if-is_err.false in
    rw (c.number_order-all.ensures, length-numbers) ((accepted _ _ taken).1)

pub slice_bounds-ring-end : goal.slice_bounds-ring-end
slice_bounds-ring-end c =
    let few : c.args.n ≤ most_nodes = (accepted _ _ (is-taken _ _ _ _ c.table_answer.ensures c.is_err.ensures.negation c.if-is_err.false)).1 in
    rw (c.number_order-all.ensures, take-numbers, length-numbers)

pub loop-i-init : goal.loop-i-init
unfolding filled numbers
loop-i-init c =
    let taken = is-taken _ _ _ _ c.table_answer.ensures c.is_err.ensures.negation c.if-is_err.false in
    let few : c.args.n ≤ most_nodes = (accepted _ _ taken).1 in
    (taken, ap (take c.args.n) c.number_order-all.ensures ∙ take-numbers c.args.n most_nodes 0 few, refl)

pub loop-i-preserved : goal.loop-i-preserved
loop-i-preserved c =
    let kept = c.loop-i.invariant in (
      kept.0,
      kept.1,
      filled-turn _ _ _ _ _ _ kept.2 (c.table_row.ensures ∙ ap (λ (l : List ℕ). table_row l c.args.d c.loop-i.i) kept.1) (search rules),
    )

pub returns : goal.returns
returns c =
    let kept = c.loop-i.invariant in
    let end : c.loop-i.i ≡ most_nodes = search rules in
    kept.2 ∙ ap (filled _ _ _) end ∙ full _ _ _ ∙ accepted-rows _ _ kept.0
