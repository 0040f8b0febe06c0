-- `ring::target_row` meets its contract. Assumes nothing.
use Rattle.std.proofs.Common.{rules, ap, ◌∙◌}
use Rattle.ring.specs.Ring.{ahead, jumps}
use Rattle.ring.proofs.Laws.{one_shl}
use Rattle.ring.proofs.Counts.{targets-fit, row-begun, row-filled}
use Rattle.ring.proofs.Rows.{filled-turn}
use Rattle.ring.proofs.target_row.Goals as goal

pub slice_bounds-out-end : goal.slice_bounds-out-end
slice_bounds-out-end c =
    targets-fit c.args.order.now c.args.d c.args.p _ (c.jump_count-last.ensures ∙ ap jumps c.count_unlisted.ensures) (search rules)

pub slice_bounds-target-items-end : goal.slice_bounds-target-items-end
slice_bounds-target-items-end c =
    let few = targets-fit c.args.order.now c.args.d c.args.p _ (c.jump_count-last.ensures ∙ ap jumps c.count_unlisted.ensures) (search rules) in
    search rules

pub loop-j-init : goal.loop-j-init
loop-j-init c =
    let last = c.jump_count-last.ensures ∙ ap jumps c.count_unlisted.ensures in
    row-begun c.args.order.now c.args.d c.args.p _ last (targets-fit c.args.order.now c.args.d c.args.p _ last (search rules))

pub loop-j-preserved : goal.loop-j-preserved
loop-j-preserved c =
    let few = targets-fit c.args.order.now c.args.d c.args.p _ (c.jump_count-last.ensures ∙ ap jumps c.count_unlisted.ensures) (search rules) in
    filled-turn _ _ _ _ _ _ c.loop-j.invariant (c.find_ahead.ensures ∙ ap (ahead _ _ _) (one_shl 64 c.loop-j.j (search rules))) (search rules)

pub returns : goal.returns
returns c =
    let last = c.jump_count-last.ensures ∙ ap jumps c.count_unlisted.ensures in
    let few = targets-fit c.args.order.now c.args.d c.args.p _ last (search rules) in
    row-filled c.args.order.now c.args.d c.args.p _ last _ _ c.loop-j.invariant (search rules)
