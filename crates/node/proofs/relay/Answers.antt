-- `node::relay` meets its contract. Assumes nothing.
use mathlib.Core.Path.{sym}
use Rattle.node.proofs.Messages.{jumps-few, relayed-put}
use borrow.Author.Rules.{rules}
use Rattle.node.proofs.relay.Goals as goal

pub slice_bounds-put_reports-end : goal.slice_bounds-put_reports-end
slice_bounds-put_reports-end c =
    let few = jumps-few c.args.order.now _ _ _ (search rules) c.count_unlisted-left.ensures c.jump_count-jumps.ensures in
    search rules

pub returns : goal.returns
returns c =
    sym
    (relayed-put _ _ _ _ _ _ _ _ _ c.place_of-p.ensures c.target_row-row.ensures c.count_unlisted-left.ensures
    c.jump_count-jumps.ensures c.put_reports.ensures)
