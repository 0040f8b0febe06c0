-- `store::plan::ring_order` meets its contract. Assumes nothing.
use native.Mathlib.Omega.{arith}
use Rattle.store.proofs.Orders.{numbered-size, given-part}
use Rattle.store.proofs.plan.ring_order.Goals as goal

pub slice_bounds-result-end : goal.slice_bounds-result-end
slice_bounds-result-end c =
    numbered-size c.args.s.now c.requires.sized c.ring_size-size.ensures (omega arith) c.requires.all_value
    c.node_count-n.ensures

pub returns : goal.returns
returns c =
    given-part c.args.s.now c.requires.sized c.ring_size-size.ensures (omega arith)
