-- `lent::rows::ring_nodes_once` meets its contract. Assumes nothing.
use Rattle.std.proofs.Common.{arith}
use Rattle.lent.proofs.RowTests.{none_seen, ring-above, ring-twice, ring-turn}
use Rattle.lent.proofs.rows.ring_nodes_once.Goals as goal

pub loop-i-init : goal.loop-i-init
loop-i-init c = none_seen _ _

pub returns-then-n-k : goal.returns-then-n-k
returns-then-n-k c = ring-above _ _ (omega arith) c.ring_at-k.ensures c.node_count-n.ensures c.if-n-k.true

pub returns-then-is_listed : goal.returns-then-is_listed
returns-then-is_listed c =
    ring-twice _ _ (omega arith) c.ring_at-k.ensures c.loop-i.invariant c.is_listed.ensures c.if-is_listed.true

pub loop-i-preserved : goal.loop-i-preserved
loop-i-preserved c =
    ring-turn _ _ (omega arith) c.ring_at-k.ensures c.loop-i.invariant c.node_count-n.ensures c.if-n-k.false c.is_listed.ensures
    c.if-is_listed.false c.with_listed-seen.ensures
