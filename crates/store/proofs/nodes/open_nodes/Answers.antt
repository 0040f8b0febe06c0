-- `store::nodes::open_nodes` meets its contract. The loop's invariant: the first i nodes are opened. Assumes nothing.
use mathlib.Core.Path.{refl, ◌∙◌}
use native.Mathlib.Omega.{arith}
use Rattle.plans.proofs.Tests.{ranges}
use Rattle.store.proofs.Opening.{unopened-is, unopened-held, turn-held, turn-sized, turn-plan, order-size, upto_turn, all-nodes}
use Rattle.store.proofs.nodes.open_nodes.Goals as goal

pub node_count-n-requires : goal.node_count-n-requires
node_count-n-requires c = (unopened-held _ c.requires).size

pub period-h-requires : goal.period-h-requires
period-h-requires c = (unopened-held _ c.requires).size

pub time_out-w-requires : goal.time_out-w-requires
time_out-w-requires c = (unopened-held _ c.requires).size

pub loop-i-init : goal.loop-i-init
loop-i-init c =
    record {
      plan = c.requires;
      every = c.number_order-all.ensures;
      nodes = c.node_count-n.ensures;
      period = c.period-h.ensures;
      time = c.time_out-w.ensures;
      most = omega (arith, c.node_count-n.ensures, (ranges _ c.requires.good).n-high);
      few = omega arith;
      is = unopened-is _ c.requires;
      size = refl;
    }

pub ring_order-order-requires : goal.ring_order-order-requires
ring_order-order-requires c =
    let inv = c.loop-i.invariant in
    (record { sized = turn-sized _ inv.plan inv.is (omega (arith, inv.few, inv.nodes)); all_value = inv.every })

pub opened-a-requires : goal.opened-a-requires
opened-a-requires c =
    let inv = c.loop-i.invariant in
    let plan = turn-plan _ inv.plan inv.is (omega (arith, inv.few, inv.nodes)) in
    let r = ranges _ inv.plan.good in
    (rw (c.ring_order-order.ensures, plan) (order-size _ inv.plan), omega (arith, inv.period, r.h-high), omega (arith, inv.time, r.w-high))

pub set_node-requires : goal.set_node-requires
set_node-requires c =
    let inv = c.loop-i.invariant in
    let plan = turn-plan _ inv.plan inv.is (omega (arith, inv.few, inv.nodes)) in
    (record { held = turn-held _ inv.plan inv.is (omega (arith, inv.few, inv.nodes)); i_bound = rw plan (omega (arith, c.loop-i-test.true, inv.nodes)) })

pub loop-i-preserved : goal.loop-i-preserved
loop-i-preserved c =
    let turn = c.loop-i in
    let inv = turn.invariant in
    let plan = turn-plan _ inv.plan inv.is (omega (arith, inv.few, inv.nodes)) in
    record {
      plan = inv.plan;
      every = inv.every;
      nodes = inv.nodes;
      period = inv.period;
      time = inv.time;
      most = inv.most;
      few = omega (arith, c.loop-i-test.true);
      is =
          upto_turn _ inv.plan.good turn.i _ (omega (arith, c.loop-i-test.true, inv.nodes)) inv.is
          (c.opened-a.ensures ∙ rw (c.ring_order-order.ensures, plan, inv.period, inv.time)) c.set_node.ensures;
      size = c.set_node.auto.s ∙ inv.size;
    }

pub returns : goal.returns
returns c =
    let inv = c.loop-i.invariant in
    all-nodes _ inv.plan inv.is inv.few c.loop-i-test.false inv.nodes
