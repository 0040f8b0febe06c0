-- `lent::state::node_in_range` meets its contract. Assumes nothing.
use Rattle.std.proofs.Common.{rules}
use Rattle.plans.proofs.Facts.{plan-plain}
use Rattle.store.specs.Store.{plan_in, state_in}
use Rattle.lent.proofs.StateTests.{node-test}
use Rattle.lent.proofs.state.node_in_range.Goals as goal

pub returns-then-is_listed : goal.returns-then-is_listed
returns-then-is_listed c =
    let p = plan_in c.args.s.now in
    rw (node-test p (plan-plain p c.requires.planned.plan) (state_in c.args.s.now).done c.args.t c.args.x _ c.args.dead c.requires.dead_value)
    (search rules)

pub returns-else-is_listed : goal.returns-else-is_listed
returns-else-is_listed c =
    let p = plan_in c.args.s.now in
    rw (node-test p (plan-plain p c.requires.planned.plan) (state_in c.args.s.now).done c.args.t c.args.x _ c.args.dead c.requires.dead_value)
    (search rules)
