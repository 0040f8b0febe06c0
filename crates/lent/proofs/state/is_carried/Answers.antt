-- `lent::state::is_carried` meets its contract. Assumes nothing.
use Rattle.std.proofs.Common.{rules}
use Rattle.lent.proofs.StateTests.{carried-test}
use Rattle.lent.proofs.state.is_carried.Goals as goal

pub returns-then-kind-eq72 : goal.returns-then-kind-eq72
returns-then-kind-eq72 c = rw (carried-test _ _ _ _ c.all_nodes.ensures) (search rules)

pub returns-else-kind-eq72 : goal.returns-else-kind-eq72
returns-else-kind-eq72 c = rw (carried-test _ _ _ _ c.all_nodes.ensures) (search rules)

pub returns-else-list-all_nodes : goal.returns-else-list-all_nodes
returns-else-list-all_nodes c = rw (carried-test _ _ _ _ c.all_nodes.ensures) (search rules)
