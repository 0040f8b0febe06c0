-- `lent::state::state_in_range` meets its contract. Assumes nothing.
use Rattle.std.proofs.Common.{rules}
use Rattle.store.specs.Store.{plan_in, state_in}
use Rattle.store.proofs.Store.{length-nodes}
use Rattle.lent.proofs.StateTests.{whole-parts}
use Rattle.lent.proofs.state.state_in_range.Goals as goal

pub returns-then-messages_in_range : goal.returns-then-messages_in_range
returns-then-messages_in_range c =
    let b = c.args.s.now in
    rw (whole-parts (plan_in b) (state_in b) (length-nodes b) c.requires.sized.counts.messages) (search rules)

pub returns-else-messages_in_range : goal.returns-else-messages_in_range
returns-else-messages_in_range c =
    let b = c.args.s.now in
    rw (whole-parts (plan_in b) (state_in b) (length-nodes b) c.requires.sized.counts.messages) (search rules)
