-- `lent::in_range` meets its contract. Assumes nothing.
use Rattle.std.proofs.Common.{rules}
use Rattle.lent.proofs.Whole.{sized_of, range-parts}
use Rattle.lent.proofs.in_range.Goals as goal

pub plan_in_range-requires : goal.plan_in_range-requires
plan_in_range-requires c = search (rules, sized_of)

pub state_in_range-requires-clause-sized : goal.state_in_range-requires-clause-sized
state_in_range-requires-clause-sized c = search (rules, sized_of)

pub unused_zero-requires : goal.unused_zero-requires
unused_zero-requires c = search (rules, sized_of)

pub returns-then-state_in_range : goal.returns-then-state_in_range
returns-then-state_in_range c = rw (range-parts c.args.s.now) (search rules)

pub returns-else-state_in_range : goal.returns-else-state_in_range
returns-else-state_in_range c = rw (range-parts c.args.s.now) (search rules)
