-- `lent::rows::delay_rows_in_range` meets its contract. Assumes nothing.
use Rattle.std.proofs.Common.{rules}
use Rattle.store.specs.Store.{plan_in}
use Rattle.lent.proofs.RowTests.{delays-tested}
use Rattle.lent.proofs.rows.delay_rows_in_range.Goals as goal

pub returns-then-delays_in_range : goal.returns-then-delays_in_range
returns-then-delays_in_range c = rw (delays-tested (plan_in c.args.s.now) c.requires.counts.delays) (search rules)

pub returns-else-delays_in_range : goal.returns-else-delays_in_range
returns-else-delays_in_range c = rw (delays-tested (plan_in c.args.s.now) c.requires.counts.delays) (search rules)
