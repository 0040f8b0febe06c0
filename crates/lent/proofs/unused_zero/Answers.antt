-- `lent::unused_zero` meets its contract. Assumes nothing.
use Rattle.std.proofs.Common.{rules}
use Rattle.lent.proofs.Whole.{unused-here}
use Rattle.lent.proofs.unused_zero.Goals as goal

pub returns-then-rests_zero-4 : goal.returns-then-rests_zero-4
returns-then-rests_zero-4 c = rw (unused-here c.args.s.now) (search rules)

pub returns-else-rests_zero-4 : goal.returns-else-rests_zero-4
returns-else-rests_zero-4 c = rw (unused-here c.args.s.now) (search rules)
