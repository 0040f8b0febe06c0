-- `lent::counts_fit` meets its contract. Assumes nothing.
use Rattle.std.proofs.Common.{rules}
use Rattle.lent.proofs.Whole.{room-here}
use Rattle.lent.proofs.counts_fit.Goals as goal

pub returns-then-delay_count-le-MOST_DELAYS : goal.returns-then-delay_count-le-MOST_DELAYS
returns-then-delay_count-le-MOST_DELAYS c = rw (room-here c.args.s.now) (search rules)

pub returns-else-delay_count-le-MOST_DELAYS : goal.returns-else-delay_count-le-MOST_DELAYS
returns-else-delay_count-le-MOST_DELAYS c = rw (room-here c.args.s.now) (search rules)
