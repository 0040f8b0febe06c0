-- `lent::rows::delay_rises` meets its contract. Assumes nothing.
use Rattle.plans.specs.Plan.{above}
use Rattle.lent.proofs.rows.delay_rises.Goals as goal

pub returns : goal.returns
unfolding above
returns c = rw (c.delay_at.ensures, c.delay_at-2.ensures)
