-- `lent::rows::values_in_range` meets its contract. Assumes nothing.
use Rattle.std.proofs.Common.{arith}
use Rattle.std.proofs.lemmas.Grind.{common_steps}
use Rattle.plans.specs.Plan.{start_ranges, within}
use Rattle.lent.proofs.rows.values_in_range.Goals as goal

pub returns-else-contains-4 : goal.returns-else-contains-4
unfolding start_ranges within
returns-else-contains-4 c = grind (arith, common_steps)
