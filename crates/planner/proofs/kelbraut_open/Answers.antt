-- `planner::kelbraut_open` meets its contract. Assumes nothing.
use Rattle.std.proofs.Common.{arith}
use Rattle.planner.proofs.Opening.{sum-fits}
use Rattle.planner.proofs.kelbraut_open.Goals as goal

pub overflow_mul-result : goal.overflow_mul-result
overflow_mul-result c = omega (arith, sum-fits _ _ c.in-Err.ensures.value)

pub overflow_add-result : goal.overflow_add-result
overflow_add-result c = omega (arith, c.number.ensures, sum-fits _ _ c.in-Err.ensures.value)
