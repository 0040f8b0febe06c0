-- `lent::state::message_fits` meets its contract. Assumes nothing.
use Rattle.std.proofs.Common.{arith}
use Rattle.plans.proofs.Tests.{ranges}
use Rattle.lent.proofs.state.message_fits.Goals as goal

pub overflow_add-t : goal.overflow_add-t
overflow_add-t c = let r = ranges _ c.requires.plan in omega (arith, r.d-high, r.end-high)
