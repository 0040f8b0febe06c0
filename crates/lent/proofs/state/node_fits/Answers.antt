-- `lent::state::node_fits` meets its contract. Assumes nothing.
use Rattle.std.proofs.Common.{arith}
use Rattle.plans.proofs.Tests.{ranges}
use Rattle.lent.proofs.state.node_fits.Goals as goal

pub node_in_range-requires : goal.node_in_range-requires
node_in_range-requires c =
    let r = ranges _ c.requires.plan in (
      omega (arith, r.n-low),
      omega (arith, r.n-high),
      omega (arith, r.h-high),
      omega (arith, r.w-high),
      omega (arith, r.end-high),
    )
