-- `ring::number_order` meets its contract. Assumes nothing.
use Rattle.std.proofs.Common.{rules, tests}
use Rattle.limits.specs.Limits.{most_nodes}
use Rattle.ring.proofs.Rows.{are-numbers}
use Rattle.ring.proofs.number_order.Goals as goal

pub returns : goal.returns
returns c =
    let made = c.from_fn.ensures.items in
    are-numbers most_nodes _ made.long (λ k h. let called = made.at k 0 h in search (rules, tests))
