-- `ring::unlisted_set` meets its contract. Assumes nothing.
use mathlib.Core.Path.{ap, ◌∙◌}
use Prim.Native.Nat.{◌-◌, ◌^◌}
use lib.Bits.{bit_and}
use Rattle.ring.proofs.Counts.{unlisted-mask}
use borrow.Author.Rules.{rules}
use Rattle.ring.proofs.unlisted_set.Goals as goal

pub returns : goal.returns
returns c =
    ap (bit_and ((2 ^ 64 - 1) - c.args.d)) c.all_nodes.ensures
    ∙ unlisted-mask 64 c.args.n c.args.d (search rules) (search rules)
