-- `fields::no_bit` meets its contract. Assumes nothing.
use Prim.Native.Nat.{ℕ}
use mathlib.Core.Path.{ap, ◌∙◌}
use lib.Dec.{eqb}
use lib.Bits.{bit_or}
use Rattle.std.proofs.lemmas.Iterator.{YieldsList-from_slice}
use Rattle.std.proofs.lemmas.Iterator.Consumers.{fold_from_yields_List}
use Rattle.fields.proofs.Zeros.{none-over}
use borrow.Author.Rules.{rules}
use Rattle.fields.proofs.no_bit.Goals as goal

pub returns : goal.returns
returns c =
    let l = c.args.bytes.now in
    let over = fold_from_yields_List _ bit_or _ _ c.fold.ensures.ran (YieldsList-from_slice l (cc)) (λ a x b q k. search rules) in
    ap (λ (x : ℕ). eqb x 0) over ∙ none-over 0 l
