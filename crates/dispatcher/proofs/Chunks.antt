-- An iterator over a part's chunks of a store's length gives its stores. Assumes nothing.
use mathlib.Core.Path.{◌≡◌, refl, sym, ap, ◌∙◌, subst}
use mathlib.Core.Bool.{Bool, ◌&&◌}
use mathlib.Core.List.{List, [], ◌∷◌, ◌++◌}
use Prim.Native.Nat.{ℕ, zero, suc, ◌/◌}
use native.Mathlib.Omega.{arith}
use lib.ListN.{length, take, drop, length-append}
use lib.Seq.{take_at, drop_at}
use Rattle.std.specs.Iterator.{AlwaysYields}
use Rattle.std.specs.List.{list_all}
use Rattle.std.specs.Slice.Iter.{chunks_exact_rest, chunks_exact_size, chunks_exact_steps}
use Rattle.std.proofs.lemmas.Iterator.{YieldsList}
use Rattle.limits.specs.Limits.{store_size}
use Rattle.store.specs.Store.{store_in_range}
use Rattle.dispatcher.specs.Dispatch.{pieces, stores_in, all_in_range}

chunks-give : (n : ℕ) (s : _) → chunks_exact_size {T = ℕ} s ≡ store_size → length (chunks_exact_rest s) / store_size ≡ n
    → AlwaysYields chunks_exact_steps (λ x. x.now) s (pieces store_size n (chunks_exact_rest s))
unfolding pieces
chunks-give zero s size few = λ x t h. omega (arith, h.0, ap length h.1.0, h.1.1, length-append x.now (chunks_exact_rest t))
chunks-give (suc n) s size few = (
  λ t h. omega (arith, h.1.0),
  λ x t h.
      let rest : List ℕ = chunks_exact_rest t in
      let one : length x.now ≡ store_size = h.1.1 ∙ size in
      let cut : chunks_exact_rest s ≡ x.now ++ rest = h.1.0 in
      let front : take store_size (chunks_exact_rest s) ≡ x.now = ap (take store_size) cut ∙ take_at x.now rest store_size one in
      let back : drop store_size (chunks_exact_rest s) ≡ rest = ap (drop store_size) cut ∙ drop_at x.now rest store_size one in
      let fewer : length rest / store_size ≡ n = omega (arith, few, one, ap length cut, length-append x.now rest) in
      let given = chunks-give n t (h.0 ∙ size) fewer in
      (sym front, subst (λ (l : List ℕ). AlwaysYields chunks_exact_steps (λ x. x.now) t (pieces store_size n l)) (sym back) given),
)

pub stores-give : {s : _} (part : List ℕ) → chunks_exact_size {T = ℕ} s ≡ store_size → chunks_exact_rest s ≡ part
    → YieldsList chunks_exact_steps (λ x. x.now) s (stores_in part)
unfolding stores_in
stores-give {s} part size e = record {
  runs =
      subst (λ (l : List ℕ). AlwaysYields chunks_exact_steps (λ x. x.now) s (pieces store_size (length l / store_size) l)) e (chunks-give _ s size refl);
}

-- number 7's test of each
pub all-tested : (bs : List (List ℕ)) → list_all store_in_range bs ≡ all_in_range bs
unfolding all_in_range
all-tested [] = refl
all-tested (b ∷ bs) = ap (λ (r : Bool). store_in_range b && r) (all-tested bs)
