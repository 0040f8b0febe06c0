-- Numbers in order, and lists filled place by place. Assumes nothing.
use mathlib.Core.Path.{◌≡◌, refl, sym, ap, ◌∙◌}
use mathlib.Core.List.{List, [], ◌∷◌, ◌++◌, map, map-append, append_assoc, append-nil}
use Prim.Native.Nat.{ℕ, zero, suc, ◌+◌, ◌-◌, ◌≤◌, ◌<◌}
use native.Mathlib.Nat.{le_of_suc-le-suc, sub_self, zero-add, add-suc, suc-add, add-zero}
use native.Mathlib.Numerals.{add-one}
use native.Mathlib.Omega.{arith}
use lib.ListN.{length, get_or, take, set, replicate, length-map}
use lib.Seq.{set_at}
use Rattle.std.proofs.lemmas.List.{ext_get_or}
use Rattle.ring.specs.Ring.{numbers}

pub length-numbers : (n i : ℕ) → length (numbers i n) ≡ n
unfolding numbers
length-numbers zero i = refl
length-numbers (suc n) i = ap suc (length-numbers n (suc i))

pub numbers-snoc : (n i : ℕ) → numbers i (suc n) ≡ numbers i n ++ ((i + n) ∷ [])
unfolding numbers
numbers-snoc zero i = rw add-zero
numbers-snoc (suc n) i = ap (λ (l : List ℕ). i ∷ l) (numbers-snoc n (suc i) ∙ rw (suc-add, add-suc))

pub take-numbers : (n k i : ℕ) → n ≤ k → take n (numbers i k) ≡ numbers i n
unfolding numbers
take-numbers zero k i h = refl
take-numbers (suc n) zero i h = absurd (omega arith)
take-numbers (suc n) (suc k) i h = ap (λ (l : List ℕ). i ∷ l) (take-numbers n k (suc i) (le_of_suc-le-suc h))

pub get_or-numbers : (n j q z : ℕ) → q < n → get_or (numbers j n) q z ≡ j + q
unfolding numbers
get_or-numbers zero j q z h = absurd (omega arith)
get_or-numbers (suc n) j zero z h = sym (add-zero j)
get_or-numbers (suc n) j (suc q) z h =
    let e : suc j + q ≡ j + suc q = omega arith in
    get_or-numbers n (suc j) q z (omega arith) ∙ e

-- the first j of what f gives, and z in the rest of k places
module _ {A : Type 0} (f : ℕ → A) (z : A) (k : ℕ) where
  unfoldable pub filled : ℕ → List A
  filled j = map f (numbers 0 j) ++ replicate (k - j) z

  filled-set : (j : ℕ) → j < k → set (filled j) j (f j) ≡ filled (j + 1)
  unfolding filled
  filled-set j h =
      let e : k - j ≡ suc (k - suc j) = omega arith in
      rw (add-one, e, numbers-snoc j 0, zero-add, map-append, append_assoc)
      (set_at (map f (numbers 0 j)) z (replicate (k - suc j) z) (f j) j (length-map (numbers 0 j) f ∙ length-numbers j 0))

  -- a turn that writes x at j
  pub filled-turn : (out : List A) (j : ℕ) (x : A) → out ≡ filled j → x ≡ f j → j < k → set out j x ≡ filled (j + 1)
  filled-turn out j x e q h = rw (e, q) (filled-set j h)

  pub full : filled k ≡ map f (numbers 0 k)
  unfolding filled
  full = rw (sub_self, append-nil)

-- each place has its own number
pub are-numbers : (k : ℕ) (xs : List ℕ) → length xs ≡ k → ((i : ℕ) → i < k → get_or xs i 0 ≡ i) → xs ≡ numbers 0 k
are-numbers k xs long at =
    ext_get_or 0 xs (numbers 0 k) (long ∙ sym (length-numbers k 0))
    (λ i l. let low : i < k = rw (← long) l in at i low ∙ sym (get_or-numbers k 0 i 0 low ∙ zero-add i))
