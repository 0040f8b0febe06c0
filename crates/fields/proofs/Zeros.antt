-- Parts that are zero. Assumes nothing.
use mathlib.Core.Path.{◌≡◌, refl, sym, ◌∙◌, ap, ap₂, subst}
use mathlib.Core.Bool.{true, false, ◌&&◌, and_assoc, and-eq-true_iff}
use mathlib.Core.List.{List, [], ◌∷◌, ◌++◌, append_assoc, append-nil}
use Prim.Native.Nat.{ℕ, zero, suc, ◌+◌, ◌-◌, ◌≤◌, ◌<◌}
use native.Mathlib.Numerals.{add-one}
use native.Mathlib.Omega.{arith}
use borrow.Author.Tests.{ne_eqb, eqb-true}
use lib.Bits.{bit_or, or_add_and, and_le_r}
use lib.Dec.{eqb}
use lib.ListN.{drop, get_or, length, length-drop, length-set, length-take, replicate, set, take, take-append-drop}
use lib.Seq.{append_snoc, drop-set-lt, drop_at, slice, slice-cons, take-suc-set, take_at, take-take}
use borrow.Rule.Slice.PartMut.{put_mid}
use Rattle.std.specs.List.{fold}
use Rattle.std.proofs.lemmas.Slice.{between_is}
use Rattle.std.proofs.lemmas.List.{drop-drop, drop-take, length-append, length-replicate, replicate-append-replicate}
use Rattle.std.proofs.Math.Bool.{and-true}
use Rattle.fields.specs.Fields.{cleared, zeros}

-- a list that is zero is so many zeros
pub zeros-all : (l : List ℕ) → zeros l ≡ true → l ≡ replicate (length l) 0
unfolding zeros
zeros-all [] h = refl
zeros-all (x ∷ l) h =
    let both = (and-eq-true_iff (eqb x 0) _).0 h in
    ap₂ (λ (a : ℕ) (m : List ℕ). a ∷ m) (eqb-true x 0 both.0) (zeros-all l both.1)

pub zeros-replicate : (n : ℕ) → zeros (replicate n 0) ≡ true
unfolding zeros
zeros-replicate zero = refl
zeros-replicate (suc n) = zeros-replicate n

-- ---- the loops of `is_zero`

-- no bit is set in either of two numbers
or-none : (x y : ℕ) → eqb (bit_or x y) 0 ≡ eqb x 0 && eqb y 0
or-none zero y = refl
or-none (suc x) y =
    let whole = or_add_and (suc x) y in
    let part = and_le_r (suc x) y in
    rw (ne_eqb (suc x) 0 (λ h. omega (arith, h)), ne_eqb (bit_or (suc x) y) 0 (λ h. omega (arith, whole, part, h)))

-- no bit is set in any of a list's numbers laid over each other, where they are all zero
pub none-over : (a : ℕ) (l : List ℕ) → eqb (fold bit_or a l) 0 ≡ eqb a 0 && zeros l
unfolding zeros
none-over a [] = sym (and-true (eqb a 0))
none-over a (b ∷ l) = rw (none-over (bit_or a b) l, or-none a b, and_assoc (eqb a 0) (eqb b 0) (zeros l))

zeros-append : (a b : List ℕ) → zeros (a ++ b) ≡ zeros a && zeros b
unfolding zeros
zeros-append [] b = refl
zeros-append (x ∷ a) b = rw (zeros-append a b, and_assoc (eqb x 0) (zeros a) (zeros b))

-- a part is zero where its first n numbers are, and the part after them
pub zeros-split : (s : List ℕ) (at n to : ℕ) → at + n ≤ to → zeros (slice at to s) ≡ zeros (take n (drop at s)) && zeros (slice (at + n) to s)
zeros-split s at n to h =
    let l : List ℕ = take (to - at) (drop at s) in
    let m : n + (to - (at + n)) ≡ to - at = omega (arith, h) in
    let first : take n l ≡ take n (drop at s) = take-take n (to - at) (drop at s) (omega (arith, h)) in
    let rest : drop n l ≡ slice (at + n) to s =
    ap (λ (k : ℕ). drop n (take k (drop at s))) (sym m) ∙ drop-take n (to - (at + n)) (drop at s)
    ∙ ap (take (to - (at + n))) (drop-drop n at s) ∙ between_is s (at + n) to in
    ap zeros (sym (between_is s at to) ∙ sym (take-append-drop n l)) ∙ zeros-append (take n l) (drop n l)
    ∙ ap₂ (λ (x y : List ℕ). zeros x && zeros y) first rest

-- ---- the part that `clear` fills

pub clear-part : (s r : List ℕ) (from to : ℕ) → r ≡ replicate (length (take (to - from) (drop from s))) 0 → from ≤ to → to ≤ length s
    → put_mid from (to - from) s r ≡ cleared s from to
unfolding cleared
clear-part s r from to e h l =
    let n : length (take (to - from) (drop from s)) ≡ to - from = simp (length-take, length-drop) (omega arith) in
    let f : from + (to - from) ≡ to = omega arith in
    rw (e, n, drop-drop, f, append_assoc)

-- a part cleared, and then the one after it
module _ (s : List ℕ) (from at : ℕ) (h : from ≤ at) (k : at ≤ length s) where
  unfoldable head : List ℕ
  head = take from s ++ replicate (at - from) 0

  head-length : length head ≡ at
  unfolding head
  head-length = rw (length-append, length-take, length-replicate) (omega (arith, h, k))

  pub clear-length : length (cleared s from at) ≡ length s
  unfolding cleared
  clear-length = rw (length-append, length-append, length-take, length-replicate, length-drop) (omega (arith, h, k))

  rest-kept : (n : ℕ) → drop (at + n) (head ++ drop at s) ≡ drop (at + n) s
  rest-kept n = sym (drop-drop n at (head ++ drop at s)) ∙ ap (drop n) (drop_at head (drop at s) at head-length) ∙ drop-drop n at s

  pub clear-both : (to : ℕ) → at ≤ to → to ≤ length s → cleared (cleared s from at) at to ≡ cleared s from to
  unfolding cleared head
  clear-both to l m =
      let d : at + (to - at) ≡ to = omega arith in
      let z : (at - from) + (to - at) ≡ to - from = omega arith in
      let t : take at (head ++ drop at s) ≡ head = take_at head (drop at s) at head-length in
      let r : drop to (head ++ drop at s) ≡ drop to s = subst (λ (n : ℕ). drop n (head ++ drop at s) ≡ drop n s) d (rest-kept (to - at)) in
      rw (t, r, append_assoc (take from s) (replicate (at - from) 0) (replicate (to - at) 0), replicate-append-replicate, z)

-- nothing cleared changes nothing
pub clear-none : (s : List ℕ) (at : ℕ) → s ≡ cleared s at at
unfolding cleared
clear-none s at = let z : at - at ≡ 0 = omega arith in rw (z, append-nil) (sym (take-append-drop at s))

-- ---- rounds of n + 1 places: whether they are zero, and zeros put into them, one place after another

-- the number of s at i and the n after it, laid over each other: a bit is set that is set in any of them
unfoldable pub over : List ℕ → ℕ → ℕ → ℕ
over s i zero = get_or s i 0
over s i (suc n) = bit_or (over s i n) (get_or s (i + suc n) 0)

zero-next : (s : List ℕ) (i to : ℕ) → i < to → to ≤ length s → zeros (slice i to s) ≡ eqb (get_or s i 0) 0 && zeros (slice (i + 1) to s)
unfolding zeros
zero-next s i to h l = rw (add-one, slice-cons i to s 0 h l)

-- a round takes the next number and n more
zero-round : (n : ℕ) (s : List ℕ) (i to : ℕ) → i + suc n ≤ to → to ≤ length s
    → zeros (slice i to s) ≡ eqb (over s i n) 0 && zeros (slice (i + suc n) to s)
unfolding over
zero-round zero s i to h l = zero-next s i to (omega (arith, h)) l
zero-round (suc n) s i to h l =
    let j = i + suc n in
    let f : j + 1 ≡ i + suc (suc n) = omega arith in
    let before = zero-round n s i to (omega (arith, h)) l in
    let last = zero-next s j to (omega (arith, h)) l in
    let rest = zeros (slice (i + suc (suc n)) to s) in
    rw (before, last, f, or-none (over s i n) (get_or s j 0), and_assoc (eqb (over s i n) 0) (eqb (get_or s j 0) 0) rest)

module _ (n : ℕ) (s : List ℕ) (i to : ℕ) (h : i + suc n ≤ to) (l : to ≤ length s) where
  pub zero-passed : over s i n ≡ 0 → zeros (slice i to s) ≡ zeros (slice (i + suc n) to s)
  zero-passed e = rw (zero-round n s i to h l, e)

  pub zero-missed : (over s i n ≡ 0 → ⊥) → zeros (slice i to s) ≡ false
  zero-missed e = rw (zero-round n s i to h l, ne_eqb (over s i n) 0 e)

-- s with zeros put at i and in the n places after it
unfoldable pub zeroed : List ℕ → ℕ → ℕ → List ℕ
zeroed s i zero = set s i 0
zeroed s i (suc n) = set (zeroed s i n) (i + suc n) 0

length-zeroed : (n : ℕ) (s : List ℕ) (i : ℕ) → length (zeroed s i n) ≡ length s
unfolding zeroed
length-zeroed zero s i = length-set s i 0
length-zeroed (suc n) s i = length-set (zeroed s i n) (i + suc n) 0 ∙ length-zeroed n s i

clear_next : (s : List ℕ) (i to : ℕ) → i < to → to ≤ length s → cleared s i to ≡ cleared (set s i 0) (i + 1) to
unfolding cleared
clear_next s i to h l =
    let f : i + 1 ≡ suc i = omega arith in
    let g : to - i ≡ suc (to - suc i) = omega arith in
    rw (f, g, take-suc-set s i 0 (omega arith), drop-set-lt to s i 0 h)
    (ap (λ (x : List ℕ). x ++ drop to s) (sym (append_snoc (take i s) 0 (replicate (to - suc i) 0))))

-- a round takes the next place and n more
pub clear-turn : (n : ℕ) (s : List ℕ) (i to : ℕ) → i + suc n ≤ to → to ≤ length s → cleared s i to ≡ cleared (zeroed s i n) (i + suc n) to
unfolding zeroed
clear-turn zero s i to h l = clear_next s i to (omega (arith, h)) l
clear-turn (suc n) s i to h l =
    let f : i + suc n + 1 ≡ i + suc (suc n) = omega arith in
    let fits = length-zeroed n s i in
    let last = clear_next (zeroed s i n) (i + suc n) to (omega (arith, h)) (omega (arith, l, fits)) in
    rw (clear-turn n s i to (omega (arith, h)) l, last, f)
