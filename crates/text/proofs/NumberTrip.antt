-- A number that was read, below the ceiling, is written with the bytes that it had; a number that was written is read again. Assumes
-- nothing.
use Prim.Native.Nat.{ℕ, zero, suc, ◌+◌, ◌-◌, ◌*◌, ◌/◌, ◌%◌, ◌^◌, ◌≤◌, ◌<◌, min, zero-le, suc-le-suc}
use native.Mathlib.Omega.{arith}
use native.Mathlib.Decide.{dec_lt}
use native.Mathlib.Nat.{add_assoc}
use mathlib.Core.Path.{◌≡◌, refl, sym, ap, ◌∙◌}
use mathlib.Core.Bool.{Bool, true, false, cond}
use mathlib.Core.List.{List, [], ◌∷◌, ◌++◌, append_assoc}
use lib.ListN.{length, drop, length-append}
use lib.Dec.{eqb}
use borrow.Author.Tests.{ne_eqb, le-leb, eqb-true, eqb-false}
use Rattle.std.specs.Prelude.{Some, None}
use Rattle.std.proofs.lemmas.Option.{same_Some}
use Rattle.text.specs.Number.{digit, ceiling, digits_from, number_from, decimal}
use Rattle.text.proofs.NumberLaws.{digit-range, decimal-small, decimal-more}

-- the number v was read, and the place after it is j
abbrev Reads : ℕ × ℕ → ℕ → ℕ → Type 0
Reads p v j = p ≡ (v, j)

number-of-read : (p : ℕ × ℕ) (v j : ℕ) → Reads p v j → (p.0 ≡ v) × (p.1 ≡ j)
number-of-read p v j e = (ap (λ (q : ℕ × ℕ). q.0) e, ap (λ (q : ℕ × ℕ). q.1) e)

-- a value above 0 with one digit more
decimal_digit : (a b : ℕ) → 0 < a → a < ceiling → digit b ≡ true → decimal (a * 10 + (b - 48)) ≡ decimal a ++ (b ∷ [])
decimal_digit a b p l e =
    let r = digit-range b e in
    let q : (a * 10 + (b - 48)) / 10 ≡ a = omega arith in
    let m : 48 + (a * 10 + (b - 48)) % 10 ≡ b = omega arith in
    decimal-more (a * 10 + (b - 48)) (omega arith) (omega arith) ∙ rw (q, m)

-- what was read from the place i on: k bytes, which are the value's digits after those of a
abbrev Took : ℕ → ℕ → List ℕ → ℕ → ℕ → Type 0
Took a i s v j = (k : ℕ) × (j ≡ i + k) × (k ≤ length s) × (decimal a ++ s ≡ decimal v ++ drop k s)

took-none : (a i : ℕ) (s : List ℕ) (v j : ℕ) → Reads (min a ceiling, i) v j → v < ceiling → Took a i s v j
took-none a i s v j e h =
    let r = number-of-read (min a ceiling, i) v j e in
    let w : a ≡ v = omega arith in
    (0, omega arith, zero-le, rw w)

-- digits only add to a value
grows : (a i : ℕ) (s : List ℕ) (v j : ℕ) → digits_from a i s ≡ (v, j) → min a ceiling ≤ v
grows a i [] v j e = let r = number-of-read (min a ceiling, i) v j e in omega arith
grows a i (b ∷ s) v j e = by (digit b) e (grows (a * 10 + (b - 48)) (i + 1) s v j)
  where
    by : (t : Bool) → cond t (digits_from (a * 10 + (b - 48)) (i + 1) s) ((min a ceiling, i)) ≡ (v, j)
        → (digits_from (a * 10 + (b - 48)) (i + 1) s ≡ (v, j) → min (a * 10 + (b - 48)) ceiling ≤ v) → min a ceiling ≤ v
    by true e ih = omega (arith, ih e)
    by false e ih = let r = number-of-read (min a ceiling, i) v j e in omega arith

pub took : (a i : ℕ) (s : List ℕ) (v j : ℕ) → digits_from a i s ≡ (v, j) → v < ceiling → 0 < a → Took a i s v j
took a i [] v j e h p = took-none a i [] v j e h
took a i (b ∷ s) v j e h p = by (grows a i (b ∷ s) v j e) (digit b) refl e (λ d. took (a * 10 + (b - 48)) (i + 1) s v j d h (omega arith))
  where
    by : min a ceiling ≤ v → (t : Bool) → digit b ≡ t → cond t (digits_from (a * 10 + (b - 48)) (i + 1) s) ((min a ceiling, i)) ≡ (v, j)
        → (digits_from (a * 10 + (b - 48)) (i + 1) s ≡ (v, j) → Took (a * 10 + (b - 48)) (i + 1) s v j) → Took a i (b ∷ s) v j
    by small true t d ih =
        let r = ih d in
        let joined : decimal a ++ (b ∷ s) ≡ decimal (a * 10 + (b - 48)) ++ s = rw (decimal_digit a b p (omega arith) t, append_assoc) in
        (suc r.0, omega (arith, r.1), suc-le-suc r.2, joined ∙ r.3)
    by small false t d ih = took-none a i (b ∷ s) v j d h

-- the bytes of a number that was read are the number's in decimal
abbrev pub Trip : ℕ → List ℕ → ℕ → ℕ → Type 0
Trip i s v j = (k : ℕ) × (j ≡ i + k) × (k ≤ length s) × (s ≡ decimal v ++ drop k s)

one-digit : (b : ℕ) → digit b ≡ true → decimal (0 * 10 + (b - 48)) ≡ b ∷ []
one-digit b e =
    let r = digit-range b e in
    let m : 48 + (0 * 10 + (b - 48)) ≡ b = omega arith in
    decimal-small (0 * 10 + (b - 48)) (omega arith) ∙ rw m

pub read-trip : (i : ℕ) (s : List ℕ) (v j : ℕ) → number_from i s ≡ Some (v, j) → v < ceiling → Trip i s v j
read-trip i [] v j e h = let z : ◌≡◌ {A = ℕ} 0 1 = cc in absurd (omega arith)
read-trip i (b ∷ s) v j e h = zero? (eqb b 48) refl e
  where
    zero-case : b ≡ 48 → Reads (0, i + 1) v j → Trip i (b ∷ s) v j
    zero-case z d =
        let r = number-of-read (0, i + 1) v j d in
        let p : 0 ≡ v = r.0 in
        (1, omega arith, suc-le-suc zero-le, rw (z, ← p, decimal-small 0 (omega arith)))

    digits-case : digit b ≡ true → (b ≡ 48 → ⊥) → Took (0 * 10 + (b - 48)) (i + 1) s v j → Trip i (b ∷ s) v j
    digits-case t n r = (suc r.0, omega (arith, r.1), suc-le-suc r.2, ap (λ (l : List ℕ). l ++ s) (sym (one-digit b t)) ∙ r.3)

    run : (t : Bool) → digit b ≡ t → (b ≡ 48 → ⊥)
        → cond t (Some (cond t (digits_from (0 * 10 + (b - 48)) (i + 1) s) (min 0 ceiling, i))) None ≡ Some (v, j) → Trip i (b ∷ s) v j
    run true t n d = let r = digit-range b t in digits-case t n (took (0 * 10 + (b - 48)) (i + 1) s v j (same_Some _ _ d) h (omega arith))
    run false t n d = let z : ◌≡◌ {A = ℕ} 0 1 = cc in absurd (omega arith)

    zero? : (t : Bool) → eqb b 48 ≡ t → cond t (Some (0, i + 1)) (cond (digit b) (Some (digits_from 0 i (b ∷ s))) None) ≡ Some (v, j)
        → Trip i (b ∷ s) v j
    zero? true t d = zero-case (eqb-true b 48 t) (same_Some _ _ d)
    zero? false t d = run (digit b) refl (eqb-false b 48 t) d

-- digits of n, then no digit
digit-of : (n : ℕ) → n < 10 → digit (48 + n) ≡ true
unfolding digit
digit-of n h = rw (le-leb 48 (48 + n) (omega arith), le-leb (48 + n) 57 (omega arith))

spelled_by : (f n : ℕ) → n < f → n < 10 ^ 20 → (i : ℕ) (r : List ℕ)
    → digits_from 0 i (decimal n ++ r) ≡ digits_from n (i + length (decimal n)) r
spelled_by zero n h big i r = absurd (omega arith)
spelled_by (suc f) n h big i r = elim (dec_lt n 10) [
  | yes p ↦ rw (decimal-small n p, digit-of n p) (ap (λ (k : ℕ). digits_from k (i + 1) r) (omega arith))
  | no p ↦
      let e : n / 10 * 10 + (48 + n % 10 - 48) ≡ n = omega arith in
      let before = spelled_by f (n / 10) (omega arith) (omega arith) i ((48 + n % 10) ∷ r) in
      rw (decimal-more n (omega arith) big, append_assoc, before, digit-of (n % 10) (omega arith), e, length-append, add_assoc)
]

pub spelled : (n i : ℕ) (r : List ℕ) → n < 10 ^ 20 → digits_from 0 i (decimal n ++ r) ≡ digits_from n (i + length (decimal n)) r
spelled n i r big = spelled_by (suc n) n (omega arith) big i r

-- a number above 0 starts with a digit that is not 0
abbrev Head : ℕ → Type 0
Head n = (b : ℕ) × (t : List ℕ) × (decimal n ≡ b ∷ t) × (b ≡ 48 → ⊥) × (digit b ≡ true)

head_more : (n : ℕ) → 10 ≤ n → n < 10 ^ 20 → Head (n / 10) → Head n
head_more n h big (b, t, e, z, d) = (b, t ++ ((48 + n % 10) ∷ []), decimal-more n h big ∙ ap (λ (l : List ℕ). l ++ ((48 + n % 10) ∷ [])) e, z, d)

head-by : (f n : ℕ) → n < f → n < 10 ^ 20 → 0 < n → Head n
head-by zero n h big p = absurd (omega arith)
head-by (suc f) n h big p = elim (dec_lt n 10) [
  | yes q ↦ (48 + n, [], decimal-small n q, λ e. omega arith, digit-of n q)
  | no q ↦ head_more n (omega arith) big (head-by f (n / 10) (omega arith) (omega arith) (omega arith))
]

number_of : (n i : ℕ) (r : List ℕ) → n < 10 ^ 20 → 0 < n → number_from i (decimal n ++ r) ≡ Some (digits_from 0 i (decimal n ++ r))
number_of n i r big p =
    let w = head-by (suc n) n (omega arith) big p in
    rw (w.2, ne_eqb w.0 48 w.3, w.4)

-- a number that was written is read again
pub write-trip : (n i b : ℕ) (r : List ℕ) → n < 10 ^ 20 → digit b ≡ false
    → number_from i (decimal n ++ b ∷ r) ≡ Some (min n ceiling, i + length (decimal n))
write-trip zero i b r big e = rw (decimal-small 0 (omega arith)) (ap (λ (k : ℕ). Some (k, i + 1)) (omega arith))
write-trip (suc n) i b r big e = number_of (suc n) i (b ∷ r) big (omega arith) ∙ rw (spelled (suc n) i (b ∷ r) big, e)
