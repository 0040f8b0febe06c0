-- What a test keeps of a list, by places; and orders of the ring, which have each node below n once: a test keeps as many nodes of any order as
-- of number order. Assumes nothing.
use mathlib.Core.Path.{◌≡◌, refl, sym, ap, ◌∙◌}
use mathlib.Core.Bool.{Bool, true, false, cond}
use mathlib.Core.List.{List, [], ◌∷◌}
use Prim.Native.Nat.{ℕ, zero, suc, ◌+◌, ◌≤◌, ◌<◌}
use native.Mathlib.Nat.{zero-add}
use native.Mathlib.Omega.{arith}
use native.Mathlib.Decide.{dec_lt}
use borrow.Author.Tests.{eq-eqb, ne_eqb, eqb-true}
use lib.Dec.{eqb}
use lib.ListN.{length, get_or, take, length-take}
use lib.Seq.{get_or-take}
use Rattle.ring.specs.Ring.{keep, numbers, unlisted, count, place, InOrder}
use Rattle.ring.proofs.Rows.{length-numbers}
pub use Rattle.ring.proofs.Rows.{get_or-numbers}
use Rattle.ring.proofs.Lists.{place-numbers}

-- ---- what a test keeps, by places

-- the k-th that a test keeps stands at the place q, with k kept ones before it; z is what a list has beyond its end
pub record Kept (t : ℕ → Bool) (z : ℕ) (xs : List ℕ) (k : ℕ) : Type 0 where
  pub q : ℕ
  pub inside : q < length xs
  pub is : get_or (keep t xs) k z ≡ get_or xs q 0
  pub passes : t (get_or xs q 0) ≡ true
  pub before : length (keep t (take q xs)) ≡ k

pub kept_at : (t : ℕ → Bool) (z : ℕ) (xs : List ℕ) (k : ℕ) → k < length (keep t xs) → Kept t z xs k
unfolding keep
kept_at t z [] k h = absurd (omega arith)
kept_at t z (x ∷ xs) k h = go (t x) refl k h (kept_at t z xs)
  where
    go : (b : Bool) → t x ≡ b → (k : ℕ) → k < length (cond b (x ∷ keep t xs) (keep t xs))
        → ((k : ℕ) → k < length (keep t xs) → Kept t z xs k) → Kept t z (x ∷ xs) k
    go true e zero h rest = record { q = 0; inside = omega arith; is = rw e; passes = e; before = refl }
    go true e (suc k) h rest =
        let r : Kept t z xs k = rest k (omega arith) in
        record { q = suc r.q; inside = omega (arith, r.inside); is = rw e r.is; passes = r.passes; before = rw e (ap suc r.before) }
    go false e k h rest =
        let r : Kept t z xs k = rest k h in
        record { q = suc r.q; inside = omega (arith, r.inside); is = rw e r.is; passes = r.passes; before = rw e r.before }

-- what passes is kept
kept-some : (t : ℕ → Bool) (xs : List ℕ) (i : ℕ) → i < length xs → t (get_or xs i 0) ≡ true → 0 < length (keep t xs)
unfolding keep
kept-some t [] i h e = absurd (omega arith)
kept-some t (x ∷ xs) zero h e = rw e (omega arith)
kept-some t (x ∷ xs) (suc i) h e = go (t x) (kept-some t xs i (omega arith) e)
  where
    go : (b : Bool) → 0 < length (keep t xs) → 0 < length (cond b (x ∷ keep t xs) (keep t xs))
    go true g = omega arith
    go false g = g

-- what stands before the first kept one does not pass
pub before-first : (t : ℕ → Bool) (z : ℕ) (xs : List ℕ) (w : Kept t z xs 0) (i : ℕ) → i < w.q → t (get_or xs i 0) ≡ false
before-first t z xs w i h = go (t (get_or xs i 0)) refl
  where
    go : (b : Bool) → t (get_or xs i 0) ≡ b → b ≡ false
    go false e = refl
    go true e =
        let short : i < length (take w.q xs) = rw length-take (omega (arith, w.inside)) in
        let some : 0 < length (keep t (take w.q xs)) = kept-some t (take w.q xs) i short (rw (get_or-take w.q xs i 0 h) e) in
        absurd (omega (arith, w.before))

-- ---- number order

place-in-numbers : (n k : ℕ) → k < n → place (numbers 0 n) k ≡ k
place-in-numbers n k h = rw zero-add at (place-numbers n 0 k h)

-- the ring in number order is an order
pub numbers-in : (n : ℕ) → InOrder n (numbers 0 n)
numbers-in n = record {
  size = length-numbers n 0;
  below = λ q h. rw (get_or-numbers n 0 q 0 h) (omega arith);
  placed = λ k h. rw (place-in-numbers n k h) h;
  has = λ k h. rw (place-in-numbers n k h) (get_or-numbers n 0 k 0 h ∙ zero-add k);
  once = λ q h. rw (get_or-numbers n 0 q 0 h, zero-add) (place-in-numbers n q h);
}

-- ---- a test keeps as many of any order

abbrev occurs : ℕ → List ℕ → ℕ
occurs x xs = length (keep (eqb x) xs)

-- a number below n occurs once in an order: two places would both be its place
occurs-once : (n : ℕ) (order : List ℕ) → InOrder n order → (x : ℕ) → x < n → occurs x order ≡ 1
occurs-once n order r x h = go (dec_lt 1 (occurs x order))
  where
    some : 0 < occurs x order
    some = kept-some (eqb x) order (place order x) (rw r.size (r.placed x h)) (eq-eqb x _ (sym (r.has x h)))

    its-place : (k : ℕ) (w : Kept (eqb x) 0 order k) → place order x ≡ w.q
    its-place k w = ap (place order) (eqb-true x _ w.passes) ∙ r.once w.q (rw r.size at w.inside)

    go : Dec (1 < occurs x order) → occurs x order ≡ 1
    go (no l) = omega (arith, some)
    go (yes l) =
        let a : Kept (eqb x) 0 order 0 = kept_at (eqb x) 0 order 0 some in
        let b : Kept (eqb x) 0 order 1 = kept_at (eqb x) 0 order 1 l in
        let one : a.q ≡ b.q = sym (its-place 0 a) ∙ its-place 1 b in
        absurd (omega (arith, sym a.before ∙ ap (λ (q : ℕ). occurs x (take q order)) one ∙ b.before))

module _ (t : ℕ → Bool) where
  -- the occurrences of the numbers below n that pass the test
  total : ℕ → List ℕ → ℕ
  total zero xs = zero
  total (suc n) xs = total n xs + cond (t n) (occurs n xs) 0

  total-out : (n x : ℕ) (xs : List ℕ) → n ≤ x → total n (x ∷ xs) ≡ total n xs
  unfolding total keep
  total-out zero x xs h = refl
  total-out (suc n) x xs h = rw (ne_eqb n x (omega arith), total-out n x xs (omega arith))

  total-in : (n x : ℕ) (xs : List ℕ) → x < n → total n (x ∷ xs) ≡ total n xs + cond (t x) 1 0
  unfolding total keep
  total-in zero x xs h = absurd (omega arith)
  total-in (suc n) x xs h = go (dec_lt x n) (λ l. total-in n x xs l)
    where
      last : (b : Bool) → total n xs + cond b (suc (occurs n xs)) 0 ≡ total n xs + cond b (occurs n xs) 0 + cond b 1 0
      last true = omega arith
      last false = omega arith

      go : Dec (x < n) → (x < n → total n (x ∷ xs) ≡ total n xs + cond (t x) 1 0) → total (suc n) (x ∷ xs) ≡ total (suc n) xs + cond (t x) 1 0
      go (yes l) rest = rw (ne_eqb n x (omega arith), rest l) (omega arith)
      go (no l) rest =
          let e : x ≡ n = omega arith in
          rw (e, eq-eqb n n refl, total-out n n xs (omega arith)) (last (t n))

  total-none : (n : ℕ) → total n [] ≡ 0
  unfolding total keep
  total-none zero = refl
  total-none (suc n) = go (t n) (total-none n)
    where
      go : (b : Bool) → total n [] ≡ 0 → total n [] + cond b 0 0 ≡ 0
      go true e = omega arith
      go false e = omega arith

  kept-total : (n : ℕ) (xs : List ℕ) → ((q : ℕ) → q < length xs → get_or xs q 0 < n) → length (keep t xs) ≡ total n xs
  unfolding keep
  kept-total n [] h = sym (total-none n)
  kept-total n (x ∷ xs) h =
      rw (total-in n x xs (h 0 (omega arith)), ← kept-total n xs (λ q l. h (suc q) (omega arith))) (go (t x))
    where
      go : (b : Bool) → length (cond b (x ∷ keep t xs) (keep t xs)) ≡ length (keep t xs) + cond b 1 0
      go true = omega arith
      go false = omega arith

  total-same : (n : ℕ) (xs ys : List ℕ) → ((i : ℕ) → i < n → occurs i xs ≡ occurs i ys) → total n xs ≡ total n ys
  unfolding total
  total-same zero xs ys h = refl
  total-same (suc n) xs ys h = rw (h n (omega arith), total-same n xs ys (λ i l. h i (omega arith)))

  pub order-kept : (n : ℕ) (order : List ℕ) → InOrder n order → length (keep t order) ≡ length (keep t (numbers 0 n))
  order-kept n order r =
      kept-total n order (below order r)
      ∙ total-same n order (numbers 0 n) (λ i h. occurs-once n order r i h ∙ sym (occurs-once n (numbers 0 n) (numbers-in n) i h))
      ∙ sym (kept-total n (numbers 0 n) (below (numbers 0 n) (numbers-in n)))
    where
      below : (xs : List ℕ) → InOrder n xs → (q : ℕ) → q < length xs → get_or xs q 0 < n
      below xs s q h = s.below q (rw s.size at h)

-- m nodes of any order are unlisted
pub order-count : (n d : ℕ) (order : List ℕ) → InOrder n order → length (unlisted d order) ≡ count n d
unfolding unlisted count
order-count n d order r = order-kept _ n order r
