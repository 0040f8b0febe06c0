-- First laws of what a test keeps, of dead lists and of the ring from a place on. Assumes nothing.
use mathlib.Core.Path.{◌≡◌, sym, ap, ◌∙◌, refl}
use mathlib.Core.Bool.{Bool, true, false, not, cond}
use mathlib.Core.List.{List, ◌∷◌, ◌++◌, [], reverse, reverse-cons, append-nil}
use Prim.Native.Nat.{ℕ, ◌+◌, ◌-◌, ◌*◌, ◌/◌, ◌%◌, ◌^◌, ◌≤◌, ◌<◌}
use native.Mathlib.Nat.{div-eq_of_lt, one-mul, add-sub_of_le, add_comm}
use native.Mathlib.Omega.{arith}
use lib.Dec.{lit<}
use lib.ListN.{length, get_or, take, drop, length-append, length-take, length-drop, get_or-append, drop_of_length-le, take-append-drop}
use lib.Pow.{shl_exact, pow_mono, ones_split, high, ones_lt}
use lib.Seq.{get_or-append-add, get_or-drop, get_or-take, take_all}
use Rattle.ring.specs.Ring.{keep, listed, unlisted, round}

-- ---- what a test keeps

module _ (p : ℕ → Bool) where
  pub keep-yes : (x : ℕ) (xs : List ℕ) → p x ≡ true → keep p (x ∷ xs) ≡ x ∷ keep p xs
  unfolding keep
  keep-yes x xs e = rw e

  keep-no : (x : ℕ) (xs : List ℕ) → p x ≡ false → keep p (x ∷ xs) ≡ keep p xs
  unfolding keep
  keep-no x xs e = rw e

-- tests that agree keep the same
pub keep-ext : (f g : ℕ → Bool) (xs : List ℕ) → ((k : ℕ) → f k ≡ g k) → keep f xs ≡ keep g xs
unfolding keep
keep-ext f g [] h = refl
keep-ext f g (x ∷ xs) h = rw (h x, keep-ext f g xs h)

pub keep_append : (t : ℕ → Bool) (xs ys : List ℕ) → keep t (xs ++ ys) ≡ keep t xs ++ keep t ys
unfolding keep
keep_append t [] ys = refl
keep_append t (x ∷ xs) ys = go (t x) (keep_append t xs ys)
  where
    go : (b : Bool) → keep t (xs ++ ys) ≡ keep t xs ++ keep t ys
        → cond b (x ∷ keep t (xs ++ ys)) (keep t (xs ++ ys)) ≡ cond b (x ∷ keep t xs) (keep t xs) ++ keep t ys
    go true e = ap (λ (l : List ℕ). x ∷ l) e
    go false e = e

pub keep-reverse : (t : ℕ → Bool) (xs : List ℕ) → keep t (reverse xs) ≡ reverse (keep t xs)
unfolding keep
keep-reverse t [] = refl
keep-reverse t (x ∷ xs) =
    ap (keep t) (reverse-cons x xs) ∙ keep_append t (reverse xs) (x ∷ [])
    ∙ ap (λ (l : List ℕ). l ++ keep t (x ∷ [])) (keep-reverse t xs) ∙ go (t x)
  where
    go : (b : Bool) → reverse (keep t xs) ++ cond b (x ∷ []) [] ≡ reverse (cond b (x ∷ keep t xs) (keep t xs))
    go true = sym (reverse-cons x (keep t xs))
    go false = append-nil (reverse (keep t xs))

pub unlisted-yes : (d x : ℕ) (xs : List ℕ) → listed d x ≡ false → unlisted d (x ∷ xs) ≡ x ∷ unlisted d xs
unfolding unlisted
unlisted-yes d x xs e = keep-yes (λ i. not (listed d i)) x xs (ap not e)

pub unlisted-no : (d x : ℕ) (xs : List ℕ) → listed d x ≡ true → unlisted d (x ∷ xs) ≡ unlisted d xs
unfolding unlisted
unlisted-no d x xs e = keep-no (λ i. not (listed d i)) x xs (ap not e)

-- ---- dead lists

-- a list of k bits lists no node from k on
pub listed-beyond : (k d i : ℕ) → d < 2 ^ k → k ≤ i → listed d i ≡ false
unfolding listed
listed-beyond k d i h g =
    let z : d / 2 ^ i ≡ 0 = div-eq_of_lt (omega (arith, pow_mono g)) in
    rw z

-- the set of n of k nodes, by a shift
pub ones_shr : (k n : ℕ) → n ≤ k → (2 ^ k - 1) / 2 ^ (k - n) ≡ 2 ^ n - 1
ones_shr k n h =
    let e : n + (k - n) ≡ k = add-sub_of_le h in
    ap (λ (x : ℕ). (2 ^ x - 1) / 2 ^ (k - n)) (sym e)
    ∙ ap (λ (x : ℕ). x / 2 ^ (k - n)) (ones_split n (k - n))
    ∙ high (2 ^ n - 1) (k - n) (ones_lt (k - n))

-- one bit, by a shift
pub one_shl : (w i : ℕ) → i < w → 1 * 2 ^ i % 2 ^ w ≡ 2 ^ i
one_shl w i h = shl_exact {a = 1} 1 i w (lit< tt) (omega arith) ∙ one-mul (2 ^ i)

-- ---- the ring

pub length-round : (order : List ℕ) (p : ℕ) → length (round order p) ≡ length order
unfolding round
length-round order p = simp (length-append, length-drop, length-take) (omega arith)

-- going round changes no count
pub keep-round : (t : ℕ → Bool) (order : List ℕ) (p : ℕ) → length (keep t (round order p)) ≡ length (keep t order)
unfolding round
keep-round t order p =
    rw (keep_append, length-append) (add_comm _ _ ∙ sym (length-append (keep t (take p order)) (keep t (drop p order)))
    ∙ ap length (sym (keep_append t (take p order) (drop p order))) ∙ ap (λ (l : List ℕ). length (keep t l)) (take-append-drop p order))

-- what stands s places after the place p; z is what a list has beyond its end
module _ (order : List ℕ) (p s z : ℕ) where
  pub round-past : length order ≤ p → get_or (round order p) s z ≡ get_or order s z
  unfolding round
  round-past h = rw (drop_of_length-le order {i = p} h, take_all p order h)

  pub round-near : s < length order - p → get_or (round order p) s z ≡ get_or order (p + s) z
  unfolding round
  round-near h = get_or-append (drop p order) (take p order) z s (rw length-drop h) ∙ get_or-drop p order s z

  pub round-far : p ≤ length order → length order - p ≤ s → s < length order → get_or (round order p) s z ≡ get_or order (s - (length order - p)) z
  unfolding round
  round-far g h l =
      let rest : ℕ = s - (length order - p) in
      let e : s ≡ length (drop p order) + rest = rw length-drop (omega arith) in
      ap (λ (n : ℕ). get_or (drop p order ++ take p order) n z) e
      ∙ get_or-append-add (drop p order) (take p order) rest z
      ∙ get_or-take p order rest z (omega arith)

pub ruleset round_places = (round-past, round-near, round-far)
