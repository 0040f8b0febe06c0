-- Numbers of which none stands twice: below n there are at most n, and n of them are an order of the ring; numbers among which all below n are;
-- the same numbers as a dead list. Assumes nothing.
use mathlib.Core.Path.{◌≡◌, refl, sym, ap, ◌∙◌}
use mathlib.Core.Logic.{◌≢◌}
use mathlib.Core.Bool.{Bool, true, false, cond, not, ◌&&◌, ◌||◌, or-false, or-true, or_assoc, true≢false, and-eq-true_iff}
use mathlib.Core.List.{List, [], ◌∷◌, ◌++◌, map}
use Prim.Native.Nat.{ℕ, zero, suc, ◌≤◌, ◌<◌, ◌^◌, zero-le}
use native.Mathlib.Omega.{arith}
use native.Mathlib.Decide.{ℕ_discrete}
use borrow.Author.Tests.{eq-eqb, ne_eqb, eqb-true, eqb-false, not-true}
use lib.Dec.{eqb}
use lib.ListN.{length, get_or}
use Rattle.ring.specs.Ring.{keep, among, each_once, listed, listing, listing_all, place, InOrder}
use Rattle.ring.proofs.Lists.{listed-listing, listing-lt, listed-none}
use Rattle.ring.proofs.Counts.{length-keep}
use Rattle.ring.proofs.Orders.{Kept, kept_at}

-- the parts of `each_once`, of a first number and others
module _ (x : ℕ) (xs : List ℕ) (h : each_once (x ∷ xs) ≡ true) where
  pub first_alone : among xs x ≡ false
  unfolding each_once
  first_alone = not-true (among xs x) ((and-eq-true_iff (not (among xs x)) (each_once xs)).0 h).0

  pub others-once : each_once xs ≡ true
  unfolding each_once
  others-once = ((and-eq-true_iff (not (among xs x)) (each_once xs)).0 h).1

-- ---- a number among others

-- the number at a place is among them
pub among-at : (xs : List ℕ) (i k : ℕ) → i < length xs → get_or xs i 0 ≡ k → among xs k ≡ true
unfolding among
among-at [] i k h e = absurd (omega arith)
among-at (x ∷ xs) zero k h e = rw (eq-eqb x k e)
among-at (x ∷ xs) (suc i) k h e = go (eqb x k) (among-at xs i k (omega arith) e)
  where
    go : (b : Bool) → among xs k ≡ true → (b || among xs k) ≡ true
    go true q = refl
    go false q = q

among-append : (xs ys : List ℕ) (k : ℕ) → among (xs ++ ys) k ≡ (among xs k || among ys k)
unfolding among
among-append [] ys k = refl
among-append (x ∷ xs) ys k =
    ap (λ (t : Bool). eqb x k || t) (among-append xs ys k) ∙ sym (or_assoc (eqb x k) (among xs k) (among ys k))

pub among-snoc : (xs : List ℕ) (x k : ℕ) → among (xs ++ (x ∷ [])) k ≡ (among xs k || eqb x k)
unfolding among
among-snoc xs x k = among-append xs (x ∷ []) k ∙ ap (λ (t : Bool). among xs k || t) (or-false (eqb x k))

among-start : (xs ys : List ℕ) (k : ℕ) → among (xs ++ ys) k ≡ false → among xs k ≡ false
among-start xs ys k e = go (among xs k) (sym (among-append xs ys k) ∙ e)
  where
    go : (b : Bool) → (b || among ys k) ≡ false → b ≡ false
    go true h = h
    go false h = refl

-- what is among them has a place, and stands there
pub record Found (xs : List ℕ) (k : ℕ) : Type 0 where
  pub inside : place xs k < length xs
  pub there : get_or xs (place xs k) 0 ≡ k

pub found : (xs : List ℕ) (k : ℕ) → among xs k ≡ true → Found xs k
unfolding among place
found [] k h = absurd (true≢false (sym h))
found (x ∷ xs) k h = go (eqb x k) refl h (found xs k)
  where
    go : (b : Bool) → eqb x k ≡ b → (b || among xs k) ≡ true → (among xs k ≡ true → Found xs k) → Found (x ∷ xs) k
    go true e h rest = record { inside = rw e (omega arith); there = rw e (eqb-true x k e) }
    go false e h rest = let r = rest h in record { inside = rw e (omega (arith, r.inside)); there = rw e r.there }

-- ---- none twice

eqb_comm : (a b : ℕ) → eqb a b ≡ eqb b a
eqb_comm a b = elim (ℕ_discrete a b) [
  | yes e ↦ eq-eqb a b e ∙ sym (eq-eqb b a (sym e))
  | no n ↦ ne_eqb a b n ∙ sym (ne_eqb b a (λ e. n (sym e)))
]

once-tests : (a e b c : Bool) → (not (a || e) && (b && not c)) ≡ ((not a && b) && not (e || c))
once-tests true e b c = refl
once-tests false true true c = refl
once-tests false true false c = refl
once-tests false false b c = refl

pub once-snoc : (xs : List ℕ) (x : ℕ) → each_once (xs ++ (x ∷ [])) ≡ (each_once xs && not (among xs x))
unfolding each_once among
once-snoc [] x = refl
once-snoc (y ∷ xs) x =
    rw (among-snoc xs x y, once-snoc xs x, eqb_comm x y) (once-tests (among xs y) (eqb y x) (each_once xs) (among xs x))

pub once-start : (xs ys : List ℕ) → each_once (xs ++ ys) ≡ true → each_once xs ≡ true
unfolding each_once
once-start [] ys e = refl
once-start (x ∷ xs) ys e =
    rw (among-start xs ys x (first_alone x (xs ++ ys) e)) (once-start xs ys (others-once x (xs ++ ys) e))

-- two places have two numbers
pub once-apart : (xs : List ℕ) → each_once xs ≡ true → (i j : ℕ) → i < j → j < length xs → get_or xs i 0 ≢ get_or xs j 0
once-apart [] h i j a l = absurd (omega arith)
once-apart (x ∷ xs) h i zero a l = absurd (omega arith)
once-apart (x ∷ xs) h (suc i) (suc j) a l = once-apart xs (others-once x xs h) i j (omega arith) (omega arith)
once-apart (x ∷ xs) h zero (suc j) a l = λ e. true≢false (sym (among-at xs j x (omega arith) (sym e)) ∙ first_alone x xs h)

-- the place of what stands at q is q
once-place : (xs : List ℕ) → each_once xs ≡ true → (q : ℕ) → q < length xs → place xs (get_or xs q 0) ≡ q
unfolding place
once-place [] h q l = absurd (omega arith)
once-place (x ∷ xs) h zero l = rw (eq-eqb x x refl)
once-place (x ∷ xs) h (suc q) l =
    let other : x ≢ get_or xs q 0 = once-apart (x ∷ xs) h 0 (suc q) (omega arith) l in
    rw (ne_eqb x (get_or xs q 0) other, once-place xs (others-once x xs h) q (omega arith))

-- ---- at most n below n

abbrev other : ℕ → ℕ → Bool
other k x = not (eqb x k)

-- where k is not among them, all are others
others-all : (k : ℕ) (xs : List ℕ) → among xs k ≡ false → length (keep (other k) xs) ≡ length xs
unfolding keep among
others-all k [] h = refl
others-all k (x ∷ xs) h = by (eqb x k) h (others-all k xs)
  where
    by : (t : Bool) → (t || among xs k) ≡ false → (among xs k ≡ false → length (keep (other k) xs) ≡ length xs)
        → length (cond (not t) (x ∷ keep (other k) xs) (keep (other k) xs)) ≡ suc (length xs)
    by true h ih = absurd (true≢false h)
    by false h ih = ap suc (ih h)

-- where none stands twice, at most one is k
others-but-one : (k : ℕ) (xs : List ℕ) → each_once xs ≡ true → length xs ≤ suc (length (keep (other k) xs))
unfolding keep
others-but-one k [] h = zero-le
others-but-one k (x ∷ xs) h = by (eqb x k) refl (others-but-one k xs (others-once x xs h))
  where
    by : (t : Bool) → eqb x k ≡ t → length xs ≤ suc (length (keep (other k) xs))
        → suc (length xs) ≤ suc (length (cond (not t) (x ∷ keep (other k) xs) (keep (other k) xs)))
    by true e ih =
        let none : among xs k ≡ false = ap (among xs) (sym (eqb-true x k e)) ∙ first_alone x xs h in
        omega (arith, others-all k xs none)
    by false e ih = omega arith

among-keep : (t : ℕ → Bool) (xs : List ℕ) (m : ℕ) → among xs m ≡ false → among (keep t xs) m ≡ false
unfolding keep among
among-keep t [] m h = refl
among-keep t (x ∷ xs) m h = by (eqb x m) refl h (t x) (among-keep t xs m)
  where
    by : (a : Bool) → eqb x m ≡ a → (a || among xs m) ≡ false → (b : Bool) → (among xs m ≡ false → among (keep t xs) m ≡ false)
        → among (cond b (x ∷ keep t xs) (keep t xs)) m ≡ false
    by true p h b ih = absurd (true≢false h)
    by false p h true ih = rw p (ih h)
    by false p h false ih = ih h

once-keep : (t : ℕ → Bool) (xs : List ℕ) → each_once xs ≡ true → each_once (keep t xs) ≡ true
unfolding keep each_once
once-keep t [] h = refl
once-keep t (x ∷ xs) h = by (t x) (once-keep t xs (others-once x xs h))
  where
    by : (b : Bool) → each_once (keep t xs) ≡ true → each_once (cond b (x ∷ keep t xs) (keep t xs)) ≡ true
    by true ih = rw (among-keep t xs x (first_alone x xs h)) ih
    by false ih = ih

abbrev Below : ℕ → List ℕ → Type 0
Below n xs = (q : ℕ) → q < length xs → get_or xs q 0 < n

others_below : (n : ℕ) (xs : List ℕ) → Below (suc n) xs → Below n (keep (other n) xs)
others_below n xs below q h =
    let w : Kept (other n) 0 xs q = kept_at (other n) 0 xs q h in
    let x : ℕ = get_or xs w.q 0 in
    let apart : x ≢ n = eqb-false x n (not-true (eqb x n) w.passes) in
    rw w.is (lower x (below w.q w.inside) apart)
  where
    lower : (x : ℕ) → x < suc n → x ≢ n → x < n
    lower x h d = elim (ℕ_discrete x n) [ yes e ↦ absurd (d e) | no f ↦ omega arith ]

pub once-few : (n : ℕ) (xs : List ℕ) → Below n xs → each_once xs ≡ true → length xs ≤ n
once-few zero [] below h = zero-le
once-few zero (x ∷ xs) below h = absurd (omega (arith, below 0 (omega arith)))
once-few (suc n) xs below h =
    let rest = once-few n (keep (other n) xs) (others_below n xs below) (once-keep (other n) xs h) in
    omega (arith, others-but-one n xs h, rest)

-- ---- n of them are an order of the ring

-- every number below n is among them, as with it there would be too many
all_among : (n : ℕ) (xs : List ℕ) → length xs ≡ n → Below n xs → each_once xs ≡ true → (k : ℕ) → k < n → among xs k ≡ true
unfolding each_once
all_among n xs size below h k l = go (among xs k) refl
  where
    go : (b : Bool) → among xs k ≡ b → b ≡ true
    go true e = refl
    go false e =
        let more : Below n (k ∷ xs) = λ q s. first q s in
        absurd (omega (arith, once-few n (k ∷ xs) more (rw e h)))
      where
        first : (q : ℕ) → q < suc (length xs) → get_or (k ∷ xs) q 0 < n
        first zero s = l
        first (suc q) s = below q (omega arith)

pub once-in-order : (n : ℕ) (xs : List ℕ) → length xs ≡ n → Below n xs → each_once xs ≡ true → InOrder n xs
once-in-order n xs size below h =
    let at : (k : ℕ) → k < n → Found xs k = λ k l. found xs k (all_among n xs size below h k l) in
    record {
      size = size;
      below = λ q l. below q (omega arith);
      placed = λ k l. rw (← size) (at k l).inside;
      has = λ k l. (at k l).there;
      once = λ q l. once-place xs h q (omega arith);
    }

-- ---- where all below n are among them, they are at least n

-- without k there are fewer
others-fewer : (k : ℕ) (xs : List ℕ) → among xs k ≡ true → length (keep (other k) xs) < length xs
unfolding keep among
others-fewer k [] h = absurd (true≢false (sym h))
others-fewer k (x ∷ xs) h = by (eqb x k) h (others-fewer k xs)
  where
    by : (t : Bool) → (t || among xs k) ≡ true → (among xs k ≡ true → length (keep (other k) xs) < length xs)
        → length (cond (not t) (x ∷ keep (other k) xs) (keep (other k) xs)) < suc (length xs)
    by true h ih = omega (arith, length-keep (other k) xs)
    by false h ih = omega (arith, ih h)

-- and every other number is still there
others-have : (k m : ℕ) (xs : List ℕ) → m ≢ k → among xs m ≡ true → among (keep (other k) xs) m ≡ true
unfolding keep among
others-have k m [] ne h = h
others-have k m (x ∷ xs) ne h = by (eqb x k) refl (eqb x m) refl h (others-have k m xs ne)
  where
    by : (a : Bool) → eqb x k ≡ a → (b : Bool) → eqb x m ≡ b → (b || among xs m) ≡ true
        → (among xs m ≡ true → among (keep (other k) xs) m ≡ true)
        → among (cond (not a) (x ∷ keep (other k) xs) (keep (other k) xs)) m ≡ true
    by true p true q h ih = absurd (ne (sym (eqb-true x m q) ∙ eqb-true x k p))
    by true p false q h ih = ih h
    by false p true q h ih = rw q
    by false p false q h ih = rw q (ih h)

pub all-many : (n : ℕ) (xs : List ℕ) → ((k : ℕ) → k < n → among xs k ≡ true) → n ≤ length xs
all-many zero xs h = zero-le
all-many (suc n) xs h =
    let rest = all-many n (keep (other n) xs) (λ k l. others-have n k xs (λ e. omega arith) (h k (omega arith))) in
    omega (arith, rest, others-fewer n xs (h n (omega arith)))

-- what is among them is, by its value, among their values
pub among-map : (f : ℕ → ℕ) (xs : List ℕ) (k i : ℕ) → f k ≡ i → among xs k ≡ true → among (map f xs) i ≡ true
unfolding among
among-map f [] k i e h = h
among-map f (x ∷ xs) k i e h = by (eqb x k) refl h (among-map f xs k i e)
  where
    by : (t : Bool) → eqb x k ≡ t → (t || among xs k) ≡ true → (among xs k ≡ true → among (map f xs) i ≡ true)
        → (eqb (f x) i || among (map f xs) i) ≡ true
    by true q h ih = rw (eq-eqb (f x) i (ap f (eqb-true x k q) ∙ e))
    by false q h ih = rw (ih h) (or-true (eqb (f x) i))

-- ---- as a dead list

or_turn : (a b c : Bool) → ((a || b) || c) ≡ (b || (a || c))
or_turn true true c = refl
or_turn true false c = refl
or_turn false b c = refl

-- it lists what the list did and these
listed-with : (xs : List ℕ) (d k : ℕ) → listed (listing_all d xs) k ≡ (listed d k || among xs k)
unfolding listing_all among
listed-with [] d k = sym (or-false (listed d k))
listed-with (x ∷ xs) d k = listed-with xs (listing d x) k ∙ rw (listed-listing d x k) (or_turn (eqb x k) (listed d k) (among xs k))

-- from nobody on, exactly these
pub listed-all : (xs : List ℕ) (k : ℕ) → listed (listing_all 0 xs) k ≡ among xs k
listed-all xs k = listed-with xs 0 k ∙ rw (listed-none k)

pub all_snoc : (xs : List ℕ) (d x : ℕ) → listing_all d (xs ++ (x ∷ [])) ≡ listing (listing_all d xs) x
unfolding listing_all
all_snoc [] d x = refl
all_snoc (y ∷ xs) d x = all_snoc xs (listing d y) x

pub all_small : (n : ℕ) (xs : List ℕ) (d : ℕ) → d < 2 ^ n → Below n xs → listing_all d xs < 2 ^ n
unfolding listing_all
all_small n [] d h f = h
all_small n (x ∷ xs) d h f = all_small n xs (listing d x) (listing-lt n d x h (f 0 (omega arith))) (λ i a. f (suc i) (omega arith))
