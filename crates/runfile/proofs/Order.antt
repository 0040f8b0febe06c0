-- What one row more does to the tests on rows, told by what the reader keeps of the rows before it. Assumes nothing.
use Prim.Native.Nat.{ℕ, zero, suc, ◌+◌, zero-le}
use native.Mathlib.Omega.{arith}
use mathlib.Core.Path.{◌≡◌, refl, sym, ap, ◌∙◌}
use mathlib.Core.Bool.{Bool, true, not, ◌&&◌, and-true, and_assoc}
use mathlib.Core.List.{List, [], ◌∷◌, ◌++◌}
use lib.Dec.{leb}
use lib.ListN.{length, length-append}
use borrow.Author.Tests.{le-leb, lt-ltb}
use Rattle.plans.specs.Plan.{Crash, Delay, rising_from, rising, later, hits, none_twice, crash_order, above, delay_order}
use mathlib.Mathlib.Data.Bool.Basic.{and_elim_left, and_elim_right}
use Rattle.plans.proofs.Rows.{twice-snoc}
use Rattle.runfile.specs.Reader.{last, crash_floor, delay_floor, follows}

-- ---- rows that rise

last_snoc : {A : Type 0} (x : A) (xs : List A) (r : A) → last x (xs ++ (r ∷ [])) ≡ r
unfolding last
last_snoc x [] r = refl
last_snoc x (y ∷ ys) r = last_snoc y ys r

rising-from-snoc : {A : Type 0} (after : A → A → Bool) (x : A) (xs : List A) (r : A)
    → rising_from after x (xs ++ (r ∷ [])) ≡ rising_from after x xs && after (last x xs) r
unfolding rising_from last
rising-from-snoc after x [] r = and-true (after x r)
rising-from-snoc after x (y ∷ ys) r =
    ap (λ (t : Bool). after x y && t) (rising-from-snoc after y ys r)
    ∙ sym (and_assoc (after x y) (rising_from after y ys) (after (last y ys) r))

-- ---- crash rows

from_nothing : (t k : ℕ) → follows 0 0 t k ≡ true
unfolding follows
from_nothing zero k = le-leb 0 k zero-le
from_nothing (suc t) k = rw (lt-ltb 0 (suc t) (omega arith))

crash-rising : (rs : List Crash) (t k : ℕ) → rising later rs ≡ true
    → rising later (rs ++ (record { tick = t; node = k } ∷ [])) ≡ follows (crash_floor rs).tick (crash_floor rs).node t k
unfolding rising rising_from crash_floor follows later
crash-rising [] t k h = empty t k
  where
    empty : (t k : ℕ) → rising_from later (record { tick = t; node = k }) [] ≡ follows 0 0 t k
    empty t k = sym (from_nothing t k)
crash-rising (x ∷ xs) t k h = rising-from-snoc later x xs (record { tick = t; node = k }) ∙ rw h (same (last x xs))
  where
    same : (a : Crash) → later a (record { tick = t; node = k }) ≡ follows a.tick (suc a.node) t k
    same a = refl

-- one C line more is in order where its row is not below the floor and its node was not seen
pub crash-order-snoc : (rs : List Crash) (t k : ℕ) → crash_order rs ≡ true
    → crash_order (rs ++ (record { tick = t; node = k } ∷ [])) ≡ follows (crash_floor rs).tick (crash_floor rs).node t k && not (hits rs k)
unfolding crash_order
crash-order-snoc rs t k h =
    let rises = and_elim_left (rising later rs) (none_twice rs) h in
    let once = and_elim_right (rising later rs) (none_twice rs) h in
    rw (crash-rising rs t k rises, twice-snoc rs (record { tick = t; node = k }), once)

pub crash-floor-snoc : (rs : List Crash) (t k : ℕ) → crash_floor (rs ++ (record { tick = t; node = k } ∷ [])) ≡ record { tick = t; node = suc k }
unfolding crash_floor last
crash-floor-snoc [] t k = refl
crash-floor-snoc (x ∷ xs) t k = rw (last_snoc x xs (record { tick = t; node = k }))

-- ---- delay rows

-- one L line more is in order where its number is not below the floor
pub delay-order-snoc : (rs : List Delay) (r : Delay) → delay_order rs ≡ true → delay_order (rs ++ (r ∷ [])) ≡ leb (delay_floor rs) r.number
unfolding delay_order rising rising_from delay_floor above
delay-order-snoc [] r h = sym (le-leb 0 r.number zero-le)
delay-order-snoc (x ∷ xs) r h = rising-from-snoc above x xs r ∙ rw h

pub delay-floor-snoc : (rs : List Delay) (r : Delay) → delay_floor (rs ++ (r ∷ [])) ≡ suc r.number
unfolding delay_floor last
delay-floor-snoc [] r = refl
delay-floor-snoc (x ∷ xs) r = rw (last_snoc x xs r)

pub snoc-length : {A : Type 0} (xs : List A) (r : A) → length (xs ++ (r ∷ [])) ≡ length xs + 1
snoc-length xs r = length-append xs (r ∷ [])
