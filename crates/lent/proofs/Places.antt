-- Rows tested place by place, as the code goes through them, are tested as the definitions do. Assumes nothing.
use Prim.Native.Nat.{ℕ, ◌+◌, ◌-◌}
use mathlib.Core.Path.{◌≡◌, refl, ap}
use mathlib.Core.Bool.{Bool, not}
use mathlib.Core.List.{List, [], ◌∷◌}
use native.Mathlib.Omega.{arith}
use lib.Dec.{eqb}
use lib.ListN.{length, get_or, drop, length-drop}
use Rattle.std.specs.List.{list_all, list_any, range_with_len}
use Rattle.ring.specs.Ring.{among, each_once}
use Rattle.plans.specs.Plan.{Crash, rising_from, rising, hits, none_twice, every}
use Rattle.plans.specs.Plain.{no_crash}
use Rattle.store.proofs.Places.{row-here, rows-after}

-- rows, of which those from place j on are given one by one
module _ {A : Type 0} (all : List A) (z : A) where
  abbrev row : ℕ → A
  row i = get_or all i z

  -- each passes a test
  every-from : (test : A → Bool) (j : ℕ) (rows : List A) → drop j all ≡ rows
      → list_all (λ i. test (row i)) (range_with_len j (length rows)) ≡ every test rows
  unfolding every
  every-from test j [] e = refl
  every-from test j (x ∷ rows) e = rw (row-here all z j x rows e, every-from test (j + 1) rows (rows-after all z j x rows e))

  pub every-places : (test : A → Bool) (n : ℕ) → n ≡ length all → list_all (λ i. test (row i)) (range_with_len 0 (n - 0)) ≡ every test all
  every-places test n e = let k : n - 0 ≡ length all = omega arith in rw k (every-from test 0 all refl)

  -- each but the first comes after the one before it
  rising-places-from : (after : A → A → Bool) (j : ℕ) (x : A) (rows : List A) → drop j all ≡ x ∷ rows
      → list_all (λ i. after (row (i - 1)) (row (i - 1 + 1))) (range_with_len (j + 1) (length rows)) ≡ rising_from after x rows
  unfolding rising_from
  rising-places-from after j x [] e = refl
  rising-places-from after j x (y ∷ rows) e =
      let k : j + 1 - 1 ≡ j = omega arith in
      let e' : drop (j + 1) all ≡ y ∷ rows = rows-after all z j x (y ∷ rows) e in
      rw (k, row-here all z j x (y ∷ rows) e, row-here all z (j + 1) y rows e', rising-places-from after (j + 1) y rows e')

  pub rising-places : (after : A → A → Bool) (n : ℕ) → n ≡ length all
      → list_all (λ i. after (row (i - 1)) (row (i - 1 + 1))) (range_with_len 1 (n - 1)) ≡ rising after all
  unfolding rising
  rising-places after n e = go all refl
    where
      go : (rows : List A) → all ≡ rows
          → list_all (λ i. after (row (i - 1)) (row (i - 1 + 1))) (range_with_len 1 (n - 1)) ≡ rising after rows
      go [] q = let k : n - 1 ≡ 0 = omega (arith, ap length q) in rw k
      go (x ∷ rows) q = let k : n - 1 ≡ length rows = omega (arith, ap length q) in rw k (rising-places-from after 0 x rows q)

-- ---- C rows

module _ (all : List Crash) where
  hits-from : (k j : ℕ) (rows : List Crash) → drop j all ≡ rows
      → list_any (λ i. eqb (get_or all i no_crash).node k) (range_with_len j (length rows)) ≡ hits rows k
  unfolding hits among
  hits-from k j [] e = refl
  hits-from k j (x ∷ rows) e = rw (row-here all no_crash j x rows e, hits-from k (j + 1) rows (rows-after all no_crash j x rows e))

  -- one of them from a place on is of node k
  pub hits-places : (first k n : ℕ) → n ≡ length all
      → list_any (λ i. eqb (get_or all i no_crash).node k) (range_with_len first (n - first)) ≡ hits (drop first all) k
  hits-places first k n e = rw (e, ← length-drop first all) (hits-from k first (drop first all) refl)

  once-from : (j : ℕ) (rows : List Crash) → drop j all ≡ rows
      → list_all (λ i. not (hits (drop (i + 1) all) (get_or all i no_crash).node)) (range_with_len j (length rows)) ≡ none_twice rows
  unfolding none_twice hits each_once
  once-from j [] e = refl
  once-from j (x ∷ rows) e =
      let after = rows-after all no_crash j x rows e in rw (row-here all no_crash j x rows e, after, once-from (j + 1) rows after)

  -- no two of them are of one node
  pub once-places : (n : ℕ) → n ≡ length all
      → list_all (λ i. not (hits (drop (i + 1) all) (get_or all i no_crash).node)) (range_with_len 0 (n - 0)) ≡ none_twice all
  once-places n e = let k : n - 0 ≡ length all = omega arith in rw k (once-from 0 all refl)
