-- One turn, and the end, of each search over a lent order: ahead, back, and for a place. Assumes nothing.
use mathlib.Core.Path.{◌≡◌, refl, sym, ap, ◌∙◌}
use mathlib.Core.Bool.{Bool, true, false, not, cond}
use mathlib.Core.List.{List, [], ◌∷◌, ◌++◌, reverse, reverse-append}
use Prim.Native.Nat.{ℕ, zero, suc, min, ◌+◌, ◌-◌, ◌≤◌, ◌<◌}
use native.Mathlib.Nat.{zero-add, add-zero}
use native.Mathlib.Numerals.{add-one, sub-one}
use native.Mathlib.Decide.{dec_lt}
use native.Mathlib.Omega.{arith}
use borrow.Author.Tests.{ltb-false, not-true, not-false}
use lib.Arith.{le-zero}
use lib.Dec.{eqb, ltb}
use lib.ListN.{length, get_or, take, drop, drop_of_length-le}
use lib.Seq.{take-suc, drop-cons, take_all}
use Rattle.std.specs.Prelude.{Option, Some, None, unwrap_or}
use Rattle.std.specs.List.{position_or_len}
use Rattle.std.proofs.lemmas.List.Recursion.{is_position_or_len}
use Rattle.ring.specs.declared.NodeBefore.{NodeBefore}
use Rattle.ring.specs.Ring.{keep, none, node_before, passing, listed, unlisted, round, ahead, first_unlisted, back, next, place}
use Rattle.ring.proofs.Laws.{unlisted-yes, unlisted-no, length-round}

-- the answer of a search that comes after one that passed k
abbrev pub after : ℕ → NodeBefore → NodeBefore
after k b = node_before b.node (k + b.passed)

-- one turn of a walk ahead, and of one back
module _ (d s : ℕ) (l : List ℕ) (h : s < length l) where
  ahead-yes : listed d (get_or l s 0) ≡ false → unlisted d (drop s l) ≡ get_or l s 0 ∷ unlisted d (drop (s + 1) l)
  ahead-yes e = rw (add-one, drop-cons l s 0) (unlisted-yes d (get_or l s 0) (drop (suc s) l) e)

  ahead-no : listed d (get_or l s 0) ≡ true → unlisted d (drop s l) ≡ unlisted d (drop (s + 1) l)
  ahead-no e = rw (add-one, drop-cons l s 0) (unlisted-no d (get_or l s 0) (drop (suc s) l) e)

  back-take : reverse (take (suc s) l) ≡ get_or l s 0 ∷ reverse (take s l)
  back-take = rw (take-suc l s 0, reverse-append)

  back-yes : listed d (get_or l s 0) ≡ false → first_unlisted d (reverse (take (suc s) l)) ≡ node_before (get_or l s 0) 0
  unfolding first_unlisted
  back-yes e = rw (back-take, e)

  back-no : listed d (get_or l s 0) ≡ true → first_unlisted d (reverse (take (suc s) l)) ≡ passing (first_unlisted d (reverse (take s l)))
  unfolding first_unlisted
  back-no e = rw (back-take, e)

-- The same for a turn of the code, which has read x at the place s of the round and asked b, whether it is listed.
module _ (order : List ℕ) (d p s x : ℕ) (b : Bool) (h : s < length order) (e : x ≡ get_or (round order p) s 0) (t : b ≡ listed d x) where
  -- the ring from p on
  abbrev ring : List ℕ
  ring = round order p

  in-round : s < length ring
  in-round = rw length-round h

  asked : (v : Bool) → b ≡ v → listed d (get_or ring s 0) ≡ v
  asked v q = rw (← e) (sym t ∙ q)

  pub turn-hit : (n : ℕ) → not b ≡ true → n ≡ 0 → x ≡ get_or (unlisted d (drop s ring)) n none
  turn-hit n q z = rw (z, ahead-yes d s ring in-round (asked false (not-true b q))) e

  pub turn-pass : (n : ℕ) → not b ≡ true → (n ≡ 0 → ⊥)
      → get_or (unlisted d (drop s ring)) n none ≡ get_or (unlisted d (drop (s + 1) ring)) (n - 1) none
  turn-pass zero q z = absurd (z refl)
  turn-pass (suc n) q z = rw (ahead-yes d s ring in-round (asked false (not-true b q)), sub-one)

  pub turn-skip : (n : ℕ) → not b ≡ false → get_or (unlisted d (drop s ring)) n none ≡ get_or (unlisted d (drop (s + 1) ring)) n none
  turn-skip n q = rw (ahead-no d s ring in-round (asked true (not-false b q)))

  -- going back, k were passed, and the turn leaves s of the n places that were left
  pub turn-back-hit : (n k : ℕ) → n ≡ suc s → not b ≡ true → node_before x k ≡ after k (first_unlisted d (reverse (take n ring)))
  turn-back-hit n k m q = rw (m, back-yes d s ring in-round (asked false (not-true b q)), e, add-zero)

  pub turn-back-skip : (n k : ℕ) → n ≡ suc s → not b ≡ false
      → after k (first_unlisted d (reverse (take n ring))) ≡ after (k + 1) (first_unlisted d (reverse (take s ring)))
  unfolding passing
  turn-back-skip n k m q =
      let f : NodeBefore = first_unlisted d (reverse (take s ring)) in
      let sum : k + suc f.passed ≡ k + 1 + f.passed = omega arith in
      rw (m, back-no d s ring in-round (asked true (not-false b q)), sum)

-- after the last turn
pub turn-done : (order : List ℕ) (d p s n : ℕ) → length order ≤ s → get_or (unlisted d (drop s (round order p))) n none ≡ none
unfolding unlisted keep
turn-done order d p s n h = rw (drop_of_length-le (round order p) {i = s} (rw length-round h))

pub turn-back-start : (order : List ℕ) (d p : ℕ) → back order d p ≡ after 0 (first_unlisted d (reverse (take (length order) (round order p))))
unfolding back
turn-back-start order d p = rw (take_all (length order) (round order p) (rw length-round (omega arith)), zero-add)

pub turn-back-done : (order : List ℕ) (d p s k : ℕ) → s ≤ 0 → after k (first_unlisted d (reverse (take s (round order p)))) ≡ node_before none k
unfolding first_unlisted
turn-back-done order d p s k h = rw (le-zero h, add-zero)

-- the next node by the search ahead, from the place after p; m bounds the places that there can be
pub next-from : (order : List ℕ) (d p q m : ℕ) → length order ≤ m → q ≡ min (p + 1) m → ahead order d q 0 ≡ next order d p
unfolding ahead next round
next-from order d p q m l e = go (dec_lt p m)
  where
    go : Dec (p < m) → get_or (unlisted d (drop q order ++ take q order)) 0 none ≡ get_or (unlisted d (drop (suc p) order ++ take (suc p) order)) 0 none
    go (yes h) =
        let z : q ≡ suc p = omega arith in
        rw z
    go (no h) =
        let a : length order ≤ q = omega arith in
        let b : length order ≤ suc p = omega arith in
        rw (drop_of_length-le order {i = q} a, take_all q order a, drop_of_length-le order {i = suc p} b, take_all (suc p) order b)

-- ---- places

-- a place, or the length where there is none
pub place-le : (order : List ℕ) (i : ℕ) → place order i ≤ length order
unfolding place
place-le [] i = omega arith
place-le (x ∷ order) i = go (eqb x i) (place-le order i)
  where
    go : (b : Bool) → place order i ≤ length order → cond b zero (suc (place order i)) ≤ suc (length order)
    go true h = omega arith
    go false h = omega arith

-- the place is the one that the library's search finds
pub place-found : (order : List ℕ) (i : ℕ) (r : Option ℕ)
    → r ≡ cond (ltb (position_or_len (λ x. eqb x i) order) (length order)) (Some (position_or_len (λ x. eqb x i) order)) None
    → unwrap_or r (length order) ≡ place order i
unfolding place
place-found order i r e = rw (e, ← same) (go (ltb (place order i) (length order)) refl)
  where
    same : place order i ≡ position_or_len (λ x. eqb x i) order
    same = is_position_or_len (λ (xs : List ℕ). place xs i) (λ x. eqb x i) refl (λ x xs. ap (cond (eqb x i) zero) (omega arith)) order

    go : (b : Bool) → ltb (place order i) (length order) ≡ b → unwrap_or (cond b (Some (place order i)) None) (length order) ≡ place order i
    go true q = refl
    go false q = omega (arith, place-le order i, ltb-false (place order i) (length order) q)

pub ruleset after_place = (next-from)
