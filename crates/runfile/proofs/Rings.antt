-- The numbers of a Q line: its form, and its numbers one after another. Assumes nothing.
use Prim.Native.Nat.{ℕ, zero, suc, ◌+◌, ◌-◌, ◌≤◌, ◌<◌}
use native.Mathlib.Omega.{arith}
use mathlib.Core.Path.{◌≡◌, refl, sym, ap, ◌∙◌}
use mathlib.Core.Bool.{Bool, true, false, cond, not, ◌&&◌, true≢false}
use mathlib.Core.List.{List, [], ◌∷◌, ◌++◌, append_assoc, append-nil}
use Rattle.std.specs.Prelude.{Option, None, Some, Ok, Err}
use lib.Dec.{ltb}
use lib.ListN.{length}
use borrow.Author.Tests.{lt-ltb, le-ltb}
use Rattle.ring.specs.Ring.{listed, listing, listing_all, each_once}
use Rattle.ring.proofs.Once.{once-snoc, listed-all, all_snoc}
use Rattle.limits.specs.declared.Refusal.TheVariants.{OutOfRange, NotEachOnce}
use Rattle.text.specs.Field.{read_then, ends, number_field_at}
use Rattle.plans.specs.Plan.{every}
use Rattle.plans.proofs.Rows.{every-snoc, every-there}
use Rattle.runfile.specs.File.{Row, ring, numbers_then, ring_of}
use Rattle.runfile.specs.Reader.{there_then, with_rest, numbers_there, numbers_at, ring_refusal}

-- ---- the form

numbers-then : (k : ℕ) (l : List ℕ) (i : ℕ) (f : List ℕ → Option Row)
    → numbers_then k l i f ≡ cond (numbers_there k l i) (f (numbers_at k l i)) None
unfolding numbers_then numbers_there there_then numbers_at with_rest
numbers-then zero l i f = refl
numbers-then (suc k) l i f = by (number_field_at l i) (λ x j. numbers-then k l j (λ xs. f (x ∷ xs)))
  where
    by : (y : Option (ℕ × ℕ))
        → ((x j : ℕ) → numbers_then k l j (λ xs. f (x ∷ xs)) ≡ cond (numbers_there k l j) (f (x ∷ numbers_at k l j)) None)
        → read_then y (λ x j. numbers_then k l j (λ xs. f (x ∷ xs)))
        ≡ cond (there_then y (λ j. numbers_there k l j)) (f (with_rest y (λ j. numbers_at k l j))) None
    by (Some (x, j)) rest = rest x j
    by None rest = refl

-- a Q line of n nodes has good form where n numbers and the line's end are there
pub ring-form : (n : ℕ) (l : List ℕ) → ring_of n l ≡ cond (numbers_there n l 1) (Some (ring (numbers_at n l 1))) None
unfolding ring_of
ring-form n l = numbers-then n l 1 (λ ks. Some (ring ks))

-- ---- one number after another

module _ (k : ℕ) (l : List ℕ) (i : ℕ) where
  pub there-none : 0 < k → number_field_at l i ≡ None → numbers_there k l i ≡ false
  unfolding numbers_there there_then
  there-none more e = let some : k ≡ suc (k - 1) = omega arith in rw (some, e)

  module _ (x j m : ℕ) (e : number_field_at l i ≡ Some (x, j)) (more : k ≡ m + 1) where
    one-more : k ≡ suc m
    one-more = omega arith

    pub there-next : numbers_there k l i ≡ numbers_there m l j
    unfolding numbers_there there_then
    there-next = rw (one-more, e)

    at_next : numbers_at k l i ≡ x ∷ numbers_at m l j
    unfolding numbers_at with_rest
    at_next = rw (one-more, e)

  pub there-end : k ≡ 0 → numbers_there k l i ≡ ends l i
  unfolding numbers_there
  there-end none = rw none

  at-end : k ≡ 0 → numbers_at k l i ≡ []
  unfolding numbers_at
  at-end none = rw none

-- for numbers that are read one by one
pub ruleset numbers_read = (there-none, there-next, there-end)

-- as many numbers as are there
pub there-count : (k : ℕ) (l : List ℕ) (i : ℕ) → numbers_there k l i ≡ true → length (numbers_at k l i) ≡ k
unfolding numbers_there there_then numbers_at with_rest
there-count zero l i h = refl
there-count (suc k) l i h = by (number_field_at l i) h (λ j. there-count k l j)
  where
    by : (y : Option (ℕ × ℕ)) → there_then y (λ j. numbers_there k l j) ≡ true
        → ((j : ℕ) → numbers_there k l j ≡ true → length (numbers_at k l j) ≡ k)
        → length (with_rest y (λ j. numbers_at k l j)) ≡ suc k
    by (Some (x, j)) h rest = ap suc (rest j h)
    by None h rest = absurd (true≢false (sym h))

-- ---- range, and each once

every-not : (test : ℕ → Bool) (xs : List ℕ) (x : ℕ) (ys : List ℕ) → test x ≡ false → every test (xs ++ (x ∷ ys)) ≡ false
every-not test xs x ys h = by (every test (xs ++ (x ∷ ys))) refl
  where
    by : (b : Bool) → every test (xs ++ (x ∷ ys)) ≡ b → every test (xs ++ (x ∷ ys)) ≡ false
    by true e = absurd (true≢false (sym (every-there test xs x ys e) ∙ h))
    by false e = e

-- the numbers of the line l before the place i were tried, and `left` others stand from there on: all were nodes, `seen` lists them, and
-- `once` says whether none stood twice
pub record Tried (n : ℕ) (l : List ℕ) (seen : ℕ) (once : Bool) (left i : ℕ) : Type 0 where
  pub done : List ℕ
  pub all : numbers_at n l 1 ≡ done ++ numbers_at left l i
  pub there : numbers_there left l i ≡ true
  pub nodes : every (λ k. ltb k n) done ≡ true
  pub seen_all : seen ≡ listing_all 0 done
  pub none-twice : once ≡ each_once done

pub tried-none : (n left : ℕ) (l : List ℕ) → left ≡ n → numbers_there n l 1 ≡ true → Tried n l 0 true left 1
unfolding every listing_all each_once
tried-none n left l e h =
    record { done = []; all = rw e; there = rw e h; nodes = refl; seen_all = refl; none-twice = refl }

module _ (n : ℕ) (l : List ℕ) (seen : ℕ) (once : Bool) (left i : ℕ) (t : Tried n l seen once left i) where
  -- where one was to be tried, it is there
  pub tried-more : 0 < left → number_field_at l i ≡ None → ⊥
  tried-more more e = true≢false (sym t.there ∙ there-none left l i more e)

  module _ (x j m : ℕ) (read : number_field_at l i ≡ Some (x, j)) (more : left ≡ m + 1) where
    next-all : numbers_at n l 1 ≡ t.done ++ (x ∷ numbers_at m l j)
    next-all = t.all ∙ ap (λ (xs : List ℕ). t.done ++ xs) (at_next left l i x j m read more)

    -- it is no node
    pub tried-outside : n ≤ x → ring_refusal n (numbers_at n l 1) ≡ Err OutOfRange
    unfolding ring_refusal
    tried-outside high = rw (next-all, every-not (λ k. ltb k n) t.done x (numbers_at m l j) (le-ltb x n high))

    -- it is one, and was tried too
    pub tried-next : x < n → {still : Bool} → still ≡ (once && not (listed seen x)) → {now : ℕ} → now ≡ listing seen x → Tried n l now still m j
    tried-next low same more-seen = record {
      done = t.done ++ (x ∷ []);
      all = next-all ∙ sym (append_assoc t.done (x ∷ []) (numbers_at m l j));
      there = sym (there-next left l i x j m read more) ∙ t.there;
      nodes = every-snoc (λ k. ltb k n) t.done x t.nodes (lt-ltb x n low);
      seen_all = more-seen ∙ rw t.seen_all (sym (all_snoc t.done 0 x));
      none-twice = same ∙ rw (t.none-twice, t.seen_all, listed-all t.done x) (sym (once-snoc t.done x));
    }

  -- all were tried
  pub tried-all : left ≡ 0 → ring_refusal n (numbers_at n l 1) ≡ cond once (Ok tt) (Err NotEachOnce)
  unfolding ring_refusal
  tried-all last =
      let whole : numbers_at n l 1 ≡ t.done = t.all ∙ ap (λ (xs : List ℕ). t.done ++ xs) (at-end left l i last) ∙ append-nil t.done in
      rw (whole, t.nodes, t.none-twice)
