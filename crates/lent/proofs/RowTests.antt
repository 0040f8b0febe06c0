-- A plan's tests: the numbers of the Q line one after another, and the L rows. Assumes nothing.
use Prim.Native.Nat.{ℕ, ◌+◌, ◌≤◌, ◌<◌}
use mathlib.Core.Path.{◌≡◌, refl, sym, ◌∙◌}
use mathlib.Core.Bool.{Bool, true, false, ◌&&◌, and-true, and-false, true≢false}
use mathlib.Core.List.{List, [], ◌∷◌, ◌++◌}
use native.Mathlib.Numerals.{add-one}
use native.Mathlib.Omega.{arith}
use borrow.Author.Tests.{le-leb, lt-ltb}
use lib.Dec.{ltb}
use lib.ListN.{length, get_or, take, drop, take-append-drop}
use lib.Seq.{take-suc, take_all}
use Rattle.limits.specs.Limits.{most_delays}
use Rattle.plans.specs.Plan.{Plan, delay_range, delay_order, few_delays, every, ring_range, delay_test}
use Rattle.ring.specs.Ring.{among, each_once, listed, listing, listing_all}
use Rattle.ring.proofs.Once.{listed-all, all_snoc, once-snoc, once-start}
use Rattle.plans.proofs.Orders.{ring-node}
use Rattle.plans.proofs.Rows.{every-snoc}

-- ---- the Q line

-- the first i numbers passed, and are seen
pub record Seen (p : Plan) (ks : List ℕ) (i seen : ℕ) : Type 0 where
  pub range : ring_range p (take i ks) ≡ true
  pub once : each_once (take i ks) ≡ true
  pub are : seen ≡ listing_all 0 (take i ks)

module _ (p : Plan) (ks : List ℕ) where
  pub none_seen : Seen p ks 0 0
  unfolding ring_range every each_once listing_all
  none_seen = record { range = refl; once = refl; are = refl }

  module _ {i k : ℕ} (inside : i < length ks) (got : k ≡ get_or ks i 0) where
    -- a number that is no node
    pub ring-above : {n : ℕ} → n ≡ p.n → n ≤ k → false ≡ (ring_range p ks && each_once ks)
    ring-above e h = go (ring_range p ks) refl
      where
        go : (t : Bool) → ring_range p ks ≡ t → false ≡ (t && each_once ks)
        go true r = absurd (omega (arith, ring-node p ks r i inside))
        go false r = refl

    module _ {seen : ℕ} (sofar : Seen p ks i seen) where
      more : take (i + 1) ks ≡ take i ks ++ (k ∷ [])
      more = rw (add-one i, got) (take-suc ks i 0 inside)

      -- whether it was seen is whether it stands before
      before : listed seen k ≡ among (take i ks) k
      before = rw sofar.are (listed-all (take i ks) k)

      -- one that stands twice
      pub ring-twice : {b : Bool} → b ≡ listed seen k → b ≡ true → false ≡ (ring_range p ks && each_once ks)
      ring-twice told hit = go (each_once ks) refl
        where
          stands : each_once (take (i + 1) ks) ≡ false
          stands = rw (more, once-snoc (take i ks) k, sofar.once, ← before, ← told, hit)

          go : (t : Bool) → each_once ks ≡ t → false ≡ (ring_range p ks && t)
          go true e =
              let part = once-start (take (i + 1) ks) (drop (i + 1) ks) (rw (take-append-drop (i + 1) ks) e) in
              absurd (true≢false (sym part ∙ stands))
          go false e = sym (and-false (ring_range p ks))

      pub ring-turn : {n : ℕ} → n ≡ p.n → k < n → {b : Bool} → b ≡ listed seen k → b ≡ false → {next : ℕ} → next ≡ listing seen k
          → Seen p ks (i + 1) next
      unfolding ring_range
      ring-turn e h told free listed = record {
        range = rw more (every-snoc (λ x. ltb x p.n) (take i ks) k sofar.range (lt-ltb k p.n (omega arith)));
        once = rw (more, once-snoc (take i ks) k, sofar.once, ← before, ← told, free);
        are = listed ∙ rw (sofar.are, more) (sym (all_snoc (take i ks) 0 k));
      }

  -- all numbers were seen
  pub ring-end : {i seen : ℕ} → Seen p ks i seen → length ks ≤ i → true ≡ (ring_range p ks && each_once ks)
  ring-end {i} sofar past =
      let all : take i ks ≡ ks = take_all i ks past in
      let range : ring_range p ks ≡ true = rw all at sofar.range in
      let once : each_once ks ≡ true = rw all at sofar.once in
      rw (range, once)

-- ---- L rows

-- where the L rows are no more than places, this is the test of them
pub delays-tested : (p : Plan) → length p.delays ≤ most_delays → delay_test p ≡ (every (delay_range p) p.delays && delay_order p.delays)
unfolding delay_test few_delays
delays-tested p few = rw (le-leb (length p.delays) most_delays few, and-true (delay_order p.delays))
