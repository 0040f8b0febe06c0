-- The nodes ahead and the neighbours by a dead list, in any order: what holds for any test of who is listed (Unlisted.antt, GoingBack.antt), said of the
-- definitions of Ring.antt; and the neighbours at opening, when nobody is listed. Assumes nothing.
use mathlib.Core.Path.{◌≡◌, refl, sym, ap, ◌∙◌}
use mathlib.Core.Bool.{true, false, true≢false}
use mathlib.Core.List.{List, [], ◌∷◌, reverse}
use mathlib.Core.Logic.{◌≢◌}
use Prim.Native.Nat.{ℕ, ◌+◌, ◌-◌, ◌%◌, ◌≤◌, ◌<◌}
use native.Mathlib.Nat.{mod-lt, mod-eq_of_lt}
use native.Mathlib.Omega.{arith}
use native.Mathlib.Decide.{dec_lt}
use Rattle.ring.specs.Ring.{keep, numbers, listed, unlisted, place, round, ahead, back, back_from, next, count, InOrder}
use Rattle.ring.proofs.Lists.{listed-none}
use Rattle.ring.proofs.Rows.{length-numbers}
use Rattle.ring.proofs.Unlisted.{count_by, ahead_by, back_by, next_by, ahead_by-below, ahead_by-unlisted, ahead_by-differ, ahead_by-add, ahead_by-itself}
use Rattle.ring.proofs.Unlisted.{count_by-some, back_by-ahead, next_by-ahead, next_by-back, back_by-next}
use Rattle.ring.proofs.Gaps.{gap}
use Rattle.ring.proofs.Passed.{first-node, first-none, from-node}
use Rattle.ring.proofs.GoingBack.{Found, back_by-passes, found_by-back}

module _ (n d : ℕ) (order : List ℕ) (r : InOrder n order) where
  -- ---- the nodes ahead of a place

  pub ahead-below : (p k : ℕ) → k < count n d → ahead order d p k < n
  unfolding ahead unlisted count ahead_by count_by
  ahead-below p k h = ahead_by-below n (listed d) order r p k h

  pub ahead-unlisted : (p k : ℕ) → k < count n d → listed d (ahead order d p k) ≡ false
  unfolding ahead unlisted count ahead_by count_by
  ahead-unlisted p k h = ahead_by-unlisted n (listed d) order r p k h

  -- two different jumps lead to two different nodes
  pub ahead-differ : (p i j : ℕ) → i < j → j < count n d → ahead order d p i ≢ ahead order d p j
  unfolding ahead unlisted count ahead_by count_by
  ahead-differ p i j g h e = ahead_by-differ n (listed d) order r p i j g h e

  -- jumps add up: k ahead of the node that is j ahead is j + k ahead, round the m unlisted nodes
  pub ahead-add : (p j k : ℕ) → j < count n d → k < count n d
      → ahead order d (place order (ahead order d p j)) k ≡ ahead order d p ((j + k) % count n d)
  unfolding ahead unlisted count ahead_by count_by
  ahead-add p j k g h = ahead_by-add n (listed d) order r p j k g h

  -- the node found going back
  back-by : (p : ℕ) → (back order d p).node ≡ back_by order (listed d) p
  unfolding back unlisted back_by
  back-by p = first-node d (reverse (round order p))

  -- it is the last ahead
  pub back-ahead : (p : ℕ) → (back order d p).node ≡ ahead order d p (count n d - 1)
  unfolding ahead unlisted count ahead_by count_by
  back-ahead p = back-by p ∙ back_by-ahead n (listed d) order r p

  pub back_below : (p : ℕ) → 0 < count n d → (back order d p).node < n
  back_below p h = rw (back-ahead p) (ahead-below p (count n d - 1) (omega arith))

  -- what the search back from the node e passes is listed
  pub back_passes : (e : ℕ) → e < n → 0 < count n d → (k : ℕ) → gap n r e k < gap n r e (back order d (place order e)).node → listed d k ≡ true
  unfolding unlisted count count_by
  back_passes e h some k g = back_by-passes n r (listed d) e h some k (rw (back-by (place order e)) at g)

  -- ---- the neighbours of an unlisted node x

  module _ (x : ℕ) (h : x < n) (u : listed d x ≡ false) where
    pub ahead-itself : ahead order d (place order x) 0 ≡ x
    unfolding ahead unlisted ahead_by
    ahead-itself = ahead_by-itself n (listed d) order r x h u

    -- an unlisted node counts itself
    pub count-some : 0 < count n d
    unfolding unlisted count count_by
    count-some = count_by-some n (listed d) order r x h u

    -- the next is one ahead, and the node itself where it is alone
    pub next-ahead : next order d (place order x) ≡ ahead order d (place order x) (1 % count n d)
    unfolding next ahead unlisted count next_by ahead_by count_by
    next-ahead = next_by-ahead n (listed d) order r x h u

    -- going back and going on are inverse among the unlisted
    pub next-back : next order d (place order (back order d (place order x)).node) ≡ x
    unfolding next unlisted next_by
    next-back = rw (back-by (place order x)) (next_by-back n (listed d) order r x h u)

    pub back-next : (back order d (place order (next order d (place order x)))).node ≡ x
    unfolding next unlisted next_by
    back-next = rw (back-by (place order (next order d (place order x)))) (back_by-next n (listed d) order r x h u)

    -- going back from another node i that is left, seen from x
    pub found_back : (i : ℕ) → i < n → i ≢ x → listed d i ≡ true → Found n r (listed d) x (gap n r x i) (back_from order d i).node
    found_back i i_n ne l = rw (from-node n d order r i i_n l, back-by (place order i)) (found_by-back n r (listed d) x i h u i_n ne)

-- ---- at opening nobody is listed

pub unlisted-all : (xs : List ℕ) → unlisted 0 xs ≡ xs
unfolding unlisted keep
unlisted-all [] = refl
unlisted-all (x ∷ xs) = rw (listed-none x) (ap (λ (l : List ℕ). x ∷ l) (unlisted-all xs))

-- so nothing is passed on the way to the node before
pub open-passes-none : (order : List ℕ) (p : ℕ) → (back order 0 p).passed ≡ 0
unfolding back
open-passes-none order p = first-none (reverse (round order p))

pub count-all : (n : ℕ) → count n 0 ≡ n
unfolding count
count-all n = rw (unlisted-all (numbers 0 n)) (length-numbers n 0)

module _ (n : ℕ) (order : List ℕ) (r : InOrder n order) (j : ℕ) (h : j < n) where
  some : 0 < count n 0
  some = count-some n 0 order r j h (listed-none j)

  pub open-back-below : (back order 0 (place order j)).node < n
  open-back-below = back_below n 0 order r (place order j) some

  pub open-next-below : next order 0 (place order j) < n
  open-next-below = rw (next-ahead n 0 order r j h (listed-none j)) (ahead-below n 0 order r (place order j) (1 % count n 0) (mod-lt 1 some))

  -- the emitter stands nearest
  pub open-back-nearest : (k : ℕ) → gap n r j (back order 0 (place order j)).node ≤ gap n r j k
  open-back-nearest k = go (dec_lt (gap n r j k) (gap n r j (back order 0 (place order j)).node))
    where
      go : Dec (gap n r j k < gap n r j (back order 0 (place order j)).node) → gap n r j (back order 0 (place order j)).node ≤ gap n r j k
      go (no g) = omega arith
      go (yes g) = absurd (true≢false (sym (back_passes n 0 order r j h some k g) ∙ listed-none k))

  -- in a ring of two or more, the neighbours are other nodes
  module _ (two : 1 < n) where
    other : (k : ℕ) → 0 < k → k < n → ahead order 0 (place order j) k ≢ j
    other k o l e =
        ahead-differ n 0 order r (place order j) 0 k o (rw count-all l) (ahead-itself n 0 order r j h (listed-none j) ∙ sym e)

    pub open-back-other : (back order 0 (place order j)).node ≢ j
    open-back-other e = other (n - 1) (omega arith) (omega arith) (sym (back-ahead n 0 order r (place order j) ∙ rw count-all) ∙ e)

    pub open-next-other : next order 0 (place order j) ≢ j
    open-next-other e = other 1 (omega arith) two (sym (next-ahead n 0 order r j h (listed-none j) ∙ rw (count-all, mod-eq_of_lt two)) ∙ e)
