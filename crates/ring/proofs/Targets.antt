-- What holds of the forward targets, in any order. Assumes nothing.
use mathlib.Core.Path.{◌≡◌, sym, ◌∙◌}
use mathlib.Core.Bool.{false}
use mathlib.Core.List.Memᴰ
use mathlib.Core.List.{List, Memᴰ}
use mathlib.Core.Logic.{◌⊎◌, inl, inr, ◌≢◌}
use Prim.Native.Nat.{ℕ, zero, suc, ◌+◌, ◌^◌, ◌≤◌, ◌<◌}
use native.Mathlib.Nat.{zero-add, add-zero}
use native.Mathlib.Omega.{arith}
use lib.ListN.{length, get_or}
use lib.Pow.{pow_pos}
use Rattle.ring.specs.Ring.{numbers, listed, place, ahead, count, jumps, targets, InOrder}
use Rattle.ring.proofs.Counts.{jumps-below, jumps-above, targets-are}
use Rattle.ring.proofs.Neighbours.{ahead-below, ahead-unlisted, ahead-differ, ahead-itself}

-- ---- members of the numbers from i on

numbers-has : (n i j : ℕ) → j < n → Memᴰ (i + j) (numbers i n)
unfolding numbers
numbers-has zero i j h = absurd (omega arith)
numbers-has (suc n) i zero h = Memᴰ.head (add-zero i)
numbers-has (suc n) i (suc j) h =
    let e : i + suc j ≡ suc i + j = omega arith in
    Memᴰ.tail {xs = numbers (suc i) n} (rw e (numbers-has n (suc i) j (omega arith)))

has-numbers : (n i x : ℕ) → Memᴰ x (numbers i n) → x < i + n
unfolding numbers
has-numbers zero i x m = absurd (Memᴰ.not-nil m)
has-numbers (suc n) i x m = go (Memᴰ.cases_cons m) (has-numbers n (suc i) x)
  where
    go : (x ≡ i) ⊎ Memᴰ x (numbers (suc i) n) → (Memᴰ x (numbers (suc i) n) → x < suc i + n) → x < i + suc n
    go (inl e) rest = omega arith
    go (inr k) rest = omega (arith, rest k)

-- ---- the targets are the nodes a power of two ahead, for each power below m

module _ (order : List ℕ) (d p : ℕ) where
  abbrev m : ℕ
  m = count (length order) d

  abbrev jump : ℕ → ℕ
  jump j = ahead order d p (2 ^ j)

  pub ahead-target : (j : ℕ) → 2 ^ j < m → Memᴰ (ahead order d p (2 ^ j)) (targets order d p)
  ahead-target j h =
      rw (targets-are order d p) (Memᴰ.map jump (rw zero-add at (numbers-has (jumps m) 0 j (jumps-above m j h))))

  target_ahead : (y : ℕ) → Memᴰ y (targets order d p) → (j : ℕ) × (2 ^ j < m) × (y ≡ ahead order d p (2 ^ j))
  target_ahead y h =
      let t = Memᴰ.of_map jump (numbers 0 (jumps m)) (rw (targets-are order d p) at h) in
      (t.0, jumps-below m t.0 (omega (arith, has-numbers (jumps m) 0 t.0 t.1)), sym t.2)

module _ (n d : ℕ) (order : List ℕ) (r : InOrder n order) (p y : ℕ) (h : Memᴰ y (targets order d p)) where
  -- a target is a jump below m ahead
  target-jump : (k : ℕ) × (1 ≤ k) × (k < count n d) × (y ≡ ahead order d p k)
  target-jump =
      let t = target_ahead order d p y h in
      (2 ^ t.0, pow_pos t.0, rw r.size at t.1, t.2)

  pub target-unlisted : listed d y ≡ false
  target-unlisted = rw target-jump.3 (ahead-unlisted n d order r p target-jump.0 target-jump.2)

  pub target_below : y < n
  target_below = rw target-jump.3 (ahead-below n d order r p target-jump.0 target-jump.2)

  -- no unlisted node is a target of its own
  pub target-other : p < n → listed d (get_or order p 0) ≡ false → y ≢ get_or order p 0
  target-other g u e =
      ahead-differ n d order r p 0 target-jump.0 target-jump.1 target-jump.2 (rw (r.once p g) at itself ∙ sym e ∙ target-jump.3)
    where
      itself : ahead order d (place order (get_or order p 0)) 0 ≡ get_or order p 0
      itself = ahead-itself n d order r (get_or order p 0) (r.below p g) u
