-- A node any number of unlisted nodes ahead is reached from target to target, in at most as many hops as a node has jumps. Assumes nothing.
use mathlib.Core.Path.{◌≡◌, refl, sym, ap, subst, ◌∙◌}
use mathlib.Core.Bool.{false}
use mathlib.Core.List.{List, Memᴰ}
use Prim.Native.Nat.{ℕ, zero, suc, ◌+◌, ◌-◌, ◌*◌, ◌%◌, ◌^◌, ◌≤◌, ◌<◌}
use native.Mathlib.Nat.{one-mul, pow-suc, mod-eq_of_lt}
use native.Mathlib.Omega.{arith}
use lib.Count.{ones, ones_cat, ones-le, leading_top}
use Rattle.ring.specs.Ring.{listed, place, ahead, count, jumps, targets, InOrder}
use Rattle.ring.proofs.Counts.{lt-pow, jumps-covers}
use Rattle.ring.proofs.Neighbours.{ahead-unlisted, ahead-below, ahead-itself, ahead-add}
use Rattle.ring.proofs.Targets.{ahead-target}

ones-one : (x : ℕ) → ones 1 + x ≡ suc x
unfolding ones
ones-one x = omega arith

-- the highest power in k leaves what has one set bit less than k
hop : (k : ℕ) → 1 ≤ k → (j : ℕ) × (2 ^ j ≤ k) × (ones k ≡ suc (ones (k - 2 ^ j)))
hop k h =
    let t = leading_top k k h (lt-pow k) in
    let j : ℕ = t.0 in
    let rest : ℕ = k - 2 ^ j in
    let e : k ≡ 1 * 2 ^ j + rest = omega (arith, one-mul (2 ^ j), t.2) in
    (j, t.2, ap ones e ∙ ones_cat j 1 rest (omega (arith, t.3, pow-suc 2 j)) ∙ ones-one (ones rest))

-- y is reached from x in h hops, each from a node to one of its forward targets
unfoldable pub Hops : List ℕ → ℕ → ℕ → ℕ → ℕ → Type 0
Hops order d zero x y = x ≡ y
Hops order d (suc h) x y = (z : ℕ) × Memᴰ z (targets order d (place order x)) × Hops order d h z y

module _ (n d : ℕ) (order : List ℕ) (r : InOrder n order) where
  abbrev m : ℕ
  m = count n d

  reach : (h x k : ℕ) → ones k ≡ h → x < n → listed d x ≡ false → k < m → Hops order d h x (ahead order d (place order x) k)
  unfolding Hops ones
  reach zero x zero e b u l = sym (ahead-itself n d order r x b u)
  reach zero x (suc k) e b u l = absurd (omega (arith, (hop (suc k) (omega arith)).2))
  reach (suc h) x zero e b u l = absurd (omega arith)
  reach (suc h) x (suc k) e b u l =
      let p : ℕ = place order x in
      let t = hop (suc k) (omega arith) in
      let s : ℕ = 2 ^ t.0 in
      let less : s < m = omega (arith, t.1) in
      let z : ℕ = ahead order d p s in
      let sum : s + (suc k - s) ≡ suc k = omega (arith, t.1) in
      let a : ahead order d (place order z) (suc k - s) ≡ ahead order d p (suc k) =
      ahead-add n d order r p s (suc k - s) less (omega arith) ∙ ap (ahead order d p) (ap (λ (i : ℕ). i % m) sum ∙ mod-eq_of_lt l) in
      let rest : Hops order d h z (ahead order d (place order z) (suc k - s)) =
      reach h z (suc k - s) (omega (arith, t.2)) (ahead-below n d order r p s less) (ahead-unlisted n d order r p s less) (omega arith) in
      (z, ahead-target order d p t.0 (rw r.size less), subst (Hops order d h z) a rest)

  pub reached : (x k : ℕ) → x < n → listed d x ≡ false → k < m → (h : ℕ) × (h ≤ jumps m) × Hops order d h x (ahead order d (place order x) k)
  reached x k b u l = (ones k, ones-le (jumps m) k (omega (arith, jumps-covers m)), reach (ones k) x k refl b u l)
