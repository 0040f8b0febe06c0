-- The ring's order: that of a Q line, which has each node once, or number order. Assumes nothing.
use mathlib.Core.Path.{◌≡◌, refl}
use mathlib.Core.Logic.{◌≢◌}
use mathlib.Core.Bool.{true, ◌&&◌, and-eq-true_iff}
use mathlib.Core.List.{List, [], ◌∷◌}
use Prim.Native.Nat.{ℕ, ◌≤◌, ◌<◌}
use native.Mathlib.Omega.{arith}
use native.Mathlib.Decide.{ℕ_discrete}
use borrow.Author.Tests.{eq-eqb, ne_eqb, eqb-true, ltb-true}
use lib.Dec.{eqb, ltb}
use lib.ListN.{length, get_or}
use Rattle.ring.specs.Ring.{numbers, each_once, InOrder}
use Rattle.ring.proofs.Orders.{numbers-in}
use Rattle.ring.proofs.Once.{once-in-order}
use Rattle.plans.specs.Plan.{Plan, ring_order, order_of, ring_count, ring_range, ring_test}
use Rattle.plans.proofs.Rows.{every-at}

-- ---- which order it is

order-none : (ks : List ℕ) (n : ℕ) → length ks ≡ 0 → ring_order ks n ≡ numbers 0 n
unfolding ring_order
order-none [] n e = refl
order-none (k ∷ ks) n e = absurd (omega arith)

order-some : (ks : List ℕ) (n : ℕ) → length ks ≢ 0 → ring_order ks n ≡ ks
unfolding ring_order
order-some [] n e = absurd (e refl)
order-some (k ∷ ks) n e = refl

-- without a Q line, and with one
pub order-numbered : (p : Plan) → length p.ring ≡ 0 → order_of p ≡ numbers 0 p.n
unfolding order_of
order-numbered p e = order-none p.ring p.n e

pub order-given : (p : Plan) → length p.ring ≢ 0 → order_of p ≡ p.ring
unfolding order_of
order-given p e = order-some p.ring p.n e

-- ---- a Q line that passes

-- as many numbers as nodes, nodes each, and none twice
pub record RingFacts (p : Plan) : Type 0 where
  pub size : length p.ring ≡ p.n
  pub range : ring_range p p.ring ≡ true
  pub once : each_once p.ring ≡ true

pub ring-facts : (p : Plan) → ring_test p ≡ true → length p.ring ≢ 0 → RingFacts p
unfolding ring_test ring_count
ring-facts p t some =
    let all : (eqb (length p.ring) p.n && (ring_range p p.ring && each_once p.ring)) ≡ true = rw (ne_eqb (length p.ring) 0 some) at t in
    let split = (and-eq-true_iff (eqb (length p.ring) p.n) (ring_range p p.ring && each_once p.ring)).0 all in
    let rest = (and-eq-true_iff (ring_range p p.ring) (each_once p.ring)).0 split.1 in
    record { size = eqb-true (length p.ring) p.n split.0; range = rest.0; once = rest.1 }

-- and the test from these, or without a line
pub ring-taken : (p : Plan) → RingFacts p → ring_test p ≡ true
unfolding ring_test ring_count
ring-taken p f = go (ℕ_discrete (length p.ring) 0)
  where
    go : Dec (length p.ring ≡ 0) → ring_test p ≡ true
    go (yes e) = rw (eq-eqb (length p.ring) 0 e)
    go (no e) = rw (ne_eqb (length p.ring) 0 e, eq-eqb (length p.ring) p.n f.size, f.range) f.once

pub no-ring-taken : (p : Plan) → length p.ring ≡ 0 → ring_test p ≡ true
unfolding ring_test
no-ring-taken p e = rw (eq-eqb (length p.ring) 0 e)

-- its numbers are nodes
pub ring-node : (p : Plan) (ks : List ℕ) → ring_range p ks ≡ true → (q : ℕ) → q < length ks → get_or ks q 0 < p.n
unfolding ring_range
ring-node p ks r q h = ltb-true _ _ (every-at (λ k. ltb k p.n) ks q 0 r h)

module _ (p : Plan) (t : ring_test p ≡ true) where
  -- at most as many numbers as nodes
  pub ring-few : length p.ring ≤ p.n
  ring-few = go (ℕ_discrete (length p.ring) 0)
    where
      go : Dec (length p.ring ≡ 0) → length p.ring ≤ p.n
      go (yes e) = omega arith
      go (no e) = omega (arith, (ring-facts p t e).size)

  -- each is below N
  pub ring-below : (q : ℕ) → q < length p.ring → get_or p.ring q 0 < p.n
  ring-below q h = ring-node p p.ring (ring-facts p t (λ e. absurd (omega arith))).range q h

  -- the order has each node once
  pub order-once : InOrder p.n (order_of p)
  order-once = go (ℕ_discrete (length p.ring) 0)
    where
      go : Dec (length p.ring ≡ 0) → InOrder p.n (order_of p)
      go (yes e) = rw (order-numbered p e) (numbers-in p.n)
      go (no e) =
          let f = ring-facts p t e in
          rw (order-given p e) (once-in-order p.n p.ring f.size (ring-node p p.ring f.range) f.once)
