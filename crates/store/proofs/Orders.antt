-- The ring's order that a store holds: its own bytes where there is a Q line, else number order. Assumes nothing.
use Prim.Native.Nat.{ℕ, ◌+◌, ◌-◌, ◌≤◌}
use mathlib.Core.Path.{◌≡◌, sym, ap, ◌∙◌}
use mathlib.Core.List.{List}
use native.Mathlib.Omega.{arith}
use lib.ListN.{length, take, drop}
use lib.Seq.{slice}
use Rattle.limits.specs.Limits.{most_nodes}
use Rattle.ring.specs.Ring.{numbers}
use Rattle.ring.proofs.Rows.{length-numbers, take-numbers}
use Rattle.plans.specs.Plan.{order_of}
use Rattle.plans.proofs.Orders.{order-numbered, order-given}
use Rattle.store.specs.Store.{ring_nodes, ring_size, plan_in}
use Rattle.store.specs.Columns.{number}
use Rattle.store.specs.Inside.{Sized}
use Rattle.store.proofs.Reading.{slice-take}
use Rattle.store.proofs.Store.{ring-counted, ring-part}

module _ (b : List ℕ) (sized : Sized b) {size : ℕ} (count : size ≡ length (plan_in b).ring) where
  -- without a Q line, the first N of all numbers
  module _ {n : ℕ} {all : List ℕ} (none : size ≡ 0) (every : all ≡ numbers 0 most_nodes) (nodes : n ≡ (plan_in b).n) where
    first-numbers : take n all ≡ numbers 0 n
    first-numbers = rw every (take-numbers n most_nodes 0 (omega (arith, sized.counts.nodes)))

    pub numbered-part : take n all ≡ order_of (plan_in b)
    numbered-part = first-numbers ∙ ap (numbers 0) nodes ∙ sym (order-numbered (plan_in b) (sym count ∙ none))

    pub numbered-size : n ≡ length (take n all)
    numbered-size = sym (ap length first-numbers ∙ length-numbers n 0)

  -- with one, the store's own part
  pub given-part : (size ≡ 0 → ⊥) → take (ring_nodes.at + size - ring_nodes.at) (drop ring_nodes.at b) ≡ order_of (plan_in b)
  given-part some =
      let at : ℕ = ring_nodes.at in
      let same : size ≡ number b ring_size = count ∙ ring-counted b in
      let fits : at + size ≤ length b = omega (arith, sized.size, sized.counts.ring, count) in
      sym (slice-take at (at + size) b (omega arith) fits) ∙ ap (λ (k : ℕ). slice at (at + k) b) same ∙ sym (ring-part b (rw (← same) fits))
      ∙ sym (order-given (plan_in b) (λ e. some (count ∙ e)))

-- for a store without a Q line
pub ruleset no_ring_line = (numbered-part)
