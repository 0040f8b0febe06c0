-- The parts of an event on a store that need not hold the messages in flight: the ring, a node's turn, a crash, and what is left of the
-- store after each. Assumes nothing.
use Prim.Native.Nat.{ℕ, ◌≤◌}
use mathlib.Core.Path.{◌≡◌, sym, ap, ap₂, ◌∙◌}
use mathlib.Core.Bool.{Bool, true, false, cond}
use mathlib.Core.List.{List}
use native.Mathlib.Omega.{arith}
use lib.ListN.{length}
use Rattle.limits.specs.Limits.{most_nodes, most_tick}
use Rattle.ring.specs.Ring.{listed}
use Rattle.node.specs.declared.Node.{Node}
use Rattle.node.specs.Node.{Turn, silent, turned, on_message}
use Rattle.plans.specs.Plan.{Plan, plan_test, order_of}
use Rattle.model.specs.Platform.{InFlight, State, crashed_list, delay_of, node_of, received}
use Rattle.plans.specs.Plain.{Plain}
use Rattle.plans.proofs.Facts.{plan-plain}
use Rattle.model.proofs.RangesKept.{delay-ok}
use Rattle.store.specs.Store.{encode, plan_in, state_in}
use Rattle.store.specs.Inside.{Fits, Held, with_tick}
use Rattle.store.proofs.Store.{plan-encode, state-encode, held-encode}
use Rattle.store.proofs.States.{tick-fits}
use Rattle.event.specs.Acting.{Acting}
use Rattle.plans.proofs.Tests.{ranges}
use Rattle.event.proofs.Readiness.{acting-plain}
use Rattle.event.proofs.Searching.{dead-of, live_of}

-- ---- the ring's order, as lent by the store

-- it has one node at least, and 64 at most
pub order-sized : (b : List ℕ) → Acting b → {order : List ℕ} → order ≡ order_of (plan_in b)
    → (1 ≤ length order) × (length order ≤ most_nodes)
order-sized b a {order} e =
    let pl : Plain (plan_in b) = acting-plain b a in
    let size : length order ≡ (plan_in b).n = ap length e ∙ pl.order.size in
    (omega (arith, size, pl.n≥), omega (arith, size, pl.n≤))

-- ---- the tick of an event, and one change after it

module _ (b : List ℕ) (h : Held b) (t : ℕ) (l : t ≤ most_tick) (c : List ℕ) (e : c ≡ encode (plan_in b) (with_tick (state_in b) t)) where
  ticked : Fits (plan_in b) (with_tick (state_in b) t)
  ticked = tick-fits (plan_in b) (state_in b) h.fits t (omega arith)

  pub ticked-held : Held c
  ticked-held = rw e (held-encode (plan_in b) (with_tick (state_in b) t) ticked)

  pub ticked-plan : plan_in c ≡ plan_in b
  ticked-plan = ap plan_in e ∙ plan-encode (plan_in b) (with_tick (state_in b) t) ticked

  pub ticked-then : (f : State → State) (b' : List ℕ) → b' ≡ encode (plan_in c) (f (state_in c))
      → b' ≡ encode (plan_in b) (f (with_tick (state_in b) t))
  ticked-then f b' q =
      q ∙ ap₂ (λ (p : Plan) (s : State). encode p (f s)) ticked-plan (ap state_in e ∙ state-encode (plan_in b) (with_tick (state_in b) t) ticked)

-- ---- a message's delay

pub delay-few : (b : List ℕ) → Held b → plan_test (plan_in b) ≡ true → (number : ℕ) → delay_of (plan_in b) number ≤ 255
delay-few b h good number =
    omega (arith, (delay-ok (plan_in b) (plan-plain (plan_in b) good) number).1, (ranges (plan_in b) good).d-high)

-- ---- a message's turn of its receiver

module _
    (b : List ℕ)
    (a : Acting b)
    (t : ℕ)
    (m : InFlight)
    (dead : ℕ)
    (l : Bool)
    (de : dead ≡ crashed_list (plan_in b) (state_in b).done)
    (le : l ≡ listed dead m.to) where
  abbrev turn_where : Bool → Turn
  turn_where c =
      cond c (on_message (order_of (plan_in b)) (plan_in b).w t m.to m.kind m.from m.subject m.list (node_of (state_in b) m.to))
      (silent (node_of (state_in b) m.to))

  listed-is : listed (crashed_list (plan_in b) (state_in b).done) m.to ≡ l
  listed-is = sym (le ∙ ap (λ (d : ℕ). listed d m.to) de)

  pub turn-dropped : l ≡ true → (n : Node) → n ≡ node_of (state_in b) m.to → turned (silent n) ≡ turned (received (plan_in b) (state_in b) t m)
  unfolding received
  turn-dropped h n ne =
      ap turned (ap silent ne ∙ sym (ap turn_where (dead-of (plan_in b) (acting-plain b a) (state_in b).done m.to (listed-is ∙ h))))

  pub turn-delivered : l ≡ false → (n : Node) → n ≡ node_of (state_in b) m.to → (order : List ℕ) → order ≡ order_of (plan_in b) → (w : ℕ)
      → w ≡ (plan_in b).w
      → turned (on_message order w t m.to m.kind m.from m.subject m.list n) ≡ turned (received (plan_in b) (state_in b) t m)
  unfolding received
  turn-delivered h n ne order oe w we =
      ap turned
      (ap₂ (λ (o : List ℕ) (v : ℕ). on_message o v t m.to m.kind m.from m.subject m.list n) oe we
      ∙ (ap (on_message (order_of (plan_in b)) (plan_in b).w t m.to m.kind m.from m.subject m.list) ne
      ∙ sym (ap turn_where (live_of (plan_in b) (acting-plain b a) (state_in b).done m.to (listed-is ∙ h)))))
