-- Where a rule relays, what its code gives is what its definition says. Assumes nothing.
use mathlib.Core.Path.{◌≡◌, sym, ap, ◌∙◌}
use mathlib.Core.Bool.{Bool, false}
use mathlib.Core.List.{List, [], ◌∷◌}
use Prim.Native.Nat.{ℕ, ◌+◌, ◌*◌, ◌≤◌}
use native.Mathlib.Numerals.{add-one}
use native.Mathlib.Omega.{arith}
use borrow.Author.Tests.{eq-eqb, ne_eqb}
use lib.ListN.{length}
use Rattle.limits.specs.Limits.{most_nodes}
use Rattle.ring.specs.declared.NodeBefore.{NodeBefore}
use Rattle.ring.specs.Ring.{listed, listing, place, back}
use Rattle.node.specs.declared.Node.{Node}
use Rattle.node.specs.Node.{O, message, silent, alone, with_list, with_mark, turned, relayed}
use Rattle.node.specs.Node.{on_report, turn, left_list, left_mark, search_left, new_emitter}
use Rattle.node.specs.Node.{passed_over, moved, leaving}
use Rattle.node.proofs.Messages.{relayed-turned}

-- ---- a report of a node that is not marked here, which is neither the node itself nor its emitter: d is the list with it, k the mark

pub report-new : (order : List ℕ) (w tick me subject : ℕ) (n : Node) (b : Bool) → b ≡ listed n.mark subject → b ≡ false
    → (subject ≡ me → ⊥) → (subject ≡ n.emitter → ⊥) → (d k : ℕ) → d ≡ listing n.list subject → k ≡ listing n.mark subject
    → length order ≤ most_nodes
    → turned (on_report order w tick me subject n) ≡ relayed order me subject (turned (silent (with_mark (with_list n d) k)))
unfolding on_report
report-new order w tick me subject n b bq t ne e d k dq kq l =
    rw (sym bq ∙ t, ne_eqb subject me ne, ne_eqb subject n.emitter e, ← dq, ← kq)
    (sym (relayed-turned order me subject (with_mark (with_list n d) k) [] 0 (omega arith) l))

-- ---- leaving the emitter: d is the list with it, k the mark, p its place, b what the search finds

module _ (order : List ℕ) (w tick me : ℕ) (n : Node) (d k p : ℕ) (b : NodeBefore) (dq : d ≡ left_list n) (kq : k ≡ left_mark n)
    (pq : p ≡ place order n.emitter) (bq : b ≡ back order d (p + 1)) where
  found : search_left order n ≡ b
  found = rw (← dq, ← pq, ← add-one p) (sym bq)

  new-emitter : new_emitter order n ≡ b.node
  new-emitter = ap (λ (x : NodeBefore). x.node) found

  passed-over : passed_over order n ≡ b.passed
  passed-over = ap (λ (x : NodeBefore). x.passed) found

  pub leaving-alone : b.node ≡ me → leaving order w tick me n ≡ turn (alone me d k) [] b.passed
  unfolding leaving
  leaving-alone z = rw (new-emitter, passed-over, eq-eqb b.node me z, ← dq, ← kq)

  -- the node and its message O, as the code has them; the reports follow
  pub leaving-moves : (b.node ≡ me → ⊥) → length order ≤ most_nodes → (m : Node)
      → m ≡ record { emitter = b.node; observer = n.observer; watch = tick + 2 * w + 1; heartbeat = n.heartbeat; list = d; mark = k }
      → turned (leaving order w tick me n) ≡ relayed order me n.emitter (turned (turn m (message O b.node 0 ∷ []) b.passed))
  unfolding leaving
  leaving-moves z l m mq =
      let moves : m ≡ moved w tick b.node n = rw (add-one (tick + 2 * w), dq, kq) at mq in
      rw (new-emitter, passed-over, ne_eqb b.node me z, moves)
      (sym (relayed-turned order me n.emitter (moved w tick b.node n) (message O b.node 0 ∷ []) b.passed (omega arith) l))
