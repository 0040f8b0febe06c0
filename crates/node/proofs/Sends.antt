-- What a rule sends: kinds, receivers, subjects, and that there are at most seven. Assumes nothing.
use mathlib.Core.Path.{◌≡◌, refl, sym, ap, ◌∙◌}
use mathlib.Core.Logic.{inr, ◌≢◌}
use mathlib.Core.Bool.{true, false, true≢false}
use mathlib.Core.List.Memᴰ
use mathlib.Core.List.{List, Memᴰ}
use Prim.Native.Nat.{ℕ, ◌≤◌, ◌<◌}
use native.Mathlib.Omega.{arith}
use lib.ListN.{length}
use lib.Pow.{pow_pos}
use Rattle.limits.specs.Limits.{most_nodes, most_sent}
use Rattle.ring.specs.Ring.{row_size, listed, listing, place, targets, InOrder}
use Rattle.ring.proofs.Counts.{targets-few}
use Rattle.ring.proofs.Targets.{target_below, target-other, target-unlisted}
use Rattle.node.specs.declared.Message.{Message}
use Rattle.node.specs.declared.Node.{Node}
use Rattle.node.specs.Node.{Turn, R, message, reports, left_list, on_message}
use Rattle.node.specs.Range.{Known, Carried}
use Rattle.node.proofs.Messages.{length-reports}
use Rattle.node.proofs.Moves.{Heard, renews, unheard, Left, stops, moves, Reported, known, own, leaves, relays}
use Rattle.node.proofs.Moves.{Messaged, beats, observes, tells, messaged}

-- a message that node me of n may send: to another node, and of a subject that is a node; on R, not the receiver; only an H carries a list
pub record Sendable (n me : ℕ) (v : Message) : Type 0 where
  pub kind : Known v.kind
  pub to : v.to < n
  pub apart : v.to ≢ me
  pub subject : v.subject < n
  pub about : v.kind ≡ R → v.subject ≢ v.to
  pub list : Carried n v.kind v.list

-- a message without a list
pub carries-none : (n kind : ℕ) → Carried n kind 0
carries-none n kind = record { below = pow_pos n; empty = λ q. refl }

-- ---- reports

module _ (subject : ℕ) (nodes : List ℕ) where
  pub report-of : (v : Message) → Memᴰ v (reports subject nodes) → (y : ℕ) × Memᴰ y nodes × (message R y subject ≡ v)
  unfolding reports
  report-of v m = Memᴰ.of_map (λ y. message R y subject) nodes m

  pub report-to : (y : ℕ) → Memᴰ y nodes → Memᴰ (message R y subject) (reports subject nodes)
  unfolding reports
  report-to y m = Memᴰ.map (λ y. message R y subject) m

-- the forward targets of node me, by a list d that does not have it
module _ (n : ℕ) (order : List ℕ) (io : InOrder n order) (me : ℕ) (below : me < n) (d : ℕ) (un : listed d me ≡ false) where
  pub target-apart : (y : ℕ) → Memᴰ y (targets order d (place order me)) → y ≢ me
  target-apart y m e =
      target-other n d order io (place order me) y m (io.placed me below) (ap (listed d) (io.has me below) ∙ un)
      (e ∙ sym (io.has me below))

  -- reports of a subject that the list has
  pub reports-sendable : (subject : ℕ) → subject < n → listed d subject ≡ true
      → (v : Message) → Memᴰ v (reports subject (targets order d (place order me))) → Sendable n me v
  reports-sendable subject s_n on v m =
      let r = report-of subject (targets order d (place order me)) v m in
      let open-y : listed d r.0 ≡ false = target-unlisted n d order io (place order me) r.0 r.1 in
      rw (← r.2) (record {
        kind = inr (inr refl);
        to = target_below n d order io (place order me) r.0 r.1;
        apart = target-apart r.0 r.1;
        subject = s_n;
        about = λ q e. true≢false (sym on ∙ ap (listed d) e ∙ open-y);
        list = carries-none n R;
      })

-- ---- how many

module _ (order : List ℕ) (few : length order ≤ most_nodes) where
  pub reports-few : (subject d p : ℕ) → length (reports subject (targets order d p)) ≤ row_size
  reports-few subject d p = rw (length-reports subject (targets order d p)) (targets-few order d p few)

  pub left-few : (w tick me : ℕ) (n : Node) (u : Turn) → Left order w tick me n u → length u.sends ≤ most_sent
  left-few w tick me n u (stops e) = omega arith
  left-few w tick me n u (moves e) = omega (arith, reports-few n.emitter (left_list n) (place order me))

  pub told-few : (w tick me subject : ℕ) (n : Node) (u : Turn) → Reported order w tick me subject n u → length u.sends ≤ most_sent
  told-few w tick me subject n u (known e) = omega arith
  told-few w tick me subject n u (own e) = omega arith
  told-few w tick me subject n u (leaves e f g v l) = left-few w tick me n v l
  told-few w tick me subject n u (relays e f g) = omega (arith, reports-few subject (listing n.list subject) (place order me))

  pub message-few : (w tick me kind from subject list : ℕ) (n : Node) → length (on_message order w tick me kind from subject list n).sends ≤ most_sent
  message-few w tick me kind from subject list n = go _ (messaged order w tick me kind from subject list n)
    where
      silent-few : (u : Turn) → Heard w tick me from list n u → length u.sends ≤ most_sent
      silent-few u (renews e) = omega arith
      silent-few u (unheard e) = omega arith

      go : (u : Turn) → Messaged order w tick me kind from subject list n u → length u.sends ≤ most_sent
      go u (beats e v h) = silent-few v h
      go u (observes e) = omega arith
      go u (tells e f v r) = told-few w tick me subject n v r
