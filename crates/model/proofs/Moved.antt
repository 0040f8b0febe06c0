-- WHERE A LINE K FOLLOWS, in a sound state: after the line of every expired watch, and after that of every report by which a live node learns of its
-- emitter; after no other. Assumes nothing.
use mathlib.Core.Path.{◌≡◌, refl, sym, ap, ◌∙◌}
use mathlib.Core.Logic.{◌≢◌}
use mathlib.Core.Bool.{Bool, true, false, cond, not, ◌&&◌, true≢false}
use mathlib.Core.List.{List}
use Prim.Native.Nat.{ℕ, ◌<◌}
use Rattle.std.specs.Prelude.{Some, None, is_some}
use native.Mathlib.Omega.{arith}
use borrow.Author.Tests.{eq-eqb, ne_eqb}
use lib.Dec.{eqb}
use Rattle.ring.specs.Ring.{listed}
use Rattle.ring.proofs.Lists.{part-lists}
use Rattle.node.specs.declared.Node.{Node}
use Rattle.node.specs.Node.{Turn, R, silent, on_message, on_watch_due, on_heartbeat_due}
use Rattle.node.specs.Range.{Known}
use Rattle.node.proofs.Moves.{Left, left, renews, unheard, Reported, known, own, leaves, relays, Messaged, beats, observes, tells, messaged}
use Rattle.node.proofs.Moves.{other-is-report, beaten}
use Rattle.node.proofs.Ranges.{left-moves}
use Rattle.plans.specs.Plan.{Plan, order_of}
use Rattle.plans.specs.Plain.{Plain}
use Rattle.plans.proofs.Bools.{and_right}
use Rattle.model.specs.Platform.{InFlight, State, Event, crash, message, watch, heartbeat, alive, node_of, message_at, without, received, apply}
use Rattle.model.specs.Lines.{moves, crash_deed, message_deed, watch_deed, heartbeat_deed, deed_of}
use Rattle.model.specs.Range.{Sound, FlightRange}
use Rattle.model.proofs.NextEvent.{Chosen}
use Rattle.model.proofs.RangesKept.{node-taken, at_mem, in-n}

-- the event makes a node leave its emitter: its watch expires, or, live, it gets a report of the emitter, which is not the node itself
unfoldable pub leaves_emitter : Plan → State → Event → Bool
leaves_emitter p s (crash k) = false
leaves_emitter p s (message i) =
    let m : InFlight = message_at s i in
    alive p s.done m.to && (eqb m.kind R && (eqb m.subject (node_of s m.to).emitter && not (eqb m.subject m.to)))
leaves_emitter p s (watch x) = true
leaves_emitter p s (heartbeat x) = false

-- a number passed is told exactly where the emitter moves
tells-move : (b : Bool) (passed : ℕ) → is_some (cond b (Some passed) None) ≡ b
tells-move true passed = refl
tells-move false passed = refl

-- ---- two nodes with one emitter, and with two

stays : (n n' : Node) → n.emitter ≡ n'.emitter → moves n n' ≡ false
unfolding moves
stays n n' e = rw (eq-eqb n.emitter n'.emitter e)

goes : (n n' : Node) → n.emitter ≢ n'.emitter → moves n n' ≡ true
unfolding moves
goes n n' e = rw (ne_eqb n.emitter n'.emitter e)

module _ (p : Plan) (pl : Plain p) (s : State) (r : Sound p s) (t : ℕ) where
  abbrev order : List ℕ
  order = order_of p

  -- leaving moves it
  left-goes : (x : ℕ) → x < p.n → alive p s.done x ≡ true → (node_of s x).emitter ≢ x → (u : Turn) → Left order p.w t x (node_of s x) u
      → moves (node_of s x) u.node ≡ true
  left-goes x x_n a ne u l =
      goes (node_of s x) u.node
      (left-moves p.n order pl.order x x_n pl.n≤ p.h p.w s.last t (node_of s x) (r.fields x x_n) (r.live x a) ne u l)

  -- a report to a live node
  report-goes : (x subject : ℕ) → x < p.n → alive p s.done x ≡ true → (u : Turn) → Reported order p.w t x subject (node_of s x) u
      → moves (node_of s x) u.node ≡ (eqb subject (node_of s x).emitter && not (eqb subject x))
  report-goes x subject x_n a u (known e) =
      let there : listed (node_of s x).list subject ≡ true = part-lists (node_of s x).mark (node_of s x).list subject (r.fields x x_n).mark e in
      let other : subject ≢ (node_of s x).emitter = λ q. true≢false (sym there ∙ (ap (listed (node_of s x).list) q ∙ (r.fields x x_n).unlisted)) in
      stays (node_of s x) (node_of s x) refl ∙ rw (ne_eqb subject (node_of s x).emitter other)
  report-goes x subject x_n a u (own e) =
      stays (node_of s x) (node_of s x) refl ∙ sym (and_right (eqb subject (node_of s x).emitter) (ap not (eq-eqb subject x e)))
  report-goes x subject x_n a u (leaves e ne of v l) =
      left-goes x x_n a (λ q. ne (of ∙ q)) v l ∙ rw (eq-eqb subject (node_of s x).emitter of, ne_eqb subject x ne)
  report-goes x subject x_n a u (relays e ne other) = stays (node_of s x) u.node refl ∙ rw (ne_eqb subject (node_of s x).emitter other)

  -- a message to a live node
  message-goes : (m : InFlight) → FlightRange p s.last m → alive p s.done m.to ≡ true
      → moves (node_of s m.to) (on_message order p.w t m.to m.kind m.from m.subject m.list (node_of s m.to)).node
      ≡ (eqb m.kind R && (eqb m.subject (node_of s m.to).emitter && not (eqb m.subject m.to)))
  message-goes m f a = go _ m.kind f.kind (messaged order p.w t m.to m.kind m.from m.subject m.list (node_of s m.to))
    where
      go : (u : Turn) (kind : ℕ) → Known kind → Messaged order p.w t m.to kind m.from m.subject m.list (node_of s m.to) u
          → moves (node_of s m.to) u.node
          ≡ (eqb kind R && (eqb m.subject (node_of s m.to).emitter && not (eqb m.subject m.to)))
      go u kind k (beats e v (renews q)) = stays (node_of s m.to) v.node refl ∙ rw e
      go u kind k (beats e v (unheard q)) = stays (node_of s m.to) v.node refl ∙ rw e
      go u kind k (observes e) = stays (node_of s m.to) _ refl ∙ rw e
      go u kind k (tells h o v q) = report-goes m.to m.subject f.to a v q ∙ rw (other-is-report kind k h o)

  -- K FOLLOWS exactly where a node leaves its emitter
  pub moved-exactly : (ev : Event) → Chosen p pl s t ev → is_some (deed_of p s (apply p s t ev) t ev).moved ≡ leaves_emitter p s ev
  unfolding Chosen apply deed_of crash_deed message_deed watch_deed heartbeat_deed leaves_emitter received
  moved-exactly (crash k) ch = tells-move _ _ ∙ stays (node_of s k) (node_of s k) refl
  moved-exactly (message i) ch =
      rw (node-taken p t m.to s (without i s.flight) (received p s t m) (rw r.nodes f.to)) (go (alive p s.done m.to) refl)
    where
      m : InFlight
      m = message_at s i

      f : FlightRange p s.last m
      f = r.flying m (at_mem s.flight i ch.0)

      n : Node
      n = node_of s m.to

      turn : Bool → Turn
      turn b = cond b (on_message order p.w t m.to m.kind m.from m.subject m.list n) (silent n)

      go : (b : Bool) → alive p s.done m.to ≡ b
          → is_some (message_deed t m b n (turn b).node (turn b).passed).moved
          ≡ (b && (eqb m.kind R && (eqb m.subject n.emitter && not (eqb m.subject m.to))))
      go true e = tells-move _ _ ∙ message-goes m f e
      go false e = tells-move _ _ ∙ stays n n refl
  moved-exactly (watch x) ch =
      let x_n : x < p.n = in-n p pl s r x ch.0 in
      rw (node-taken p t x s s.flight (on_watch_due order p.w t x (node_of s x)) ch.0)
      (tells-move _ _ ∙ left-goes x x_n ch.1 ((r.live x ch.1).observes (λ z. omega (arith, ch.2))) _ (left order p.w t x (node_of s x)))
  moved-exactly (heartbeat x) ch =
      rw (node-taken p t x s s.flight (on_heartbeat_due p.h t (node_of s x)) ch.0)
      (tells-move _ _ ∙ stays (node_of s x) _ (ap (λ (u : Turn). u.node.emitter) (sym (beaten p.h t (node_of s x)))))
