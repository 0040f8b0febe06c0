-- One event of the platform is the call on the record of the node whose event it is. Assumes nothing.
use mathlib.Core.Path.{◌≡◌, refl, sym, ap, ◌∙◌, subst}
use mathlib.Core.Logic.{◌≢◌}
use mathlib.Core.Bool.{Bool, true, false, cond, ◌&&◌, and-eq-true_iff}
use mathlib.Core.List.{List, Memᴰ}
use mathlib.Core.Option.{none, some}
use Prim.Native.Nat.{ℕ, suc, ◌≤◌, ◌<◌}
use native.Mathlib.Omega.{arith}
use native.Mathlib.Decide.{ℕ_discrete}
use borrow.Author.Tests.{eq-eqb, eqb-true, eqb-false}
use lib.Dec.{eqb}
use lib.ListN.{length}
use Rattle.limits.specs.Limits.{most_tick, part_size}
use Rattle.node.specs.declared.Node.{Node}
use Rattle.node.specs.Node.{Turn}
use Rattle.host.specs.declared.Record.{Record}
use Rattle.host.specs.Record.{encode, decode, sound}
use Rattle.host.specs.Call.{delivered, with_turn}
use Rattle.host.proofs.Accepted.{Accepted, deliver-accepted, timers-accepted, fired-watch, fired-heartbeat}
use Rattle.ring.specs.Ring.{numbers}
use Rattle.plans.specs.Plan.{Plan, order_of, plan_test}
use Rattle.plans.proofs.Facts.{plan-plain}
use Rattle.model.specs.Platform.{InFlight, State, Event, crash, message, watch, heartbeat, alive, next_event, node_of, message_at}
use Rattle.model.specs.Platform.{taken, without, received, apply}
use Rattle.plans.specs.Plain.{Plain}
use Rattle.model.specs.Range.{FlightRange, Sound}
use Rattle.model.proofs.NextEvent.{Chosen}
use Rattle.model.proofs.RangesKept.{at_mem, in-n, here, other}
use Rattle.model.proofs.Happened.{watch-first}
use Rattle.model.proofs.OfOthers.{OfOthers}
use Rattle.demands.specs.Nodes.{record_of, NodeCall, deliver, timers, call_to, answers, leaves, sends, found, SameEvent}

-- a call that is to a node is one call
one-call : (b : Bool) (c d : NodeCall) → cond b (some c) none ≡ some d → (b ≡ true) × (c ≡ d)
one-call true c d e = (refl, cc)
one-call false c d e = let z : ◌≡◌ {A = ℕ} 0 1 = cc in absurd (omega arith)

no_call : (b : Bool) (c : NodeCall) → cond b (some c) none ≡ none → b ≡ false
no_call true c e = let z : ◌≡◌ {A = ℕ} 0 1 = cc in absurd (omega arith)
no_call false c e = refl

-- a state in range, and the tick of an event
module _ (p : Plan) (good : plan_test p ≡ true) (s : State) (r : Sound p s) (t : ℕ) (late : s.last ≤ t)
    (end : t ≤ p.end) where
  abbrev pl : Plain p
  pl = plan-plain p good

  -- ---- whose call it is

  -- an event that is a call to x: x is live, and stays so
  pub called-live : (ev : Event) → Chosen p pl s t ev → (x : ℕ) (c : NodeCall) → call_to p s x ev ≡ some c
      → (x < p.n) × (alive p s.done x ≡ true) × ((apply p s t ev).done ≡ s.done)
  unfolding call_to Chosen apply taken
  called-live (crash k) ch x c q = let z : ◌≡◌ {A = ℕ} 0 1 = cc in absurd (omega arith)
  called-live (message i) ch x c q =
      let o = one-call _ _ c q in
      let a = (and-eq-true_iff (eqb (message_at s i).to x) _).0 o.0 in
      (rw (← eqb-true (message_at s i).to x a.0) (r.flying (message_at s i) (at_mem s.flight i ch.0)).to, a.1, refl)
  called-live (watch y) ch x c q = let e : y ≡ x = eqb-true y x (one-call _ _ c q).0 in rw (← e) (in-n p pl s r y ch.0, ch.1, refl)
  called-live (heartbeat y) ch x c q = let e : y ≡ x = eqb-true y x (one-call _ _ c q).0 in rw (← e) (in-n p pl s r y ch.0, ch.1, refl)

  pub last-now : (ev : Event) → (apply p s t ev).last ≡ t
  unfolding apply taken
  last-now (crash k) = refl
  last-now (message i) = refl
  last-now (watch x) = refl
  last-now (heartbeat x) = refl

  -- ---- an event leaves every node to which it is no call

  pub leaves-others : (ev : Event) → Chosen p pl s t ev → (x : ℕ) → call_to p s x ev ≡ none → node_of (apply p s t ev) x ≡ node_of s x
  unfolding call_to Chosen apply received
  leaves-others (crash k) ch x q = refl
  leaves-others (message i) ch x q = go (ℕ_discrete x (message_at s i).to)
    where
      to< : (message_at s i).to < p.n
      to< = (r.flying (message_at s i) (at_mem s.flight i ch.0)).to

      dead : x ≡ (message_at s i).to → alive p s.done (message_at s i).to ≡ false
      dead e = rw (← e) (ap (λ (b : Bool). b && alive p s.done x) (sym (eq-eqb (message_at s i).to x (sym e))) ∙ no_call _ _ q)

      go : Dec (x ≡ (message_at s i).to) → node_of (apply p s t (message i)) x ≡ node_of s x
      go (no ne) = other p pl s r t late end (message_at s i).to to< (without i s.flight) (received p s t (message_at s i)) x ne
      go (yes e) = rw (e, here p pl s r t late end (message_at s i).to to< (without i s.flight) (received p s t (message_at s i)), dead e)
  leaves-others (watch y) ch x q = other p pl s r t late end y (in-n p pl s r y ch.0) s.flight _ x (λ e. eqb-false y x (no_call _ _ q) (sym e))
  leaves-others (heartbeat y) ch x q = other p pl s r t late end y (in-n p pl s r y ch.0) s.flight _ x (λ e. eqb-false y x (no_call _ _ q) (sym e))

  -- ---- the turn of a node, by a call on its record

  ends : t ≤ most_tick
  ends = omega (arith, pl.end≤)

  same : (x : ℕ) → x < p.n → (last : ℕ) (ev : Event) (u : Turn) (c : NodeCall) (b part : List ℕ)
      → Accepted (record_of p x last (node_of s x)) t u part (answers c t b part) (leaves c t b part) (sends c t b part)
      → SameEvent p s (record { tick = t; event = ev }) (taken p s t x (found s ev) u) x c b part
  unfolding record_of with_turn taken
  same x x_n last ev u c b part a = record {
    accepts = a.answers;
    holds = a.leaves ∙ ap (λ (n : Node). encode (record_of p x t n)) (sym (here p pl s r t late end x x_n (found s ev) u));
    sent = u.sends;
    few = a.few;
    puts = a.puts;
    adds = refl;
  }

  module _ (order : order_of p ≡ numbers 0 p.n) (last : ℕ) (l : last ≤ t) (b : List ℕ) (ok : sound b ≡ true) (part : List ℕ)
      (long : part_size ≤ length part) where
    abbrev delivery : ℕ → NodeCall
    delivery i = deliver (message_at s i).kind (message_at s i).from (message_at s i).subject (message_at s i).list

    message-same : (i : ℕ) → Chosen p pl s t (message i) → OfOthers s → alive p s.done (message_at s i).to ≡ true
        → decode b ≡ record_of p (message_at s i).to last (node_of s (message_at s i).to)
        → SameEvent p s (record { tick = t; event = message i }) (apply p s t (message i)) (message_at s i).to (delivery i) b part
    unfolding Chosen apply received found answers leaves sends record_of delivered
    message-same i ch others a d =
        let m : InFlight = message_at s i in
        let has : Memᴰ m s.flight = at_mem s.flight i ch.0 in
        let f : FlightRange p s.last m = r.flying m has in
        let k : Record = record_of p m.to last (node_of s m.to) in
        let u : delivered k t m.kind m.from m.subject m.list ≡ received p s t m = rw (a, order) in
        let after : Turn → State = taken p s t m.to (without i s.flight) in
        subst (λ (v : Turn). SameEvent p s (record { tick = t; event = message i }) (after v) m.to (delivery i) b part)
        u (same m.to f.to last (message i) (delivered k t m.kind m.from m.subject m.list) (delivery i) b part
        (deliver-accepted b k ok d t l ends part long m.kind m.from m.subject m.list f.kind f.from f.apart
        (λ q. (f.subject, others m has q)) f.list.below))

    watch-same : (x : ℕ) → Chosen p pl s t (watch x) → decode b ≡ record_of p x last (node_of s x)
        → SameEvent p s (record { tick = t; event = watch x }) (apply p s t (watch x)) x timers b part
    unfolding Chosen apply found answers leaves sends record_of
    watch-same x ch d =
        let k : Record = record_of p x last (node_of s x) in
        subst (λ (v : Turn). SameEvent p s (record { tick = t; event = watch x }) (taken p s t x s.flight v) x timers b part)
        (fired-watch k t ch.2 ∙ rw order)
        (same x (in-n p pl s r x ch.0) last (watch x) _ timers b part (timers-accepted b k ok d t l ends part long))

    heartbeat-same : (x : ℕ) → Chosen p pl s t (heartbeat x) → next_event p s ≡ some (record { tick = t; event = heartbeat x })
        → decode b ≡ record_of p x last (node_of s x)
        → SameEvent p s (record { tick = t; event = heartbeat x }) (apply p s t (heartbeat x)) x timers b part
    unfolding Chosen apply found answers leaves sends record_of
    heartbeat-same x ch n d =
        let k : Record = record_of p x last (node_of s x) in
        let ne : (node_of s x).watch ≢ suc t = watch-first p pl s t x ch.0 ch.1 n in
        let later : ((node_of s x).watch ≡ 0 → ⊥) → suc t < (node_of s x).watch = λ z. omega (arith, ch.3.watch x ch.1 z) in
        subst (λ (v : Turn). SameEvent p s (record { tick = t; event = heartbeat x }) (taken p s t x s.flight v) x timers b part)
        (fired-heartbeat k t later ch.2)
        (same x (in-n p pl s r x ch.0) last (heartbeat x) _ timers b part (timers-accepted b k ok d t l ends part long))

    -- any event, to any node
    pub event-same : OfOthers s → (ev : Event) → Chosen p pl s t ev → next_event p s ≡ some (record { tick = t; event = ev })
        → (x : ℕ) (c : NodeCall) → call_to p s x ev ≡ some c → decode b ≡ record_of p x last (node_of s x)
        → SameEvent p s (record { tick = t; event = ev }) (apply p s t ev) x c b part
    unfolding call_to
    event-same others (crash k) ch n x c q d = let z : ◌≡◌ {A = ℕ} 0 1 = cc in absurd (omega arith)
    event-same others (message i) ch n x c q d =
        let o = one-call _ (delivery i) c q in
        let a = (and-eq-true_iff (eqb (message_at s i).to x) _).0 o.0 in
        let e : (message_at s i).to ≡ x = eqb-true (message_at s i).to x a.0 in
        rw (← o.1, ← e) (message-same i ch others (rw e a.1) (rw e d))
    event-same others (watch y) ch n x c q d =
        let o = one-call _ timers c q in
        let e : y ≡ x = eqb-true y x o.0 in
        rw (← o.1, ← e) (watch-same y ch (rw e d))
    event-same others (heartbeat y) ch n x c q d =
        let o = one-call _ timers c q in
        let e : y ≡ x = eqb-true y x o.0 in
        rw (← o.1, ← e) (heartbeat-same y ch n (rw e d))
