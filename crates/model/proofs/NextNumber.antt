-- The next message number and the number of events stay small, however long a run goes on: an event, and what it sends, is paid by what
-- was due at its tick, and a crash by its C line. Assumes nothing.
use mathlib.Core.Path.{◌≡◌, refl, ap}
use mathlib.Core.Bool.{Bool, true, false, cond}
use mathlib.Core.List.{List, [], ◌∷◌, ◌++◌}
use Prim.Native.Nat.{ℕ, zero, suc, ◌+◌, ◌*◌, ◌≤◌, ◌<◌}
use native.Mathlib.Omega.{arith}
use native.Mathlib.Decide.{ℕ_discrete}
use borrow.Author.Tests.{eq-eqb, ne_eqb}
use lib.Dec.{eqb}
use lib.ListN.{length, get_or, set}
use Rattle.limits.specs.Limits.{most_nodes, most_in_flight, most_next}
use Rattle.ring.specs.Ring.{listing, place, targets}
use Rattle.node.specs.declared.Node.{Node}
use Rattle.node.specs.declared.Message.{Message}
use Rattle.node.specs.Node.{Turn, alone, reports, on_message, on_watch_due, on_heartbeat_due, left_list}
use Rattle.node.proofs.Moves.{Heard, renews, unheard, Reported, known, own, leaves, relays, Messaged, beats, observes, tells, messaged, beaten}
use Rattle.node.proofs.Moves.{Left, stops, moves, left as left_by}
use Rattle.node.proofs.Sends.{reports-few}
use Rattle.plans.specs.Plan.{Plan, order_of}
use Rattle.model.specs.Platform.{InFlight, State, Event, crash, message, watch, heartbeat, alive, delay_of, start, numbered, node_of, taken, no_message}
use Rattle.model.specs.Platform.{message_at, without, received, apply, Outcome, did, ended, refused, try, left, steps, event_count, after}
use Rattle.plans.specs.Plain.{Plain}
use Rattle.model.specs.Range.{Sound}
use Rattle.model.proofs.NextEvent.{Chosen}
use Rattle.model.proofs.Calls.{stuck}
use Rattle.model.proofs.RangesKept.{delay-ok, Tried, happened, none_left, too-many, try_ok, left-range, start-range, steps-range, at_mem, in-n}

one : Bool → ℕ
one b = cond b 1 0

-- how many messages are due at t
due_at : ℕ → List InFlight → ℕ
due_at t [] = 0
due_at t (m ∷ ms) = one (eqb m.due t) + due_at t ms

-- how many timers of a node, and of all nodes, are due at t
ring_at : ℕ → Node → ℕ
ring_at t n = one (eqb n.watch (suc t)) + one (eqb n.heartbeat (suc t))

timers_at : ℕ → List Node → ℕ
timers_at t [] = 0
timers_at t (n ∷ ns) = ring_at t n + timers_at t ns

one-le : (b : Bool) → one b ≤ 1
unfolding one
one-le true = omega arith
one-le false = omega arith

due-le : (t : ℕ) (ms : List InFlight) → due_at t ms ≤ length ms
unfolding due_at
due-le t [] = omega arith
due-le t (m ∷ ms) = omega (arith, due-le t ms, one-le (eqb m.due t))

timers-le : (t : ℕ) (ns : List Node) → timers_at t ns ≤ 2 * length ns
unfolding timers_at ring_at
timers-le t [] = omega arith
timers-le t (n ∷ ns) = omega (arith, timers-le t ns, one-le (eqb n.watch (suc t)), one-le (eqb n.heartbeat (suc t)))

due-append : (t : ℕ) (xs ys : List InFlight) → due_at t (xs ++ ys) ≡ due_at t xs + due_at t ys
unfolding due_at
due-append t [] ys = omega arith
due-append t (x ∷ xs) ys = omega (arith, due-append t xs ys)

-- nothing sent at t is due at t
due-sent : (p : Plan) → Plain p → (t x k : ℕ) (us : List Message) → due_at t (numbered p t x k us) ≡ 0
unfolding due_at numbered one
due-sent p pl t x k [] = refl
due-sent p pl t x k (u ∷ us) =
    let d : (1 ≤ delay_of p k) × (delay_of p k ≤ p.d) = delay-ok p pl k in
    rw (ne_eqb (t + delay_of p k) t (λ e. omega arith), due-sent p pl t x (suc k) us)

due-without : (t i : ℕ) (ms : List InFlight) → i < length ms → (get_or ms i no_message).due ≡ t → due_at t (without i ms) + 1 ≡ due_at t ms
unfolding due_at without one
due-without t i [] h e = absurd (omega arith)
due-without t zero (m ∷ ms) h e = rw (eq-eqb m.due t e) (omega arith)
due-without t (suc i) (m ∷ ms) h e = omega (arith, due-without t i ms (omega arith) e)

timers-set : (t x : ℕ) (ns : List Node) (n z : Node) → x < length ns
    → timers_at t (set ns x n) + ring_at t (get_or ns x z) ≡ timers_at t ns + ring_at t n
unfolding timers_at
timers-set t x [] n z h = absurd (omega arith)
timers-set t zero (m ∷ ns) n z h = omega arith
timers-set t (suc x) (m ∷ ns) n z h = omega (arith, timers-set t x ns n z (omega arith))

-- ---- what a turn costs

module _ (p : Plan) (pl : Plain p) (t x : ℕ) (n : Node) where
  -- what it sends, and eight for each timer of its node that is then due at t
  abbrev cost : Turn → ℕ
  cost u = length u.sends + 8 * ring_at t u.node

  few : (k d : ℕ) → length (reports k (targets (order_of p) d (place (order_of p) x))) ≤ 6
  few k d = reports-few (order_of p) (rw pl.order.size pl.n≤) k d (place (order_of p) x)

  not-now : (a : ℕ) → 1 ≤ a → eqb (suc (t + a)) (suc t) ≡ false
  not-now a h = ne_eqb (suc (t + a)) (suc t) (λ e. omega arith)

  off-not-now : eqb 0 (suc t) ≡ false
  off-not-now = ne_eqb 0 (suc t) (λ e. omega arith)

  -- a timer that was due pays for it, and one for the event
  beat-cost : n.heartbeat ≡ suc t → cost (on_heartbeat_due p.h t n) < 8 * ring_at t n
  unfolding ring_at one
  beat-cost e = rw (beaten p.h t n, not-now p.h pl.h≥, eq-eqb n.heartbeat (suc t) e) (omega arith)

  -- a node that leaves its emitter sends seven at most, and its watch is not due now
  left-cost : (u : Turn) → Left (order_of p) p.w t x n u → cost u ≤ 8 * one (eqb n.heartbeat (suc t)) + 7
  unfolding ring_at one
  left-cost u (stops z) = rw off-not-now (omega arith)
  left-cost u (moves z) = rw (not-now (2 * p.w) (double p.w pl.w≥)) (omega (arith, few n.emitter (left_list n)))
    where
      double : (w : ℕ) → 1 ≤ w → 1 ≤ 2 * w
      double w h = omega arith

  watch-cost : n.watch ≡ suc t → cost (on_watch_due (order_of p) p.w t x n) < 8 * ring_at t n
  unfolding ring_at one
  watch-cost e = rw (eq-eqb n.watch (suc t) e) (omega (arith, left-cost _ (left_by (order_of p) p.w t x n)))

  heartbeat-cost : (from list : ℕ) (u : Turn) → Heard p.w t x from list n u → cost u ≤ 8 * ring_at t n
  unfolding ring_at one
  heartbeat-cost from list u (renews e) = rw (not-now p.w pl.w≥) (omega arith)
  heartbeat-cost from list u (unheard e) = omega arith

  report-cost : (subject : ℕ) (u : Turn) → Reported (order_of p) p.w t x subject n u → cost u ≤ 8 * ring_at t n + 7
  unfolding ring_at
  report-cost subject u (known e) = omega arith
  report-cost subject u (own e) = omega arith
  report-cost subject u (leaves e f g v l) = omega (arith, left-cost v l)
  report-cost subject u (relays e f g) = omega (arith, few subject (listing n.list subject))

  -- and so does a message, the heartbeat that an O makes due included
  message-cost : (kind from subject list : ℕ) → cost (on_message (order_of p) p.w t x kind from subject list n) < 8 * ring_at t n + 9
  unfolding ring_at
  message-cost kind from subject list = go _ (messaged (order_of p) p.w t x kind from subject list n)
    where
      go : (u : Turn) → Messaged (order_of p) p.w t x kind from subject list n u → cost u < 8 * ring_at t n + 9
      go u (beats e v h) = omega (arith, heartbeat-cost from list v h)
      go u (observes e) = omega (arith, one-le (eqb (suc t) (suc t)))
      go u (tells e f v r) = omega (arith, report-cost subject v r)

-- ---- the count

-- the next number, nine for each message and eight for each timer due at t
weight : State → ℕ → ℕ
weight s t = s.next + 9 * due_at t s.flight + 8 * timers_at t s.nodes

-- what a tick may add: nine for each of 2,048 messages and eight for each of the two timers of 64 nodes
abbrev pub per_tick : ℕ
per_tick = 9 * most_in_flight + 8 * (2 * most_nodes)

-- e events lead from s to s': all but the crashes among them are paid by the weight and the ticks that pass
record Paid (s : State) (e : ℕ) (s' : State) : Type 0 where
  pub paid : weight s' s'.last + e + s.done + per_tick * s.last ≤ weight s s.last + s'.done + per_tick * s'.last
  pub crashes : s'.done ≤ s.done + e
  pub sent : s.next ≤ s'.next

-- no event, and one more
paid-none : (s : State) → Paid s 0 s
paid-none s = record { paid = omega arith; crashes = omega arith; sent = omega arith }

paid-more : {a b c : State} {e : ℕ} → Paid a 1 b → Paid b e c → Paid a (suc e) c
paid-more x y = record {
  paid = omega (arith, x.paid, y.paid);
  crashes = omega (arith, x.crashes, y.crashes);
  sent = omega (arith, x.sent, y.sent);
}

module _ (p : Plan) (pl : Plain p) where
  module _ (s : State) (r : Sound p s) where
    -- all that may be due at one tick
    weight-le : (t : ℕ) → weight s t ≤ s.next + per_tick
    unfolding weight
    weight-le t = omega (arith, due-le t s.flight, r.few, timers-le t s.nodes, r.nodes, pl.n≤)

    -- from the last event's tick to that of the next
    weight-at : (t : ℕ) → s.last ≤ t → weight s t + per_tick * s.last ≤ weight s s.last + per_tick * t
    unfolding weight
    weight-at t h = go (ℕ_discrete t s.last)
      where
        go : Dec (t ≡ s.last) → weight s t + per_tick * s.last ≤ weight s s.last + per_tick * t
        go (yes e) = rw e (omega arith)
        go (no e) = omega (arith, weight-le t)

    module _ (t : ℕ) (later : s.last ≤ t) where
      -- a turn that c messages and the timers of its node pay
      taken-paid : (x : ℕ) (rest : List InFlight) (u : Turn) (c : ℕ) → x < p.n → due_at t rest + c ≡ due_at t s.flight
          → length u.sends + 8 * ring_at t u.node < 8 * ring_at t (node_of s x) + 9 * c → Paid s 1 (taken p s t x rest u)
      unfolding weight taken
      taken-paid x rest u c x_n e h =
          let out : List InFlight = numbered p t x s.next u.sends in
          record {
            paid = omega (
              arith,
              timers-set t x s.nodes u.node (alone x 0 0) (rw r.nodes x_n),
              due-append t rest out,
              due-sent p pl t x s.next u.sends,
              weight-at t later,
            );
            crashes = omega arith;
            sent = omega arith;
          }

      event-paid : (ev : Event) → Chosen p pl s t ev → Paid s 1 (apply p s t ev)
      unfolding Chosen apply received weight
      event-paid (crash k) ch = record { paid = omega (arith, weight-at t later); crashes = omega arith; sent = omega arith }
      event-paid (watch x) ch =
          taken-paid x s.flight (on_watch_due (order_of p) p.w t x (node_of s x)) 0 (in-n p pl s r x ch.0) (omega arith)
          (omega (arith, watch-cost p pl t x (node_of s x) ch.2))
      event-paid (heartbeat x) ch =
          taken-paid x s.flight (on_heartbeat_due p.h t (node_of s x)) 0 (in-n p pl s r x ch.0) (omega arith)
          (omega (arith, beat-cost p pl t x (node_of s x) ch.2))
      event-paid (message i) ch =
          go (alive p s.done (message_at s i).to) _ _ (message-cost p pl t _ (node_of s (message_at s i).to) _ _ _ _) (omega arith)
        where
          below : (message_at s i).to < p.n
          below = (r.flying (message_at s i) (at_mem s.flight i ch.0)).to

          go : (c : Bool) (u v : Turn) → length u.sends + 8 * ring_at t u.node < 8 * ring_at t (node_of s (message_at s i).to) + 9
              → length v.sends + 8 * ring_at t v.node < 8 * ring_at t (node_of s (message_at s i).to) + 9
              → Paid s 1 (taken p s t (message_at s i).to (without i s.flight) (cond c u v))
          go true u v a b = taken-paid _ (without i s.flight) u 1 below (due-without t i s.flight ch.0 ch.1) a
          go false u v a b = taken-paid _ (without i s.flight) v 1 below (due-without t i s.flight ch.0 ch.1) b

  steps-paid : (k : ℕ) (s : State) → Sound p s → Paid s (event_count p k s) (steps p k s)
  unfolding steps event_count left
  steps-paid zero s r = paid-none s
  steps-paid (suc k) s r = go (try p s) refl (try_ok p pl s r) (steps-paid k)
    where
      go : (o : Outcome) → try p s ≡ o → Tried p pl s o → ((s' : State) → Sound p s' → Paid s' (event_count p k s') (steps p k s'))
          → Paid s (elim o [ did e s' ↦ suc (event_count p k s') | ended ↦ zero | refused ↦ zero ]) (steps p k (left s o))
      go o q (happened e b w ch f) ih =
          paid-more (event-paid s r e.tick w e.event ch) (ih _ (left-range p pl s r o (happened e b w ch f)))
      go o q (none_left h) ih = rw (stuck p k s (ap (left s) q)) (paid-none s)
      go o q (too-many e ch h) ih = rw (stuck p k s (ap (left s) q)) (paid-none s)

  -- from any sound state, however many tries are made, the next number grows by so much at most
  pub next-bound : (a : ℕ) (s : State) → Sound p s → s.next ≤ a → (k : ℕ) → (steps p k s).next ≤ a + per_tick * (p.end + 1)
  unfolding weight
  next-bound a s r h k =
      let c = steps-paid k s r in omega (arith, c.paid, c.crashes, weight-le s r s.last, (steps-range p pl k s r).last)

  -- and so many events are done at most: one for each C line, and what the ticks up to the end pay
  pub events-bound : (s : State) → Sound p s → (k : ℕ) → event_count p k s ≤ length p.crashes + per_tick * (p.end + 1)
  unfolding weight
  events-bound s r k =
      let c = steps-paid k s r in
      let z = steps-range p pl k s r in
      omega (arith, c.paid, c.sent, weight-le s r s.last, z.last, z.done)

  start-next : (start p).next ≤ 0
  unfolding start
  start-next = omega arith

  -- from an opened file the next number stays below the cap
  pub next_small : (e : ℕ) → (after p e).next ≤ most_next
  unfolding after
  next_small e = omega (arith, next-bound 0 (start p) (start-range p pl) start-next e, pl.end≤)
