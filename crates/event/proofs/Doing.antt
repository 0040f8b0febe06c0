-- Each event, as the code does it: the turn that its node takes fits the store, and what is left is what the definitions say. Assumes
-- nothing.
use Prim.Native.Nat.{ℕ, zero, suc, ◌+◌, ◌-◌, ◌≤◌, ◌<◌}
use mathlib.Core.Path.{◌≡◌, refl, sym, ap, ap₂, subst, ◌∙◌}
use mathlib.Core.Logic.{◌≢◌}
use mathlib.Core.Bool.{Bool, true, false, cond, not}
use mathlib.Core.List.Memᴰ
use mathlib.Core.List.{List, [], ◌∷◌, ◌++◌, Memᴰ}
use mathlib.Core.Option.{Option as Optional, none, some}
use Rattle.std.specs.Prelude.{Option, Some, None, Ok, Err}
use native.Mathlib.Omega.{arith}
use borrow.Author.Tests.{eq-eqb, ne_eqb}
use lib.Dec.{eqb}
use lib.ListN.{length, get_or, length-append, length-replicate}
use Rattle.ring.specs.Ring.{listed}
use Rattle.ring.proofs.Lists.{part-le}
use Rattle.node.specs.declared.Node.{Node}
use Rattle.node.specs.declared.Message.{Message}
use Rattle.node.specs.declared.Turned.{Turned}
use Rattle.limits.specs.Limits.{most_nodes, most_tick, most_in_flight, most_sent}
use Rattle.node.specs.Node.{Turn, R, silent, places, turned, on_message, on_watch_due, on_heartbeat_due}
use Rattle.model.specs.declared.Deed.{Deed}
use Rattle.plans.specs.Plan.{Plan, plan_test, order_of}
use Rattle.model.specs.Platform.{InFlight, State, Event, Entry, crash, message, watch, heartbeat, alive, crashed_list, next_event, node_of, message_at, taken}
use Rattle.model.specs.Platform.{without, received, apply, tried, try, left, Outcome, did, ended, refused}
use Rattle.node.specs.Range.{NodeRange}
use Rattle.node.proofs.Tests.{kind_fits}
use Rattle.node.proofs.Sends.{Sendable}
use Rattle.node.proofs.Ranges.{Took}
use Rattle.model.specs.Range.{FlightRange, Sound}
use Rattle.plans.specs.Plain.{Plain}
use Rattle.logline.specs.Line.{letter_c as C, letter_x as X}
use Rattle.model.specs.Lines.{other_of, deed, moves, move_of, crash_deed, message_deed, watch_deed, heartbeat_deed, deed_of}
use Rattle.model.proofs.NextEvent.{Chosen}
use Rattle.model.proofs.SettledNode.{crashed-listed}
use Rattle.model.proofs.RangesKept.{node-taken, at_mem, received-took, watch-taken, beat-taken, not-early}
use Rattle.store.specs.declared.Flight.{Flight}
use Rattle.store.specs.Store.{encode, plan_in, state_in}
use Rattle.store.specs.Inside.{SmallNode, Fits, Held, flying, with_tick, crashed, without_message, message_of}
use Rattle.store.proofs.Store.{plan-encode, state-encode, held-encode}
use Rattle.store.proofs.Fitting.{list-fits}
use Rattle.store.proofs.States.{take-fits}
use Rattle.limits.specs.declared.Refusal.TheVariants.{TooMany}
use Rattle.event.specs.declared.Next.{Next}
use Rattle.event.specs.declared.Next.TheVariants.{Crash, Message as Delivery, Watch, Heartbeat}
use Rattle.event.specs.Event.{SmallMessage, Turns, entry, next_at, next_of, happened, NextIs, next_outcome, next_answer, store_left, turn_of, turn_left}
use Rattle.event.specs.Ready.{Ready}
use Rattle.plans.proofs.Tests.{ranges}
use Rattle.event.proofs.Readiness.{most_reached, ready-plain, ready-sound, ready-next}
use Rattle.event.proofs.Turning.{chosen_of, try-did, turn-refused, turn-did, refused-answer, did-answer, received-few}

-- ---- a turn whose numbers fit

small-node : (p : Plan) → plan_test p ≡ true → (t : ℕ) → t ≤ most_tick → (a : Node) → NodeRange p.n p.h p.w t a → SmallNode a
small-node p good t tick a r =
    let l = ranges p good in
    record {
      emitter = omega (arith, r.emitter, l.n-high);
      observer = omega (arith, r.observer, l.n-high);
      watch = omega (arith, r.watch, l.w-high);
      heartbeat = omega (arith, r.heartbeat, l.h-high);
      list = list-fits p good r.list;
      mark = omega (arith, list-fits p good r.list, part-le a.mark a.list r.mark);
    }

get_or-in : (ms ys : List Message) (z : Message) (j : ℕ) → j < length ms → Memᴰ (get_or (ms ++ ys) j z) ms
get_or-in [] ys z j h = absurd (omega arith)
get_or-in (m ∷ ms) ys z zero h = Memᴰ.head refl
get_or-in (m ∷ ms) ys z (suc j) h = Memᴰ.tail (get_or-in ms ys z j (omega arith))

length-places : (ms : List Message) → length ms ≤ most_sent → length (places ms) ≡ most_sent
unfolding places
length-places ms h = rw (length-append, length-replicate) (omega arith)

-- a turn of the rules, of which the code has u
turns-of : (b : List ℕ) (t x : ℕ) (u : Turned) (v : Turn) → u ≡ turned v → Held b → plan_test (plan_in b) ≡ true → t ≤ most_tick
    → x < (plan_in b).n → length v.sends ≤ most_sent → length (state_in b).flight + u.count ≤ most_in_flight → (state_in b).next ≤ most_reached
    → SmallNode v.node
    → ((m : Message) → Memᴰ m v.sends → SmallMessage m) → Turns b t x u
unfolding turned places
turns-of b t x u v is held plan tick place few room next node small =
    let k : u.count ≡ length v.sends = ap (λ (w : Turned). w.count) is in
    record {
      held = held;
      plan = plan;
      tick = tick;
      place = place;
      full = ap (λ (w : Turned). length w.sent) is ∙ length-places v.sends few;
      few = omega arith;
      room = room;
      number = omega (arith, next);
      node = rw is node;
      sends = λ z j h. rw is (small _ (get_or-in v.sends _ z j (omega (arith, h))));
    }

module _ (b : List ℕ) (r : Ready b) (t : ℕ) (ev : Event) (next : NextIs b t ev) where
  abbrev p : Plan
  p = plan_in b

  abbrev s : State
  s = state_in b

  abbrev pl : Plain (plan_in b)
  pl = ready-plain b r

  abbrev so : Sound (plan_in b) (state_in b)
  so = ready-sound b r

  at-end : t ≤ (plan_in b).end
  at-end = (chosen_of (plan_in b) (state_in b) t ev next pl).0

  chosen : Chosen (plan_in b) pl (state_in b) t ev
  chosen = (chosen_of (plan_in b) (state_in b) t ev next pl).1

  pub event-tick : t ≤ most_tick
  event-tick = omega (arith, at-end, pl.end≤)

  not-past : (state_in b).last ≤ t
  not-past = not-early (plan_in b) pl (state_in b) so t ev chosen

  ring-few : length (order_of (plan_in b)) ≤ most_nodes
  ring-few = rw pl.order.size pl.n≤

  -- a turn that node x may take
  abbrev Takes : ℕ → Turn → Type 0
  Takes x v = Took (plan_in b).n (plan_in b).h (plan_in b).w (state_in b).last t x (node_of (state_in b) x) v

  took-node : (x : ℕ) (v : Turn) → Takes x v → SmallNode v.node
  took-node x v k = small-node (plan_in b) r.plan t event-tick v.node (k.fields not-past)

  took-message : (x : ℕ) (v : Turn) → Takes x v → (m : Message) → Memᴰ m v.sends → SmallMessage m
  took-message x v k m h =
      let q : Sendable (plan_in b).n x m = k.sends m h in
      record {
        kind = kind_fits m.kind q.kind;
        to = omega (arith, q.to, pl.n≤);
        subject = omega (arith, q.subject, pl.n≤);
        list = list-fits (plan_in b) r.plan q.list.below;
      }

-- ---- a timer that is due, of a watch or of heartbeats

-- The event e is next, at tick t: node x takes the turn that the plan and the node give, and what e did is told of the node before and after it
-- and of the number passed.
pub record Timer (b : List ℕ) (t x : ℕ) (e : Event) (turn : Plan → Node → Turn) (tells : Node → Node → ℕ → Deed) : Type 0 where
  pub ready : Ready b
  pub next : NextIs b t e
  pub place : x < (plan_in b).n
  pub takes : Takes b ready t e next x (turn (plan_in b) (node_of (state_in b) x))
  pub applied : apply (plan_in b) (state_in b) t e ≡ taken (plan_in b) (state_in b) t x (state_in b).flight (turn (plan_in b) (node_of (state_in b) x))
  pub told : (s' : State)
      → deed_of (plan_in b) (state_in b) s' t e ≡ tells (node_of (state_in b) x) (node_of s' x) (turn (plan_in b) (node_of (state_in b) x)).passed

module _ (b : List ℕ) (r : Ready b) (t x : ℕ) where
  pub watch-timer : NextIs b t (watch x) → Timer b t x (watch x) (λ p a. on_watch_due (order_of p) p.w t x a) (watch_deed t x)
  unfolding Chosen apply deed_of
  watch-timer next =
      let ch = chosen b r t (watch x) next in
      let place : x < (plan_in b).n = rw (ready-sound b r).nodes at ch.0 in
      let pl = ready-plain b r in
      let past = not-past b r t (watch x) next in
      let end = at-end b r t (watch x) next in
      let takes = watch-taken (plan_in b) pl (state_in b) (ready-sound b r) t past end x place ch.1 ch.2 in
      record { ready = r; next = next; place = place; takes = takes; applied = refl; told = λ s'. refl }

  pub beat-timer : NextIs b t (heartbeat x) → Timer b t x (heartbeat x) (λ p a. on_heartbeat_due p.h t a) (heartbeat_deed t x)
  unfolding Chosen apply deed_of
  beat-timer next =
      let ch = chosen b r t (heartbeat x) next in
      let place : x < (plan_in b).n = rw (ready-sound b r).nodes at ch.0 in
      let pl = ready-plain b r in
      let past = not-past b r t (heartbeat x) next in
      let end = at-end b r t (heartbeat x) next in
      let takes = beat-taken (plan_in b) pl (state_in b) (ready-sound b r) t past end x place ch.1 ch.2 in
      record { ready = r; next = next; place = place; takes = takes; applied = refl; told = λ s'. refl }

module _ {b : List ℕ} {t x : ℕ} {e : Event} {turn : Plan → Node → Turn} {tells : Node → Node → ℕ → Deed} (k : Timer b t x e turn tells) where
  pub timer-tick : t ≤ most_tick
  timer-tick = event-tick b k.ready t e k.next

  pub timer-byte : x < 256
  timer-byte = omega (arith, k.place, (ready-plain b k.ready).n≤)

  -- the code has u of the turn
  module _ {u : Turned} (is : u ≡ turned (turn (plan_in b) (node_of (state_in b) x))) where
    pub timer-count : u.count ≤ most_sent
    unfolding turned
    timer-count = rw is k.takes.few

    pub timer-turns : length (state_in b).flight + u.count ≤ most_in_flight → Turns b t x u
    timer-turns h =
        turns-of b t x u _ is k.ready.held k.ready.plan timer-tick k.place k.takes.few h (ready-next b k.ready)
        (took-node b k.ready t e k.next x _ k.takes) (took-message b k.ready t e k.next x _ k.takes)

    pub timer-refused : most_in_flight < length (state_in b).flight + u.count → (Err TooMany ≡ next_answer b) × (b ≡ store_left b)
    timer-refused h =
        refused-answer (plan_in b) (state_in b) b k.ready.held.canonical
        (turn-refused (plan_in b) (state_in b) t e k.next x (state_in b).flight u _ is k.applied h)

    pub timer-did : length (state_in b).flight + u.count ≤ most_in_flight
        → next_outcome b ≡ did (entry t e) (taken (plan_in b) (state_in b) t x (state_in b).flight (turn_of u))
    timer-did = turn-did (plan_in b) (state_in b) t e k.next x (state_in b).flight u _ is k.applied

    timer-passed : u.passed ≡ (turn (plan_in b) (node_of (state_in b) x)).passed
    unfolding turned
    timer-passed = ap (λ (w : Turned). w.passed) is

    pub timer-done : {a : Deed} → a ≡ tells (node_of (state_in b) x) u.node u.passed
        → length (state_in b).flight + u.count ≤ most_in_flight → (Ok (Some a) ≡ next_answer b) × (turn_left b t x u ≡ store_left b)
    unfolding turn_of
    timer-done {a} ae h =
        let after = node-taken (plan_in b) t x (state_in b) (state_in b).flight (turn_of u) (rw (ready-sound b k.ready).nodes k.place) in
        did-answer (plan_in b) (state_in b) (turn_left b t x u) a _ _ (timer-did h) refl
        (ae ∙ (ap₂ (tells (node_of (state_in b) x)) (sym after) timer-passed ∙ sym (k.told _)))

-- ---- a crash

module _ (b : List ℕ) (r : Ready b) (t k : ℕ) (next : NextIs b t (crash k)) where
  pub crash-place : k < (plan_in b).n
  unfolding Chosen
  crash-place = let ch = chosen b r t (crash k) next in rw (← ch.2) ((ready-plain b r).node (state_in b).done ch.0)

  pub crash-done : (b' : List ℕ) (a : Deed) → a ≡ deed C t k k (node_of (state_in b) k).list None
      → b' ≡ encode (plan_in b) (crashed (with_tick (state_in b) t))
      → (Ok (Some a) ≡ next_answer b) × (b' ≡ store_left b)
  unfolding deed_of crash_deed moves apply with_tick crashed
  crash-done b' a ae q =
      let e : ℕ = (node_of (state_in b) k).emitter in
      let stays : eqb e e ≡ true = eq-eqb e e refl in
      did-answer (plan_in b) (state_in b) b' a _ _ (try-did (plan_in b) (state_in b) t (crash k) next (ready-sound b r).few) q
      (ae ∙ ap (λ (c : Bool). deed C t k k (node_of (state_in b) k).list (cond (not c) (Some 0) None)) (sym stays))

-- ---- a message

-- one message less is in flight
pub length-less : (i : ℕ) (ms : List InFlight) → i < length ms → suc (length (without i ms)) ≡ length ms
unfolding without
length-less i [] h = absurd (omega arith)
length-less zero (m ∷ ms) h = refl
length-less (suc i) (m ∷ ms) h = ap suc (length-less i ms (omega arith))

module _ (b : List ℕ) (r : Ready b) (t i : ℕ) (next : NextIs b t (message i)) where
  pub message-here : i < length (state_in b).flight
  unfolding Chosen
  message-here = (chosen b r t (message i) next).0

  abbrev M : InFlight
  M = message_at (state_in b) i

  flight-range : FlightRange (plan_in b) (state_in b).last M
  flight-range = (ready-sound b r).flying M (at_mem (state_in b).flight i message-here)

  module _ (f : Flight) (fe : f ≡ flying M) where
    same-to : f.to ≡ M.to
    same-to = ap (λ (g : Flight). g.to) fe

    -- the code's turn of it is that of the message
    pub turn-of : turned (received (plan_in b) (state_in b) t (message_of f)) ≡ turned (received (plan_in b) (state_in b) t M)
    turn-of = ap (λ (g : Flight). turned (received (plan_in b) (state_in b) t (message_of g))) fe

    pub message-place : f.to < (plan_in b).n
    message-place = rw same-to flight-range.to

    pub message-sender : f.from < most_nodes
    message-sender = omega (arith, ap (λ (g : Flight). g.from) fe, flight-range.from, (ready-plain b r).n≤)

    pub message-subject : f.subject < most_nodes
    message-subject = omega (arith, ap (λ (g : Flight). g.subject) fe, flight-range.subject, (ready-plain b r).n≤)

    -- the test of the crashed list
    module _ (dead : ℕ) (l : Bool) (de : dead ≡ crashed_list (plan_in b) (state_in b).done) (le : l ≡ listed dead f.to) where
      listed-is : listed (crashed_list (plan_in b) (state_in b).done) M.to ≡ l
      listed-is = sym (le ∙ ap₂ listed de same-to)

      not-dropped : not l ≡ alive (plan_in b) (state_in b).done M.to
      not-dropped =
          go l (alive (plan_in b) (state_in b).done M.to) (sym listed-is ∙ crashed-listed (plan_in b) (ready-plain b r) (state_in b).done M.to)
        where
          go : (x y : Bool) → x ≡ not y → not x ≡ y
          go x true e = rw e
          go x false e = rw e

    -- the turn
    received-small : SmallNode (received (plan_in b) (state_in b) t M).node
        × ((m : Message) → Memᴰ m (received (plan_in b) (state_in b) t M).sends → SmallMessage m)
    unfolding received Chosen
    received-small = go (alive (plan_in b) (state_in b).done M.to) refl
      where
        q : Plain (plan_in b)
        q = ready-plain b r

        turn : Bool → Turn
        turn c =
            cond c (on_message (order_of (plan_in b)) (plan_in b).w t M.to M.kind M.from M.subject M.list (node_of (state_in b) M.to))
            (silent (node_of (state_in b) M.to))

        go : (c : Bool) → alive (plan_in b) (state_in b).done M.to ≡ c
            → SmallNode (turn c).node × ((m : Message) → Memᴰ m (turn c).sends → SmallMessage m)
        go true e =
            let f = flight-range in
            let k =
            received-took (plan_in b) q (state_in b) (ready-sound b r) t (not-past b r t (message i) next) (at-end b r t (message i) next) M.to f.to e
            M.kind M.from M.subject M.list f.kind f.from f.apart f.subject f.list.below in
            (took-node b r t (message i) next M.to _ k, took-message b r t (message i) next M.to _ k)
        go false e = (
          small-node (plan_in b) r.plan (state_in b).last (omega (arith, not-past b r t (message i) next, event-tick b r t (message i) next))
              (node_of (state_in b) M.to) ((ready-sound b r).fields M.to flight-range.to),
          λ m h. absurd (Memᴰ.not-nil h),
        )

    module _ (u : Turned) (is : u ≡ turned (received (plan_in b) (state_in b) t M)) where
      few : length (received (plan_in b) (state_in b) t M).sends ≤ most_sent
      few = received-few (plan_in b) (ring-few b r t (message i) next) (state_in b) t M

      pub message-count : u.count ≤ most_sent
      unfolding turned
      message-count = rw is few

      message-by : apply (plan_in b) (state_in b) t (message i) ≡ taken (plan_in b) (state_in b) t M.to (without i (state_in b).flight)
          (received (plan_in b) (state_in b) t M)
      unfolding apply
      message-by = refl

      pub message-refused : most_in_flight < length (state_in b).flight - 1 + u.count
          → (Err TooMany ≡ next_answer b) × (b ≡ store_left b)
      message-refused h =
          refused-answer (plan_in b) (state_in b) b r.held.canonical
          (turn-refused (plan_in b) (state_in b) t (message i) next M.to (without i (state_in b).flight) u _ is message-by
          (omega (arith, h, length-less i (state_in b).flight message-here)))

      module _ (room : length (state_in b).flight - 1 + u.count ≤ most_in_flight) (c : List ℕ)
          (e : c ≡ encode (plan_in b) (without_message (state_in b) i)) where
        rest-fits : Fits (plan_in b) (without_message (state_in b) i)
        rest-fits = take-fits (plan_in b) (state_in b) r.held.fits i message-here

        rest-plan : plan_in c ≡ plan_in b
        rest-plan = ap plan_in e ∙ plan-encode (plan_in b) (without_message (state_in b) i) rest-fits

        rest-state : state_in c ≡ without_message (state_in b) i
        rest-state = ap state_in e ∙ state-encode (plan_in b) (without_message (state_in b) i) rest-fits

        pub rest-room : length (without i (state_in b).flight) + u.count ≤ most_in_flight
        rest-room = omega (arith, room, length-less i (state_in b).flight message-here)

        pub message-turns : Turns c t f.to u
        unfolding without_message
        message-turns =
            turns-of c t f.to u _ is (rw e (held-encode (plan_in b) (without_message (state_in b) i) rest-fits)) (ap plan_test rest-plan ∙ r.plan)
            (event-tick b r t (message i) next) (rw rest-plan message-place) few (rw rest-state rest-room) (rw rest-state (ready-next b r)) received-small.0
            received-small.1

      message-passed : u.passed ≡ (received (plan_in b) (state_in b) t M).passed
      unfolding turned
      message-passed = ap (λ (w : Turned). w.passed) is

      -- what it did; its receiver is dead where the list of crashed nodes has it
      pub message-done : (dead : ℕ) (l : Bool) → dead ≡ crashed_list (plan_in b) (state_in b).done → l ≡ listed dead f.to
          → (a : Deed) → a ≡ message_deed t (message_of f) (not l) (node_of (state_in b) f.to) u.node u.passed
          → length (without i (state_in b).flight) + u.count ≤ most_in_flight
          → (Ok (Some a) ≡ next_answer b)
          × (encode (plan_in b) (taken (plan_in b) (state_in b) t M.to (without i (state_in b).flight) (turn_of u)) ≡ store_left b)
      unfolding deed_of turn_of
      message-done dead l de le a ae room =
          let after = node-taken (plan_in b) t M.to (state_in b) (without i (state_in b).flight) (turn_of u) (rw (ready-sound b r).nodes flight-range.to) in
          did-answer (plan_in b) (state_in b) _ a _ _
          (turn-did (plan_in b) (state_in b) t (message i) next M.to (without i (state_in b).flight) u _ is message-by room) refl
          (ae
          ∙ (ap₂ (λ (g : InFlight) (y : Bool). message_deed t g y (node_of (state_in b) g.to) u.node u.passed) (ap message_of fe)
          (not-dropped dead l de le)
          ∙ ap₂ (message_deed t M (alive (plan_in b) (state_in b).done M.to) (node_of (state_in b) M.to)) (sym after) message-passed))

      -- the store after it, where the message was taken out before
      module _ (room : length (state_in b).flight - 1 + u.count ≤ most_in_flight) (c : List ℕ)
          (e : c ≡ encode (plan_in b) (without_message (state_in b) i)) where
        pub taken-left : (b' : List ℕ) → b' ≡ turn_left c t f.to u
            → b' ≡ encode (plan_in b) (taken (plan_in b) (state_in b) t M.to (without i (state_in b).flight) (turn_of u))
        unfolding taken without_message
        taken-left b' q =
            q ∙ (ap₂ (λ (p : Plan) (s : State). encode p (taken p s t f.to s.flight (turn_of u))) (rest-plan room c e) (rest-state room c e)
            ∙ ap (λ (k : ℕ). encode (plan_in b) (taken (plan_in b) (state_in b) t k (without i (state_in b).flight) (turn_of u))) same-to)

-- ---- what a message did to its receiver, which was n, as the code tells it: it read n as a

module _ (t : ℕ) (m : Flight) (dropped : Bool) (a a' n : Node) (k : ℕ) (same : a ≡ n) (d : Deed) where
  abbrev Of : ℕ → ℕ → Type 0
  Of letter other = d ≡ deed letter t m.to other a'.list (move_of a a' k)

  abbrev Told : Type 0
  Told = d ≡ message_deed t (message_of m) (not dropped) n a' k

  pub deed-dropped : dropped ≡ true → Of X m.from → Told
  unfolding message_deed
  deed-dropped e q = rw (e, ← same) q

  pub deed-report : dropped ≡ false → m.kind ≡ R → Of R m.subject → Told
  unfolding message_deed other_of
  deed-report e h q = rw (e, h, ← same) q

  pub deed-other : dropped ≡ false → m.kind ≢ R → Of m.kind m.from → Told
  unfolding message_deed other_of
  deed-other e h q = rw (e, ne_eqb m.kind R h, ← same) q

-- ---- the event that the search answers

unfoldable Is : Optional Entry → Option Next → Type 0
Is o (Some (Crash t k)) = o ≡ some (entry t (crash k))
Is o (Some (Delivery t i)) = o ≡ some (entry t (message i))
Is o (Some (Watch t x)) = o ≡ some (entry t (watch x))
Is o (Some (Heartbeat t x)) = o ≡ some (entry t (heartbeat x))
Is o None = o ≡ none

is-next : (o : Optional Entry) → Is o (next_of o)
unfolding Is next_of next_at
is-next none = refl
is-next (some e) = go e.tick e.event
  where
    go : (t : ℕ) (ev : Event) → Is (some (entry t ev)) (Some (next_at t ev))
    go t (crash k) = refl
    go t (message i) = refl
    go t (watch x) = refl
    go t (heartbeat x) = refl

module _ (o : Optional Entry) where
  told : {n : Option Next} (m : Option Next) → n ≡ m → n ≡ next_of o → Is o m
  told m q e = subst (Is o) (sym e ∙ q) (is-next o)

  pub next-crash : {n : Next} (t k : ℕ) → n ≡ Crash t k → Some n ≡ next_of o → o ≡ some (entry t (crash k))
  unfolding Is
  next-crash t k q e = told (Some (Crash t k)) (ap Some q) e

  pub next-message : {n : Next} (t i : ℕ) → n ≡ Delivery t i → Some n ≡ next_of o → o ≡ some (entry t (message i))
  unfolding Is
  next-message t i q e = told (Some (Delivery t i)) (ap Some q) e

  pub next-watch : {n : Next} (t x : ℕ) → n ≡ Watch t x → Some n ≡ next_of o → o ≡ some (entry t (watch x))
  unfolding Is
  next-watch t x q e = told (Some (Watch t x)) (ap Some q) e

  pub next-heartbeat : {n : Next} (t x : ℕ) → n ≡ Heartbeat t x → Some n ≡ next_of o → o ≡ some (entry t (heartbeat x))
  unfolding Is
  next-heartbeat t x q e = told (Some (Heartbeat t x)) (ap Some q) e

  pub next-none : None ≡ next_of o → o ≡ none
  unfolding Is
  next-none e = told None refl e

-- none is left
pub ended-answer : (p : Plan) (s : State) (b : List ℕ) → b ≡ encode p s → next_event p s ≡ none
    → (Ok None ≡ happened p s (try p s)) × (b ≡ encode p (left s (try p s)))
unfolding happened left try tried
ended-answer p s b e h = rw h (refl, e)

pub ended-stays : (b : List ℕ) → Held b → Ok None ≡ next_answer b → store_left b ≡ b
unfolding happened left
ended-stays b h e = go (next_outcome b) e
  where
    go : (o : Outcome) → Ok None ≡ happened (plan_in b) (state_in b) o → encode (plan_in b) (left (state_in b) o) ≡ b
    go (did d s') q = absurd (let z : ◌≡◌ {A = ℕ} 0 1 = cc q in omega arith)
    go ended q = sym h.canonical
    go refused q = absurd (let z : ◌≡◌ {A = ℕ} 0 1 = cc q in omega arith)
