-- A store and a queue that stand for a whole store: what the store has, and what stands after each change of both. Assumes nothing.
use Prim.Native.Nat.{ℕ, suc, ◌+◌, ◌-◌, ◌^◌, ◌≤◌, ◌<◌}
use mathlib.Core.Path.{◌≡◌, refl, sym, ap, ap₂, subst, ◌∙◌}
use mathlib.Core.Bool.{true}
use mathlib.Core.List.{List, [], ◌∷◌, ◌++◌}
use native.Mathlib.Omega.{arith}
use lib.ListN.{length, get_or, take, drop}
use Rattle.std.proofs.lemmas.List.{length-take-le, get_or-take}
use Rattle.node.specs.declared.Node.{Node}
use Rattle.node.specs.declared.Message.{Message}
use Rattle.node.specs.declared.Turned.{Turned}
use Rattle.node.specs.Node.{alone}
use Rattle.limits.specs.Limits.{most_sent}
use Rattle.plans.specs.Plan.{Plan, plan_test}
use Rattle.model.specs.Platform.{InFlight, State, node_of}
use Rattle.store.specs.declared.Flight.{Flight}
use Rattle.store.specs.Store.{encode, plan_in, state_in}
use Rattle.store.specs.Inside.{SmallNode, Fits, Held, with_flight, with_tick, with_node, number_taken, message_of}
use Rattle.store.proofs.Store.{plan-encode, state-encode, held-encode}
use Rattle.store.proofs.States.{tick-fits, node-fits}
use Rattle.event.specs.Event.{Turns, sending, sends_left, turn_left}
use Rattle.event.specs.Ready.{Ready}
use Rattle.event.specs.Acting.{Acting, stamped, joined}
use Rattle.event.proofs.Readiness.{ready-acting}
use Rattle.event.proofs.Turning.{Sending, sending-more, sending-starts, sending-test, sending-number, sending-next, moved-turns, turn-taken}
use Rattle.queue.specs.Order.{insert_after, Rising}
use Rattle.queue.specs.Rows.{places, key_of}
use Rattle.queue.specs.declared.Key.TheVariants.{Due}
use Rattle.queue.specs.Holds.{Holds}
use Rattle.queue.proofs.Queues.{holds-free, holds-rising, holds-push}
use borrow.Rule.Slice.PartMut.{put_mid}
use Rattle.course.specs.Apart.{Apart, Sends}
use Rattle.course.proofs.Flights.{bare-held, bare-plan, bare-state, bare-encode}

-- ---- what the store has of the whole one

module _ {b whole : List ℕ} {q : List Flight} {start end : ℕ} (s : Apart b q start end whole) where
  pub apart-held : Held b
  apart-held = rw s.is (bare-held whole s.held)

  pub apart-plan : plan_in b ≡ plan_in whole
  apart-plan = ap plan_in s.is ∙ bare-plan whole s.held

  pub apart-state : state_in b ≡ with_flight (state_in whole) []
  apart-state = ap state_in s.is ∙ bare-state whole s.held

  pub apart-done : (state_in b).done ≡ (state_in whole).done
  unfolding with_flight
  apart-done = ap (λ (z : State). z.done) apart-state

  apart_next : (state_in b).next ≡ (state_in whole).next
  unfolding with_flight
  apart_next = ap (λ (z : State). z.next) apart-state

  apart-nodes : (state_in b).nodes ≡ (state_in whole).nodes
  unfolding with_flight
  apart-nodes = ap (λ (z : State). z.nodes) apart-state

  pub apart-node : (i : ℕ) → node_of (state_in b) i ≡ node_of (state_in whole) i
  apart-node i = ap (λ (l : List Node). get_or l i (alone i 0 0)) apart-nodes

  pub apart-acting : Ready whole → Acting b
  apart-acting r =
      let a : Acting whole = ready-acting whole r in
      record {
        held = apart-held;
        plan = ap plan_test apart-plan ∙ a.plan;
        done = rw (apart-done, apart-plan) a.done;
        emitter = λ j h. rw (apart-node j, apart-plan) (a.emitter j (rw apart-plan at h));
      }

-- ---- a change that leaves the messages alone

module _
    (f : State → State)
    (over : (s : State) (ms : List InFlight) → f (with_flight s ms) ≡ with_flight (f s) ms)
    (same : (s : State) → (f s).flight ≡ s.flight)
    {b whole : List ℕ}
    {q : List Flight}
    {start end : ℕ}
    (s : Apart b q start end whole)
    (fits : Fits (plan_in whole) (f (state_in whole))) where
  abbrev changed : List ℕ
  changed = encode (plan_in whole) (f (state_in whole))

  flight-same : (state_in changed).flight ≡ (state_in whole).flight
  flight-same = ap (λ (z : State). z.flight) (state-encode (plan_in whole) (f (state_in whole)) fits) ∙ same (state_in whole)

  pub apart-both : (b' : List ℕ) → b' ≡ encode (plan_in b) (f (state_in b)) → Apart b' q start end changed
  apart-both b' e = record {
    held = held-encode (plan_in whole) (f (state_in whole)) fits;
    is =
        e
        ∙ (ap₂ (λ (p : Plan) (z : State). encode p (f z)) (apart-plan s) (apart-state s)
        ∙ (ap (encode (plan_in whole)) (over (state_in whole) []) ∙ sym (bare-encode (plan_in whole) (f (state_in whole)) fits)));
    holds = subst (Holds q start end) (sym flight-same) s.holds;
  }

-- ---- messages sent one after another

module _ (whole : List ℕ) (t x : ℕ) (u : Turned) where
  -- the whole store's state when the first i messages are sent, and the store itself
  abbrev state_at : ℕ → State
  state_at i = sending (plan_in whole) (state_in whole) t x (take i u.sent)

  abbrev store_at : ℕ → List ℕ
  store_at i = encode (plan_in whole) (state_at i)

  -- the first i messages are sent
  pub record Sent (start end i : ℕ) (b : List ℕ) (q : List Flight) : Type 0 where
    pub fits : Fits (plan_in whole) (state_at i)
    pub apart : Apart b q start (end + i) (store_at i)

  pub sent-starts : (start end : ℕ) (b : List ℕ) (q : List Flight) → Apart b q start end whole → Sent start end 0 b q
  sent-starts start end b q s =
      let h : Sending whole t x u.sent 0 whole = sending-starts whole t x u s.held in
      let z : end ≡ end + 0 = omega arith in
      record { fits = h.fits; apart = subst (Apart b q start (end + 0)) h.is (subst (λ (e : ℕ). Apart b q start e whole) z s) }

  -- all are sent
  pub sent-all : (start end i : ℕ) (b : List ℕ) (q : List Flight) → Sent start end i b q → i ≡ u.count
      → Apart b q start (end + u.count) (sends_left whole t x u)
  sent-all start end i b q s e = subst (λ (k : ℕ). Apart b q start (end + k) (store_at k)) e s.apart

  -- what is read as the turn's messages
  module _ (r : Turns whole t x u) (ms : List Message) (me : ms ≡ take u.count u.sent) where
    pub messages-count : length ms ≡ u.count
    messages-count = ap length me ∙ length-take-le u.count u.sent (omega (arith, r.few, r.full))

    pub message-is : (i : ℕ) (z : Message) → i < length ms → get_or ms i z ≡ get_or u.sent i z
    message-is i z h = ap (λ (l : List Message). get_or l i z) me ∙ get_or-take u.count u.sent i z (omega (arith, h, messages-count))

  module _ (r : Turns whole t x u) (start end i : ℕ) (b : List ℕ) (q : List Flight) (s : Sent start end i b q) where
    going : Sending whole t x u.sent i (store_at i)
    going = record { is = refl; fits = s.fits }

    pub sent-plan : plan_test (plan_in b) ≡ true
    sent-plan = ap plan_test (apart-plan s.apart) ∙ sending-test whole t x u r i (store_at i) going

    module _ (less : i < u.count) where
      pub sent-number : (state_in b).next + 1 < 256 ^ 8
      sent-number = rw (apart_next s.apart) (sending-number whole t x u r i (store_at i) going less)

      sent-room : end + most_sent ≤ places → end + i < places
      sent-room room = omega (arith, r.few)

      pub sent-free : end + most_sent ≤ places → 0 < length (take (end + i + 1 - start) (drop start q))
      sent-free room = holds-free q start (end + i) (state_in (store_at i)).flight s.apart.holds (sent-room room)

      pub sent-rising : end + most_sent ≤ places
          → Rising (key_of Due) (take (length (take (end + i + 1 - start) (drop start q)) - 1) (take (end + i + 1 - start) (drop start q)))
      sent-rising room = holds-rising q start (end + i) (state_in (store_at i)).flight s.apart.holds (sent-room room)

      -- message m, read from the turn's messages, is stamped, and put into the queue
      module _
          (z m : Message)
          (is : m ≡ get_or u.sent i z)
          (f : Flight)
          (fe : message_of f ≡ stamped (plan_in b) (state_in b).next t x m) where
        abbrev M : InFlight
        M = stamped (plan_in whole) (state_at i).next t x m

        plan-is : plan_in b ≡ plan_in whole
        plan-is = apart-plan s.apart ∙ plan-encode (plan_in whole) (state_at i) s.fits

        whole_is : state_in (store_at i) ≡ state_at i
        whole_is = state-encode (plan_in whole) (state_at i) s.fits

        state-is : state_in b ≡ with_flight (state_at i) []
        state-is = apart-state s.apart ∙ ap (λ (y : State). with_flight y []) whole_is

        stamp-is : message_of f ≡ M
        unfolding with_flight
        stamp-is = fe ∙ ap₂ (λ (p : Plan) (y : State). stamped p y.next t x m) plan-is state-is

        more : joined (plan_in whole) (state_at i) t x m ≡ state_at (i + 1)
        more =
            ap (joined (plan_in whole) (state_at i) t x) is
            ∙ sym (sending-more (plan_in whole) t x (state_in whole) u.sent i z (omega (arith, r.few, r.full)))

        more-fits : Fits (plan_in whole) (state_at (i + 1))
        more-fits = (sending-next whole t x u r i (store_at i) going less _ refl z m is _ refl _ refl).fits

        -- the number is taken in the store, and the message joins those of the whole one
        taken-bare : number_taken (with_flight (state_at i) []) ≡ with_flight (joined (plan_in whole) (state_at i) t x m) []
        unfolding number_taken with_flight joined
        taken-bare = refl

        more-flight : (state_in (store_at i)).flight ++ (M ∷ []) ≡ (state_in (store_at (i + 1))).flight
        unfolding number_taken with_flight joined
        more-flight =
            ap (λ (y : State). y.flight ++ (M ∷ [])) whole_is
            ∙ ap (λ (y : State). y.flight) (more ∙ sym (state-encode (plan_in whole) (state_at (i + 1)) more-fits))

        module _
            (room : end + most_sent ≤ places)
            (b' : List ℕ)
            (q' : List Flight)
            (e : b' ≡ encode (plan_in b) (number_taken (state_in b)))
            (pl : q' ≡ put_mid start (end + i + 1 - start) q
            (insert_after (key_of Due) f (take (length (take (end + i + 1 - start) (drop start q)) - 1) (take (end + i + 1 - start) (drop start q))))) where
          queue-more : (state_in (store_at i)).flight ++ (message_of f ∷ []) ≡ (state_in (store_at (i + 1))).flight
          queue-more = ap (λ (y : InFlight). (state_in (store_at i)).flight ++ (y ∷ [])) stamp-is ∙ more-flight

          sent-apart : Apart b' q' start (suc (end + i)) (store_at (i + 1))
          sent-apart = record {
            held = held-encode (plan_in whole) (state_at (i + 1)) more-fits;
            is =
                e
                ∙ (ap₂ (λ (p : Plan) (y : State). encode p (number_taken y)) plan-is state-is
                ∙ (ap (encode (plan_in whole)) (taken-bare ∙ ap (λ (y : State). with_flight y []) more)
                ∙ sym (bare-encode (plan_in whole) (state_at (i + 1)) more-fits)));
            holds =
                subst (Holds q' start (suc (end + i))) queue-more
                (holds-push q start (end + i) (state_in (store_at i)).flight s.apart.holds (sent-room room) f q' pl);
          }

          pub sent-turn : Sent start end (i + 1) b' q'
          sent-turn =
              let y : suc (end + i) ≡ end + (i + 1) = omega arith in
              record { fits = more-fits; apart = subst (λ (k : ℕ). Apart b' q' start k (store_at (i + 1))) y sent-apart }

-- ---- a whole turn: the tick and the node, then the messages

module _ (t x : ℕ) (a : Node) where
  abbrev moved : State → State
  moved s = with_node (with_tick s t) x a

  moved-over : (s : State) (ms : List InFlight) → moved (with_flight s ms) ≡ with_flight (moved s) ms
  unfolding with_tick with_node with_flight
  moved-over s ms = refl

  moved_same : (s : State) → (moved s).flight ≡ s.flight
  unfolding with_tick with_node
  moved_same s = refl

  moved-fits : (p : Plan) (s : State) → Fits p s → t < 256 ^ 4 → x < length s.nodes → SmallNode a → Fits p (moved s)
  unfolding with_tick
  moved-fits p s f h l k = node-fits p (with_tick s t) (tick-fits p s f t h) x a l k

module _
    (b : List ℕ)
    (q : List Flight)
    (start end t x : ℕ)
    (u : Turned)
    (whole : List ℕ)
    (s : Apart b q start end whole)
    (r : Turns whole t x u) where
  pub turn-place : x < (plan_in b).n
  turn-place = rw (apart-plan s) r.place

  module _ (d : List ℕ) (k : d ≡ encode (plan_in b) (moved t x u.node (state_in b))) where
    abbrev Moved : List ℕ
    Moved = encode (plan_in whole) (moved t x u.node (state_in whole))

    turn-fits : Fits (plan_in whole) (moved t x u.node (state_in whole))
    turn-fits =
        moved-fits t x u.node (plan_in whole) (state_in whole) s.held.fits (omega (arith, r.tick)) (rw s.held.fits.nodes r.place)
        r.node

    pub turn_moved : Apart d q start end Moved
    turn_moved = apart-both (moved t x u.node) (moved-over t x u.node) (moved_same t x u.node) s turn-fits d k

    pub turn-turns : Turns Moved t x u
    turn-turns = moved-turns whole t x u r Moved refl

    pub turn-over : (b' : List ℕ) (q' : List Flight) → Sends d q start end t x u b' q' → Apart b' q' start (end + u.count) (turn_left whole t x u)
    turn-over b' q' h =
        subst (Apart b' q' start (end + u.count)) (turn-taken whole t x u r Moved refl (sends_left Moved t x u) refl)
        (h Moved turn_moved turn-turns)
