-- What a turn of a node writes, and what each event leaves. Assumes nothing.
use Prim.Native.Nat.{ℕ, zero, suc, ◌+◌, ◌^◌, ◌≤◌, ◌<◌}
use mathlib.Core.Path.{◌≡◌, refl, sym, ap, ap₂, subst, ◌∙◌}
use mathlib.Core.Bool.{Bool, true, false, cond}
use mathlib.Core.List.{List, [], ◌∷◌, ◌++◌, append-nil, append_assoc}
use mathlib.Core.Option.{some}
use native.Mathlib.Nat.{add-zero}
use native.Mathlib.Numerals.{add-one}
use native.Mathlib.Omega.{arith}
use borrow.Author.Tests.{le-leb, lt-leb}
use lib.ListN.{length, get_or, take, length-append, length-take}
use Rattle.node.specs.declared.Message.{Message}
use Rattle.node.specs.declared.Turned.{Turned}
use Rattle.node.specs.Node.{Turn, silent, places, turned, on_message}
use Rattle.node.proofs.Sends.{message-few}
use Rattle.limits.specs.Limits.{most_sent, most_nodes, most_in_flight}
use Rattle.plans.specs.Plan.{Plan, plan_test, order_of}
use Rattle.model.specs.Platform.{InFlight, State, Event, Entry, alive, delay_of, next_event, numbered, node_of, taken, received, apply, fits, did, refused}
use Rattle.model.specs.Platform.{tried, try, left}
use Rattle.plans.specs.Plain.{Plain}
use Rattle.model.proofs.NextEvent.{Chosen, Best, best}
use Rattle.model.specs.declared.Deed.{Deed}
use Rattle.model.specs.Lines.{deed_of}
use Rattle.plans.proofs.Facts.{plan-plain}
use Rattle.store.specs.Store.{encode, plan_in, state_in}
use Rattle.store.specs.Inside.{Fits, Held, with_flight, with_message, number_taken, with_tick, with_node}
use Rattle.store.proofs.Store.{plan-encode, state-encode, held-encode}
use Rattle.store.proofs.States.{tick-fits, node-fits, number_fits, message-fits}
use Rattle.limits.specs.declared.Refusal.TheVariants.{TooMany}
use Rattle.std.specs.Prelude.{Some, Ok, Err}
use Rattle.event.specs.Acting.{stamped, joined}
use Rattle.event.specs.Event.{SmallMessage, Turns, entry, happened, sending, sends_left, turn_of, turn_left}
use Rattle.event.proofs.Parts.{delay-few}

-- ---- messages sent one after another

module _ (p : Plan) (t x : ℕ) where
  numbered_more : (ms : List Message) (k i : ℕ) (z : Message) → i < length ms
      → numbered p t x k (take (suc i) ms) ≡ numbered p t x k (take i ms) ++ (stamped p (k + i) t x (get_or ms i z) ∷ [])
  unfolding numbered stamped
  numbered_more [] k i z h = absurd (omega arith)
  numbered_more (m ∷ ms) k zero z h = rw add-zero
  numbered_more (m ∷ ms) k (suc i) z h =
      let e : suc k + i ≡ k + suc i = omega arith in
      ap (λ (l : List InFlight). stamped p k t x m ∷ l) (rw e at (numbered_more ms (suc k) i z (omega arith)))

  length-numbered : (ms : List Message) (k : ℕ) → length (numbered p t x k ms) ≡ length ms
  unfolding numbered
  length-numbered [] k = refl
  length-numbered (m ∷ ms) k = ap suc (length-numbered ms (suc k))

  sending-none : (s : State) (ms : List Message) → sending p s t x (take 0 ms) ≡ s
  unfolding sending numbered
  sending-none s ms = rw (append-nil, add-zero)

  pub sending-more : (s : State) (ms : List Message) (i : ℕ) (z : Message) → i < length ms
      → sending p s t x (take (i + 1) ms) ≡ joined p (sending p s t x (take i ms)) t x (get_or ms i z)
  unfolding sending joined number_taken with_flight
  sending-more s ms i z h =
      let a : length (take i ms) ≡ i = omega (arith, length-take i ms) in
      let b : length (take (suc i) ms) ≡ suc i = omega (arith, length-take (suc i) ms) in
      let e : s.next + suc i ≡ suc (s.next + i) = omega arith in
      rw (add-one i, a, b, e, numbered_more ms s.next i z h, append_assoc)

  -- a turn in three parts: the tick, the node, the messages
  turn-parts : (s : State) (u : Turned)
      → sending p (with_node (with_tick s t) x u.node) t x (take u.count u.sent) ≡ taken p s t x s.flight (turn_of u)
  unfolding sending with_node with_tick taken turn_of
  turn-parts s u = refl

  length_taken : (s : State) (rest : List InFlight) (v : Turn) → length (taken p s t x rest v).flight ≡ length rest + length v.sends
  unfolding taken
  length_taken s rest v = length-append rest (numbered p t x s.next v.sends) ∙ ap (λ (k : ℕ). length rest + k) (length-numbered v.sends s.next)

-- the code hands over the rule's turn
take_all : {A : Type 0} (xs ys : List A) → take (length xs) (xs ++ ys) ≡ xs
take_all [] ys = refl
take_all (x ∷ xs) ys = ap (λ (l : List _). x ∷ l) (take_all xs ys)

turn-back : (v : Turn) → turn_of (turned v) ≡ v
unfolding turn_of turned places
turn-back v = ap (λ (ms : List Message). record { node = v.node; sends = ms; passed = v.passed }) (take_all v.sends _)

-- ---- an event that is next

module _ (p : Plan) (s : State) (t : ℕ) (ev : Event) (next : next_event p s ≡ some (entry t ev)) where
  pub chosen_of : (pl : Plain p) → (t ≤ p.end) × Chosen p pl s t ev
  unfolding Best
  chosen_of pl = rw next at (best p pl s)

  pub try-did : length (apply p s t ev).flight ≤ most_in_flight → try p s ≡ did (entry t ev) (apply p s t ev)
  unfolding try tried fits
  try-did h = rw next (ap (λ (b : Bool). cond b (did (entry t ev) (apply p s t ev)) refused) (le-leb _ most_in_flight h))

  try-refused : most_in_flight < length (apply p s t ev).flight → try p s ≡ refused
  unfolding try tried fits
  try-refused h = rw next (ap (λ (b : Bool). cond b (did (entry t ev) (apply p s t ev)) refused) (lt-leb _ most_in_flight h))

  -- a turn of node x, of which the code has u
  module _ (x : ℕ) (rest : List InFlight) (u : Turned) (v : Turn) (is : u ≡ turned v) (by : apply p s t ev ≡ taken p s t x rest v) where
    size : length (apply p s t ev).flight ≡ length rest + u.count
    unfolding turned
    size = ap (λ (w : State). length w.flight) by ∙ length_taken p t x s rest v ∙ ap (λ (w : Turned). length rest + w.count) (sym is)

    same_turn : turn_of u ≡ v
    same_turn = ap turn_of is ∙ turn-back v

    pub turn-refused : most_in_flight < length rest + u.count → try p s ≡ refused
    turn-refused h = try-refused (rw size h)

    pub turn-did : length rest + u.count ≤ most_in_flight → try p s ≡ did (entry t ev) (taken p s t x rest (turn_of u))
    turn-did h = try-did (rw size h) ∙ ap (did (entry t ev)) (by ∙ ap (taken p s t x rest) (sym same_turn))

-- ---- answers

pub refused-answer : (p : Plan) (s : State) (b : List ℕ) → b ≡ encode p s → try p s ≡ refused
    → (Err TooMany ≡ happened p s (try p s)) × (b ≡ encode p (left s (try p s)))
unfolding happened left
refused-answer p s b e h = rw h (refl, e)

pub did-answer : (p : Plan) (s : State) (b : List ℕ) (a : Deed) (e : Entry) (s' : State) → try p s ≡ did e s' → b ≡ encode p s'
    → a ≡ deed_of p s s' e.tick e.event → (Ok (Some a) ≡ happened p s (try p s)) × (b ≡ encode p (left s (try p s)))
unfolding happened left
did-answer p s b a e s' h q k = rw h (ap (λ (d : Deed). Ok (Some d)) k, q)

-- ---- how many messages a turn sends

pub received-few : (p : Plan) → length (order_of p) ≤ most_nodes → (s : State) (t : ℕ) (m : InFlight)
    → length (received p s t m).sends ≤ most_sent
unfolding received
received-few p few s t m =
    go (alive p s.done m.to) (on_message (order_of p) p.w t m.to m.kind m.from m.subject m.list (node_of s m.to))
    (message-few (order_of p) few p.w t m.to m.kind m.from m.subject m.list (node_of s m.to))
  where
    go : (c : Bool) (u : Turn) → length u.sends ≤ most_sent → length (cond c u (silent (node_of s m.to))).sends ≤ most_sent
    go true u h = h
    go false u h = omega arith

-- ---- a message stamped and joined

joined-fit : (p : Plan) (s : State) → Fits p s → (t x : ℕ) (m : Message) → length s.flight < most_in_flight → s.next + 1 < 256 ^ 8 → x < 256
    → SmallMessage m → t + delay_of p s.next < 256 ^ 4 → Fits p (joined p s t x m)
unfolding joined stamped number_taken
joined-fit p s f t x m room next place small late =
    message-fits p (number_taken s) (number_fits p s f next) (stamped p s.next t x m) room (omega arith) small.kind place small.to
    small.subject late small.list

-- ---- sending, step by step

-- the bytes after the first i messages of ms are sent, from the store b₀
pub record Sending (b₀ : List ℕ) (t x : ℕ) (ms : List Message) (i : ℕ) (b : List ℕ) : Type 0 where
  pub is : b ≡ encode (plan_in b₀) (sending (plan_in b₀) (state_in b₀) t x (take i ms))
  pub fits : Fits (plan_in b₀) (sending (plan_in b₀) (state_in b₀) t x (take i ms))

module _ (b₀ : List ℕ) (t x : ℕ) (u : Turned) where
  abbrev At : ℕ → State
  At i = sending (plan_in b₀) (state_in b₀) t x (take i u.sent)

  pub sending-starts : Held b₀ → Sending b₀ t x u.sent 0 b₀
  sending-starts h =
      record {
        is = rw (sending-none (plan_in b₀) t x (state_in b₀) u.sent) h.canonical;
        fits = rw (sending-none (plan_in b₀) t x (state_in b₀) u.sent)
            h.fits;
      }

  module _ (r : Turns b₀ t x u) (i : ℕ) (b : List ℕ) (h : Sending b₀ t x u.sent i b) where
    pub sending-held : Held b
    sending-held = rw h.is (held-encode (plan_in b₀) (At i) h.fits)

    sending-plan : plan_in b ≡ plan_in b₀
    sending-plan = ap plan_in h.is ∙ plan-encode (plan_in b₀) (At i) h.fits

    sending-state : state_in b ≡ At i
    sending-state = ap state_in h.is ∙ state-encode (plan_in b₀) (At i) h.fits

    pub sending-test : plan_test (plan_in b) ≡ true
    sending-test = ap plan_test sending-plan ∙ r.plan

    plain : Plain (plan_in b₀)
    plain = plan-plain (plan_in b₀) r.plan

    sending-delay : (number : ℕ) → delay_of (plan_in b) number ≤ 255
    sending-delay number = delay-few b sending-held sending-test number

    module _ (less : i < u.count) where
      counted : length (take i u.sent) ≡ i
      counted = omega (arith, length-take i u.sent, r.few, r.full)

      sending-room : length (state_in b).flight < most_in_flight
      unfolding sending
      sending-room = rw (sending-state, length-append, length-numbered, counted) (omega (arith, r.room))

      pub sending-number : (state_in b).next + 1 < 256 ^ 8
      unfolding sending
      sending-number = rw (sending-state, counted) (omega (arith, r.number))

      -- the next of them is stamped
      module _ (c : List ℕ) (ce : c ≡ encode (plan_in b) (number_taken (state_in b))) where
        taken-fits : Fits (plan_in b) (number_taken (state_in b))
        taken-fits = number_fits (plan_in b) (state_in b) sending-held.fits sending-number

        pub stamp-held : Held c
        stamp-held = rw ce (held-encode (plan_in b) (number_taken (state_in b)) taken-fits)

        stamp-state : state_in c ≡ number_taken (state_in b)
        stamp-state = ap state_in ce ∙ state-encode (plan_in b) (number_taken (state_in b)) taken-fits

        pub stamp-room : length (state_in c).flight < most_in_flight
        unfolding number_taken
        stamp-room = rw stamp-state sending-room

        -- and joins those in flight
        module _ (z m : Message) (is : m ≡ get_or u.sent i z) where
          small : SmallMessage m
          small = rw is (r.sends z i less)

          same : joined (plan_in b) (state_in b) t x m ≡ At (i + 1)
          same =
              ap₂ (λ (q : Plan) (s : State). joined q s t x m) sending-plan sending-state
              ∙
              (ap (joined (plan_in b₀) (At i) t x) is ∙ sym (sending-more (plan_in b₀) t x (state_in b₀) u.sent i z (omega (arith, r.few, r.full))))

          joined-fits : Fits (plan_in b) (joined (plan_in b) (state_in b) t x m)
          joined-fits =
              joined-fit (plan_in b) (state_in b) sending-held.fits t x m sending-room sending-number (omega (arith, r.place, plain.n≤)) small
              (omega (arith, r.tick, sending-delay (state_in b).next))

          pub sending-next : (f : InFlight) → f ≡ stamped (plan_in b) (state_in b).next t x m → (b' : List ℕ)
              → b' ≡ encode (plan_in c) (with_message (state_in c) f) → Sending b₀ t x u.sent (i + 1) b'
          unfolding joined
          sending-next f fe b' e = record {
            is = e ∙ (ap₂ (λ (q : Plan) (s : State). encode q (with_message s f)) (ap plan_in ce ∙ plan-encode (plan_in b) _ taken-fits) stamp-state
                ∙ (ap (λ (g : InFlight). encode (plan_in b) (with_message (number_taken (state_in b)) g)) fe ∙ ap₂ encode sending-plan same));
            fits = subst (λ (q : Plan). Fits q (At (i + 1))) sending-plan (subst (Fits (plan_in b)) same joined-fits);
          }

-- the whole of it
pub sending-all : (b₀ : List ℕ) (t x : ℕ) (ms : List Message) (i k : ℕ) (b : List ℕ) → i ≤ k → k ≤ i → Sending b₀ t x ms i b
    → b ≡ encode (plan_in b₀) (sending (plan_in b₀) (state_in b₀) t x (take k ms))
sending-all b₀ t x ms i k b a c h =
    let e : i ≡ k = omega arith in h.is ∙ ap (λ (j : ℕ). encode (plan_in b₀) (sending (plan_in b₀) (state_in b₀) t x (take j ms))) e

-- ---- a turn's parts on a store

module _ (b : List ℕ) (t x : ℕ) (u : Turned) (r : Turns b t x u) where
  -- after the node is written
  abbrev Moved : State
  Moved = with_node (with_tick (state_in b) t) x u.node

  moved_fit : Fits (plan_in b) Moved
  unfolding with_tick
  moved_fit =
      node-fits (plan_in b) (with_tick (state_in b) t) (tick-fits (plan_in b) (state_in b) r.held.fits t (omega (arith, r.tick))) x u.node
      (rw r.held.fits.nodes r.place) r.node

  module _ (d : List ℕ) (k : d ≡ encode (plan_in b) Moved) where
    moved-plan : plan_in d ≡ plan_in b
    moved-plan = ap plan_in k ∙ plan-encode (plan_in b) Moved moved_fit

    moved-state : state_in d ≡ Moved
    moved-state = ap state_in k ∙ state-encode (plan_in b) Moved moved_fit

    pub moved-turns : Turns d t x u
    unfolding with_node with_tick
    moved-turns = record {
      held = rw k (held-encode (plan_in b) Moved moved_fit);
      plan = ap plan_test moved-plan ∙ r.plan;
      tick = r.tick;
      place = rw moved-plan r.place;
      full = r.full;
      few = r.few;
      room = rw moved-state r.room;
      number = rw moved-state r.number;
      node = r.node;
      sends = r.sends;
    }

    pub turn-taken : (f : List ℕ) → f ≡ sends_left d t x u → f ≡ turn_left b t x u
    turn-taken f q =
        q ∙ (ap₂ (λ (p : Plan) (s : State). encode p (sending p s t x (take u.count u.sent))) moved-plan moved-state
        ∙ ap (encode (plan_in b)) (turn-parts (plan_in b) t x (state_in b) u))
