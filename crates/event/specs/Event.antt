-- What the code answers of an event: the next one, and what became of a try. Document 01's 'The next event is the first of these, in the
-- earliest tick that has one' and 'A step does one event, answers it and writes its line, or answers done'. Assumes nothing.
use Rattle.std.specs.Prelude.{true, List, ◌++◌, ◌≡◌, ℕ, ◌+◌, ◌^◌, ◌≤◌, ◌<◌, length, get_or, take}
use Rattle.std.specs.Prelude.{Option, Some, None, Result, Ok, Err}
use Rattle.std.proofs.Math.Option.{Option as Optional, none, some}
use Rattle.node.specs.declared.Message.{Message}
use Rattle.node.specs.declared.Turned.{Turned}
use Rattle.limits.specs.Limits.{most_tick, most_in_flight, most_sent}
use Rattle.limits.specs.declared.Refusal.{Refusal}
use Rattle.limits.specs.declared.Refusal.TheVariants.{TooMany}
use Rattle.node.specs.Node.{Turn}
use Rattle.plans.specs.Plan.{Plan, plan_test}
use Rattle.model.specs.Platform.{State, Event, Entry, Outcome, crash, message, watch, heartbeat, did, ended, refused, numbered, next_event, taken, try, left}
use Rattle.model.specs.declared.Deed.{Deed}
use Rattle.model.specs.Lines.{deed_of}
use Rattle.store.specs.Store.{encode, plan_in, state_in}
use Rattle.store.specs.Inside.{Held, SmallNode}
use Rattle.event.specs.declared.Next.{Next}
use Rattle.event.specs.declared.Next.TheVariants.{Crash, Message as Delivery, Watch, Heartbeat}

-- ---- the next event

abbrev pub entry : ℕ → Event → Entry
entry t e = record { tick = t; event = e }

-- an event at tick t
unfoldable pub next_at : ℕ → Event → Next
next_at t (crash k) = Crash t k
next_at t (message i) = Delivery t i
next_at t (watch x) = Watch t x
next_at t (heartbeat x) = Heartbeat t x

-- or none
unfoldable pub next_of : Optional Entry → Option Next
next_of none = None
next_of (some e) = Some (next_at e.tick e.event)

-- ---- what became of a try: what the event did, or that none is left, or that it is turned down with number 8

unfoldable pub happened : Plan → State → Outcome → Result (Option Deed) Refusal
happened p s (did e s') = Ok (Some (deed_of p s s' e.tick e.event))
happened p s ended = Ok None
happened p s refused = Err TooMany

-- ---- the next try of a store: its event, what it leads to, what the code answers of it, and the store that it leaves

abbrev pub NextIs : List ℕ → ℕ → Event → Type 0
NextIs b t e = next_event (plan_in b) (state_in b) ≡ some (entry t e)

abbrev pub next_outcome : List ℕ → Outcome
next_outcome b = try (plan_in b) (state_in b)

abbrev pub next_answer : List ℕ → Result (Option Deed) Refusal
next_answer b = happened (plan_in b) (state_in b) (next_outcome b)

abbrev pub store_left : List ℕ → List ℕ
store_left b = encode (plan_in b) (left (state_in b) (next_outcome b))

-- ---- a turn as the code hands it over

unfoldable pub turn_of : Turned → Turn
turn_of u = record { node = u.node; sends = take u.count u.sent; passed = u.passed }

-- node x sends messages at tick t: they join those in flight, numbered from the next number on
unfoldable pub sending : Plan → State → ℕ → ℕ → List Message → State
sending p s t x ms = record {
  done = s.done;
  last = s.last;
  next = s.next + length ms;
  nodes = s.nodes;
  flight = s.flight ++ numbered p t x s.next ms;
}

-- a message whose numbers fit their fields
pub record SmallMessage (m : Message) : Type 0 where
  pub kind : m.kind < 256
  pub to : m.to < 256
  pub subject : m.subject < 256
  pub list : m.list < 256 ^ 8

-- the store after node x has sent the messages of its turn u at tick t, and after the whole turn
abbrev pub sends_left : List ℕ → ℕ → ℕ → Turned → List ℕ
sends_left b t x u = encode (plan_in b) (sending (plan_in b) (state_in b) t x (take u.count u.sent))

abbrev pub turn_left : List ℕ → ℕ → ℕ → Turned → List ℕ
turn_left b t x u = encode (plan_in b) (taken (plan_in b) (state_in b) t x (state_in b).flight (turn_of u))

-- node x of a store may take the turn u at tick t: its numbers fit their fields, and the limits hold after it
pub record Turns (b : List ℕ) (t x : ℕ) (u : Turned) : Type 0 where
  pub held : Held b
  pub plan : plan_test (plan_in b) ≡ true
  pub tick : t ≤ most_tick
  pub place : x < (plan_in b).n
  pub full : length u.sent ≡ most_sent
  pub few : u.count ≤ most_sent
  pub room : length (state_in b).flight + u.count ≤ most_in_flight
  pub number : (state_in b).next + u.count < 256 ^ 8
  pub node : SmallNode u.node
  pub sends : (z : Message) (j : ℕ) → j < u.count → SmallMessage (get_or u.sent j z)
