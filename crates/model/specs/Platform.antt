-- The platform, as document 01's section of that name states it: the state, opening, what is pending, the next event, what an
-- event does, the first events of a file, and the events of a list of calls. The nodes do what crate `node` defines. Assumes nothing.
use Rattle.std.specs.Prelude.{Bool, cond, not, List, [], ◌∷◌, ◌++◌, map, reverse, ℕ}
use Rattle.std.specs.Prelude.{zero, suc, ◌+◌, eqb, leb, ltb, length, get_or, take, drop, set}
use Rattle.std.proofs.Math.Option.{Option, none, some}
use Rattle.ring.specs.Ring.{keep, numbers, round, place, none as nobody}
use Rattle.node.specs.declared.Node.{Node}
use Rattle.node.specs.declared.Message.{Message}
use Rattle.node.specs.Node.{Turn, silent, alone, opening, on_message, on_watch_due, on_heartbeat_due}
use Rattle.plans.specs.Plan.{Crash, Delay, Plan, hits, with_crashed, order_of}
use Rattle.limits.specs.Limits.{most_in_flight, log_room}

-- ---- the state

-- a message in flight: its number, its kind (the letter), sender, receiver, subject (on R), the tick at which it is due and the list that it
-- carries (on H)
pub record InFlight : Type 0 where
  pub number : ℕ
  pub kind : ℕ
  pub from : ℕ
  pub to : ℕ
  pub subject : ℕ
  pub due : ℕ
  pub list : ℕ

-- how many C lines are done, the last event's tick (0 at opening), the next message number, the nodes by number, the messages in
-- flight by message number
pub record State : Type 0 where
  pub done : ℕ
  pub last : ℕ
  pub next : ℕ
  pub nodes : List Node
  pub flight : List InFlight

-- node x; a number that no node has stands for one that is alone
abbrev pub node_of : State → ℕ → Node
node_of s x = get_or s.nodes x (alone x 0 0)

abbrev pub no_message : InFlight
no_message = record { number = 0; kind = 0; from = 0; to = 0; subject = 0; due = 0; list = 0 }

-- the message in flight at a place
abbrev pub message_at : State → ℕ → InFlight
message_at s i = get_or s.flight i no_message

-- ---- who is live, where the first `done` C lines are done

-- a node is live, a survivor, unless one of these lines is its own
unfoldable pub alive : Plan → ℕ → ℕ → Bool
alive p done k = not (hits (take done p.crashes) k)

-- how many survive
unfoldable pub survivors : Plan → ℕ → ℕ
survivors p done = length (keep (alive p done) (numbers 0 p.n))

-- the next survivor is the first one ahead in the ring; a lone survivor is it to itself
unfoldable pub next_survivor : Plan → ℕ → ℕ → ℕ
next_survivor p done j = get_or (keep (alive p done) (round (order_of p) (suc (place (order_of p) j)))) 0 nobody

-- the survivor before is the first one going back
unfoldable pub survivor_before : Plan → ℕ → ℕ → ℕ
survivor_before p done j = get_or (keep (alive p done) (reverse (round (order_of p) (place (order_of p) j)))) 0 nobody

-- the crashed nodes as a dead list
unfoldable pub crashed_list : Plan → ℕ → ℕ
crashed_list p done = with_crashed 0 (take done p.crashes)

-- ---- opening

-- the state that opening makes of an accepted plan
unfoldable pub start : Plan → State
start p = record { done = 0; last = 0; next = 0; nodes = map (opening (order_of p) p.h p.w) (numbers 0 p.n); flight = [] }

-- ---- what is pending, in the order of one tick

-- a crash of a node, the delivery or drop of the message at a place, a watch or a heartbeat of a node
pub data Event : Type 0 where
  crash : ℕ → Event
  message : ℕ → Event
  watch : ℕ → Event
  heartbeat : ℕ → Event

-- an event and the tick at which it is due
pub record Entry : Type 0 where
  pub tick : ℕ
  pub event : Event

abbrev pub entry : ℕ → Event → Entry
entry t e = record { tick = t; event = e }

-- a C line's event
abbrev pub crash_entry : Crash → Entry
crash_entry r = entry r.tick (crash r.node)

-- 1. crashes planned, by node: C lines rise by tick, then node
unfoldable pub crash_entries : List Crash → List Entry
crash_entries [] = []
crash_entries (r ∷ rs) = crash_entry r ∷ crash_entries rs

-- 2. messages, by message number; i is the place of the first
unfoldable pub message_entries : ℕ → List InFlight → List Entry
message_entries i [] = []
message_entries i (m ∷ ms) = entry m.due (message i) ∷ message_entries (suc i) ms

-- a timer, where it is on
unfoldable pub timer_entry : ℕ → Event → List Entry
timer_entry zero e = []
timer_entry (suc t) e = entry t e ∷ []

-- 3. timers of live nodes, by node, watch before heartbeat; i is the number of the first node
unfoldable pub timer_entries : Plan → ℕ → ℕ → List Node → List Entry
timer_entries p done i [] = []
timer_entries p done i (n ∷ ns) =
    cond (alive p done i) (timer_entry n.watch (watch i) ++ timer_entry n.heartbeat (heartbeat i)) [] ++ timer_entries p done (suc i) ns

unfoldable pub pending : Plan → State → List Entry
pending p s = crash_entries (drop s.done p.crashes) ++ (message_entries 0 s.flight ++ timer_entries p s.done 0 s.nodes)

-- ---- the next event: the first of these in the earliest tick that has one

unfoldable pub earlier : Entry → Option Entry → Entry
earlier e none = e
earlier e (some f) = cond (leb e.tick f.tick) e f

unfoldable pub first : List Entry → Option Entry
first [] = none
first (e ∷ es) = some (earlier e (first es))

-- an event with a tick up to the end
unfoldable pub up_to : ℕ → Option Entry → Option Entry
up_to end none = none
up_to end (some e) = cond (leb e.tick end) (some e) none

unfoldable pub next_event : Plan → State → Option Entry
next_event p s = up_to p.end (first (pending p s))

-- ---- what an event does

-- the delay of a message: that of its L line, or D
unfoldable pub delay_in : ℕ → List Delay → ℕ → ℕ
delay_in d [] number = d
delay_in d (r ∷ rs) number = cond (eqb r.number number) r.delay (delay_in d rs number)

unfoldable pub delay_of : Plan → ℕ → ℕ
delay_of p number = delay_in p.d p.delays number

-- the messages that node x sends at tick t, numbered from k on in order of sending, each due at t + its delay
unfoldable pub numbered : Plan → ℕ → ℕ → ℕ → List Message → List InFlight
numbered p t x k [] = []
numbered p t x k (m ∷ ms) =
    record { number = k; kind = m.kind; from = x; to = m.to; subject = m.subject; due = t + delay_of p k; list = m.list } ∷ numbered p t x (suc k) ms

-- node x has taken a turn at tick t; `rest` is what is left of the messages in flight, and what it sends joins them
unfoldable pub taken : Plan → State → ℕ → ℕ → List InFlight → Turn → State
taken p s t x rest u = record {
  done = s.done;
  last = t;
  next = s.next + length u.sends;
  nodes = set s.nodes x u.node;
  flight = rest ++ numbered p t x s.next u.sends;
}

-- a message delivered or dropped frees its place
unfoldable pub without : {A : Type 0} → ℕ → List A → List A
without i l = take i l ++ drop (suc i) l

-- a message is delivered; to a crashed node it is dropped
unfoldable pub received : Plan → State → ℕ → InFlight → Turn
received p s t m =
    cond (alive p s.done m.to) (on_message (order_of p) p.w t m.to m.kind m.from m.subject m.list (node_of s m.to))
    (silent (node_of s m.to))

unfoldable pub apply : Plan → State → ℕ → Event → State
apply p s t (crash k) = record { done = suc s.done; last = t; next = s.next; nodes = s.nodes; flight = s.flight }
apply p s t (message i) = taken p s t (message_at s i).to (without i s.flight) (received p s t (message_at s i))
apply p s t (watch x) = taken p s t x s.flight (on_watch_due (order_of p) p.w t x (node_of s x))
apply p s t (heartbeat x) = taken p s t x s.flight (on_heartbeat_due p.h t (node_of s x))

-- ---- events done

-- an event is done and leads to a state; or none is left up to the end tick; or it is refused by 8, and the state stays
pub data Outcome : Type 0 where
  did : Entry → State → Outcome
  ended : Outcome
  refused : Outcome

unfoldable pub fits : State → Bool
fits s = leb (length s.flight) most_in_flight

unfoldable pub tried : Plan → State → Option Entry → Outcome
tried p s none = ended
tried p s (some e) = let s' : State = apply p s e.tick e.event in cond (fits s') (did e s') refused

unfoldable pub try : Plan → State → Outcome
try p s = tried p s (next_event p s)

unfoldable pub left : State → Outcome → State
left s (did e s') = s'
left s ended = s
left s refused = s

-- the state after k tries
unfoldable pub steps : Plan → ℕ → State → State
steps p zero s = s
steps p (suc k) s = steps p k (left s (try p s))

-- how many of k tries do an event: those before the first that does none
unfoldable pub event_count : Plan → ℕ → State → ℕ
event_count p zero s = zero
event_count p (suc k) s = elim (try p s) [ did e s' ↦ suc (event_count p k s') | ended ↦ zero | refused ↦ zero ]

-- the events that k tries from s do, in order
unfoldable pub events_from : Plan → ℕ → State → List Entry
events_from p zero s = []
events_from p (suc k) s = elim (try p s) [ did e s' ↦ e ∷ events_from p k s' | ended ↦ [] | refused ↦ [] ]

-- the first e events of a file; where it has fewer, all of them
unfoldable pub first_events : Plan → ℕ → List Entry
first_events p e = events_from p e (start p)

-- the state after them
unfoldable pub after : Plan → ℕ → State
after p e = steps p e (start p)

-- ---- calls

-- how a run of k tries ends: spent where k events are done and another remains, finished ('done') where none is left, overfull at a
-- refused event (number 8)
pub data Ending : Type 0 where
  spent : Ending
  finished : Ending
  overfull : Ending

unfoldable pub run_answer : Plan → ℕ → State → Ending
run_answer p zero s = elim (next_event p s) [ none ↦ finished | some e ↦ spent ]
run_answer p (suc k) s = elim (try p s) [ did e s' ↦ run_answer p k s' | ended ↦ finished | refused ↦ overfull ]

-- a step with a log part of some length; a run with a budget
pub data SizedCall : Type 0 where
  step : ℕ → SizedCall
  run : ℕ → SizedCall

-- what a call does to the state
unfoldable pub called : Plan → SizedCall → State → State
called p (step room) s = cond (ltb room log_room) s (left s (try p s))
called p (run budget) s = steps p budget s

unfoldable pub calls : Plan → List SizedCall → State → State
calls p [] s = s
calls p (c ∷ cs) s = calls p cs (called p c s)

-- how many events a call asks for: a step not refused by 9 one, a run its budget
unfoldable pub asks : SizedCall → ℕ
asks (step room) = cond (ltb room log_room) 0 1
asks (run budget) = budget

unfoldable pub asked : List SizedCall → ℕ
asked [] = 0
asked (c ∷ cs) = asks c + asked cs

-- e, from the plan and the calls alone: none goes past the last event up to the end tick, nor past one that is refused by 8
unfoldable pub events : Plan → List SizedCall → ℕ
events p cs = event_count p (asked cs) (start p)
