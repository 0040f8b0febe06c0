-- WHAT IS REHEARSED IS WHAT THE NODES DO, of bytes: "We choose time-outs by rehearsal, and one that differs from the nodes chooses
-- wrongly." An event of the platform is a call on the node record of the node whose event it is: the call is accepted, leaves
-- that node's fields after the event, and puts the messages that the event adds to those in flight. proofs/Nodes.antt proves
-- it for every accepted file whose ring is in number order, the order of node records: 'node records and the forwarding table stay in
-- number order'. Assumes nothing.
use Rattle.std.specs.Prelude.{◌≡◌, true, cond, ◌&&◌, List, ◌++◌, ℕ, zero, suc, ◌≤◌, ◌<◌, eqb, length}
use Rattle.std.proofs.Math.Option.{Option, none, some}
use Rattle.node.specs.declared.Message.{Message}
use Rattle.node.specs.declared.Node.{Node}
use Rattle.limits.specs.Limits.{most_sent, record_size, part_size}
use Rattle.host.specs.declared.Record.{Record}
use Rattle.host.specs.Record.{encode, decode, sound}
use Rattle.limits.specs.Refusals.{accepted}
use Rattle.host.specs.Call.{put_messages, open_answer, open_leaves}
use Rattle.host.specs.Call.{deliver_answer, deliver_leaves, deliver_sends, timers_answer, timers_leaves, timers_sends}
use Rattle.plans.specs.Plan.{Plan}
use Rattle.model.specs.Platform.{InFlight, State, Event, Entry, Outcome, crash, message, watch, heartbeat, did, ended, refused}
use Rattle.model.specs.Platform.{alive, start, node_of, message_at, numbered, without, try, after}

-- ---- a node's record

-- the record of node x: its own number, N, H, W, a last tick and its fields
unfoldable pub record_of : Plan → ℕ → ℕ → Node → Record
record_of p x last n = record { number = x; nodes = p.n; h = p.h; w = p.w; last = last; node = n }

-- ---- the call of an event

-- a message delivered, by its kind, its sender, its subject and the list that it carries; or the timers
pub data NodeCall : Type 0 where
  deliver : ℕ → ℕ → ℕ → ℕ → NodeCall
  timers : NodeCall

-- the call that an event of state s is to node x: a message that x gets while it is live, its watch, its heartbeat. Another
-- node's event, a crash and a message dropped are none to x
unfoldable pub call_to : Plan → State → ℕ → Event → Option NodeCall
call_to p s x (crash k) = none
call_to p s x (message i) =
    let m : InFlight = message_at s i in
    cond (eqb m.to x && alive p s.done x) (some (deliver m.kind m.from m.subject m.list)) none
call_to p s x (watch y) = cond (eqb y x) (some timers) none
call_to p s x (heartbeat y) = cond (eqb y x) (some timers) none

-- what `kelbraut_node_deliver` or `kelbraut_node_timers` answers at a tick, where the record b and a message part are lent to it
unfoldable pub answers : NodeCall → ℕ → List ℕ → List ℕ → ℕ
answers (deliver kind sender subject list) tick b part = deliver_answer b tick kind sender subject list part
answers timers tick b part = timers_answer b tick part

-- the record that it leaves
unfoldable pub leaves : NodeCall → ℕ → List ℕ → List ℕ → List ℕ
leaves (deliver kind sender subject list) tick b part = deliver_leaves b tick kind sender subject list part
leaves timers tick b part = timers_leaves b tick part

-- the message part that it leaves
unfoldable pub sends : NodeCall → ℕ → List ℕ → List ℕ → List ℕ
sends (deliver kind sender subject list) tick b part = deliver_sends b tick kind sender subject list part
sends timers tick b part = timers_sends b tick part

-- ---- one event

-- the messages in flight that an event finds, but the one that it delivers
unfoldable pub found : State → Event → List InFlight
found s (crash k) = s.flight
found s (message i) = without i s.flight
found s (watch x) = s.flight
found s (heartbeat x) = s.flight

-- the event e leads from s to s'; it is the call c to node x, whose record b and a message part are lent
pub record SameEvent (p : Plan) (s : State) (e : Entry) (s' : State) (x : ℕ) (c : NodeCall) (b part : List ℕ) : Type 0 where
  -- the call is accepted
  pub accepts : answers c e.tick b part ≡ accepted
  -- and leaves the record that holds x's fields after the event; its last tick is the event's
  pub holds : leaves c e.tick b part ≡ encode (record_of p x e.tick (node_of s' x))
  -- the message part holds these messages of x, in order
  pub sent : List Message
  pub few : length sent ≤ most_sent
  pub puts : sends c e.tick b part ≡ put_messages part x sent
  -- and they are what the event adds to the messages in flight, numbered from the next number on, each due after its delay
  pub adds : s'.flight ≡ found s e.event ++ numbered p e.tick x s.next sent

-- ---- a whole run

-- the record b of node x after one more try of the platform: lent to the call, where the event is one to x, else left
unfoldable pub lent : Option NodeCall → ℕ → List ℕ → List ℕ → List ℕ
lent none tick b part = b
lent (some c) tick b part = leaves c tick b part

unfoldable pub followed : Plan → State → ℕ → Outcome → List ℕ → List ℕ → List ℕ
followed p s x (did e s') b part = lent (call_to p s x e.event) e.tick b part
followed p s x ended b part = b
followed p s x refused b part = b

-- node x's record after the first k events of a file: 64 lent bytes, opened, then lent to the call of each event that is one to x,
-- event i with the message part `parts i`
unfoldable pub record_after : Plan → ℕ → List ℕ → (ℕ → List ℕ) → ℕ → List ℕ
record_after p x bytes parts zero = open_leaves bytes x p.n p.h p.w
record_after p x bytes parts (suc k) = followed p (after p k) x (try p (after p k)) (record_after p x bytes parts k) (parts k)

-- the tick of the last of the first k events that was a call to x: "the last tick, 0 at opening and then the tick of each accepted call"
unfoldable pub tick_or : Option NodeCall → ℕ → ℕ → ℕ
tick_or none tick last = last
tick_or (some c) tick last = tick

unfoldable pub ticked : Plan → State → ℕ → Outcome → ℕ → ℕ
ticked p s x (did e s') last = tick_or (call_to p s x e.event) e.tick last
ticked p s x ended last = last
ticked p s x refused last = last

unfoldable pub last_tick : Plan → ℕ → ℕ → ℕ
last_tick p x zero = 0
last_tick p x (suc k) = ticked p (after p k) x (try p (after p k)) (last_tick p x k)

-- node x along a run: opening is accepted, each of its events is the call on the record that its events before have left, and after
-- the first k events of the file that record holds x's fields
pub record Follows (p : Plan) (x : ℕ) (bytes : List ℕ) (parts : ℕ → List ℕ) : Type 0 where
  pub opens : open_answer bytes x p.n p.h p.w ≡ accepted
  pub same : (k : ℕ) (e : Entry) (s' : State) → try p (after p k) ≡ did e s' → (c : NodeCall) → call_to p (after p k) x e.event ≡ some c
      → SameEvent p (after p k) e s' x c (record_after p x bytes parts k) (parts k)
  pub holds : (k : ℕ) → record_after p x bytes parts k ≡ encode (record_of p x (last_tick p x k) (node_of (after p k) x))

-- ---- the statement, of an accepted file's plan whose ring is in number order

-- A record that holds x's fields with an earlier last tick may be out of range, since a watch is due by 2 × W after the last tick: with
-- `P,2,1,2,1,20`, after eight events, node 0's watch is due at tick 5, and a record of it with last tick 0 gets 10
-- (proofs/Worked.antt). So `event` asks for a record in range, and `in_range` says which last ticks give one; `run` has no such condition.
pub record SameAsNodes (p : Plan) : Type 0 where
  -- opening: any 64 lent bytes become the record that holds x's fields at opening
  pub opened : (x : ℕ) → x < p.n → (bytes : List ℕ) → length bytes ≡ record_size
      → (open_answer bytes x p.n p.h p.w ≡ accepted)
      × (open_leaves bytes x p.n p.h p.w ≡ encode (record_of p x 0 (node_of (start p) x)))
  -- every event of node x, and every record in range that holds x's fields, with a last tick not after the event's
  pub event : (k : ℕ) (e : Entry) (s' : State) → try p (after p k) ≡ did e s'
      → (x : ℕ) (c : NodeCall) → call_to p (after p k) x e.event ≡ some c
      → (last : ℕ) → last ≤ e.tick → (b : List ℕ) → sound b ≡ true → decode b ≡ record_of p x last (node_of (after p k) x)
      → (part : List ℕ) → part_size ≤ length part → SameEvent p (after p k) e s' x c b part
  -- a last tick from the last event's up to this one's gives such a record
  pub in_range : (k : ℕ) (e : Entry) (s' : State) → try p (after p k) ≡ did e s'
      → (x : ℕ) (c : NodeCall) → call_to p (after p k) x e.event ≡ some c
      → (last : ℕ) → (after p k).last ≤ last → last ≤ e.tick
      → (sound (encode (record_of p x last (node_of (after p k) x))) ≡ true)
      × (decode (encode (record_of p x last (node_of (after p k) x))) ≡ record_of p x last (node_of (after p k) x))
  -- an event leaves the fields of every node to which it is no call
  pub others : (k : ℕ) (e : Entry) (s' : State) → try p (after p k) ≡ did e s'
      → (x : ℕ) → call_to p (after p k) x e.event ≡ none → node_of s' x ≡ node_of (after p k) x
  -- the whole run: any 64 lent bytes, any message parts of at least 112
  pub run : (x : ℕ) → x < p.n → (bytes : List ℕ) → length bytes ≡ record_size
      → (parts : ℕ → List ℕ) → ((i : ℕ) → part_size ≤ length (parts i)) → Follows p x bytes parts
