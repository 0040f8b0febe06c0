-- The store: the bytes of a plan and of the platform's state, and what a store's bytes hold. Document 01's 'The store is 65,536 lent
-- bytes .. its unused part zero' and 'The team writes the layouts of record, message and store in docs/'. Assumes nothing.
use Rattle.std.specs.Prelude.{Bool, ◌&&◌, List, [], ◌∷◌, ◌++◌, map, ℕ, eqb, length}
use Rattle.limits.specs.Limits.{store_size}
use Rattle.ring.specs.Ring.{numbers}
use Rattle.node.specs.declared.Node.{Node}
use Rattle.plans.specs.Plan.{Plan, Crash, Delay}
use Rattle.model.specs.Platform.{State, InFlight}
use Rattle.model.specs.Range.{store_test}
use Rattle.store.specs.declared.layout.Field.{Field}
use Rattle.store.specs.Columns.{Column, Part, field, unused, part, columns_of, cell, number, bytes_of, room_test, unused_test}

-- ---- the layout: where each field starts, its width and its places

-- the P line and the counts
abbrev pub node_count : Field
node_count = field 0 1 1

abbrev pub longest_delay : Field
longest_delay = field 1 1 1

abbrev pub period : Field
period = field 2 2 1

abbrev pub time_out : Field
time_out = field 4 2 1

abbrev pub crash_count : Field
crash_count = field 6 1 1

abbrev pub crashes_done : Field
crashes_done = field 7 1 1

abbrev pub end_tick : Field
end_tick = field 8 4 1

abbrev pub last_tick : Field
last_tick = field 12 4 1

abbrev pub next_number : Field
next_number = field 16 8 1

abbrev pub delay_count : Field
delay_count = field 24 2 1

abbrev pub message_count : Field
message_count = field 26 2 1

abbrev pub ring_size : Field
ring_size = field 28 1 1

-- bytes 29 to 63
abbrev pub spare_head : Field
spare_head = field 29 1 35

-- the numbers of the Q line
abbrev pub ring_nodes : Field
ring_nodes = field 64 1 64

-- the nodes
abbrev pub emitters : Field
emitters = field 128 1 64

abbrev pub observers : Field
observers = field 192 1 64

abbrev pub watches : Field
watches = field 256 4 64

abbrev pub heartbeats : Field
heartbeats = field 512 4 64

abbrev pub dead_lists : Field
dead_lists = field 768 8 64

abbrev pub marks : Field
marks = field 1280 8 64

-- the rows of C lines and of L lines
abbrev pub crash_ticks : Field
crash_ticks = field 1792 4 64

abbrev pub crash_nodes : Field
crash_nodes = field 2048 1 64

abbrev pub delay_numbers : Field
delay_numbers = field 2112 4 2048

abbrev pub delay_ticks : Field
delay_ticks = field 10304 1 2048

-- the messages in flight
abbrev pub message_numbers : Field
message_numbers = field 12352 8 2048

abbrev pub message_dues : Field
message_dues = field 28736 4 2048

abbrev pub message_kinds : Field
message_kinds = field 36928 1 2048

abbrev pub message_senders : Field
message_senders = field 38976 1 2048

abbrev pub message_receivers : Field
message_receivers = field 41024 1 2048

abbrev pub message_subjects : Field
message_subjects = field 43072 1 2048

abbrev pub message_lists : Field
message_lists = field 45120 8 2048

-- bytes 61504 to 65535
abbrev pub spare_tail : Field
spare_tail = field 61504 1 4032

-- ---- encoding

-- what a store holds
pub record Contents : Type 0 where
  pub plan : Plan
  pub state : State

abbrev pub contents : Plan → State → Contents
contents p s = record { plan = p; state = s }

-- the parts of the head, of a number of the Q line, of a node, of a C row, of an L row and of a message, in the layout's order
unfoldable pub head_parts : List (Part Contents)
head_parts =
    part node_count (λ x. x.plan.n)
    ∷ part longest_delay (λ x. x.plan.d)
    ∷ part period (λ x. x.plan.h)
    ∷ part time_out (λ x. x.plan.w)
    ∷ part crash_count (λ x. length x.plan.crashes)
    ∷ part crashes_done (λ x. x.state.done)
    ∷ part end_tick (λ x. x.plan.end)
    ∷ part last_tick (λ x. x.state.last)
    ∷ part next_number (λ x. x.state.next)
    ∷ part delay_count (λ x. length x.plan.delays)
    ∷ part message_count (λ x. length x.state.flight)
    ∷ part ring_size (λ x. length x.plan.ring)
    ∷ []

unfoldable pub ring_parts : List (Part ℕ)
ring_parts = part ring_nodes (λ k. k) ∷ []

unfoldable pub node_parts : List (Part Node)
node_parts =
    part emitters (λ a. a.emitter)
    ∷ part observers (λ a. a.observer)
    ∷ part watches (λ a. a.watch)
    ∷ part heartbeats (λ a. a.heartbeat)
    ∷ part dead_lists (λ a. a.list)
    ∷ part marks (λ a. a.mark)
    ∷ []

unfoldable pub crash_parts : List (Part Crash)
crash_parts = part crash_ticks (λ r. r.tick) ∷ part crash_nodes (λ r. r.node) ∷ []

unfoldable pub delay_parts : List (Part Delay)
delay_parts = part delay_numbers (λ r. r.number) ∷ part delay_ticks (λ r. r.delay) ∷ []

-- a message's number and due; its kind, sender, receiver, subject and list
unfoldable pub time_parts : List (Part InFlight)
time_parts = part message_numbers (λ m. m.number) ∷ part message_dues (λ m. m.due) ∷ []

unfoldable pub route_parts : List (Part InFlight)
route_parts =
    part message_kinds (λ m. m.kind)
    ∷ part message_senders (λ m. m.from)
    ∷ part message_receivers (λ m. m.to)
    ∷ part message_subjects (λ m. m.subject)
    ∷ part message_lists (λ m. m.list)
    ∷ []

abbrev pub message_parts : List (Part InFlight)
message_parts = time_parts ++ route_parts

-- the columns of the layout, one after another
unfoldable pub columns : Plan → State → List Column
columns p s =
    columns_of head_parts (contents p s ∷ [])
    ++ (unused spare_head ∷ (columns_of ring_parts p.ring
    ++ (columns_of node_parts s.nodes
    ++ (columns_of crash_parts p.crashes
    ++ (columns_of delay_parts p.delays
    ++ (columns_of message_parts s.flight
    ++ (unused spare_tail ∷ [])))))))

-- the store of a plan and a state
unfoldable pub encode : Plan → State → List ℕ
encode p s = bytes_of (columns p s)

-- ---- decoding

abbrev pub node_in : List ℕ → ℕ → Node
node_in b i = record {
  emitter = cell b emitters i;
  observer = cell b observers i;
  watch = cell b watches i;
  heartbeat = cell b heartbeats i;
  list = cell b dead_lists i;
  mark = cell b marks i;
}

abbrev pub crash_row_in : List ℕ → ℕ → Crash
crash_row_in b i = record { tick = cell b crash_ticks i; node = cell b crash_nodes i }

abbrev pub delay_row_in : List ℕ → ℕ → Delay
delay_row_in b i = record { number = cell b delay_numbers i; delay = cell b delay_ticks i }

abbrev pub message_in : List ℕ → ℕ → InFlight
message_in b i = record {
  number = cell b message_numbers i;
  kind = cell b message_kinds i;
  from = cell b message_senders i;
  to = cell b message_receivers i;
  subject = cell b message_subjects i;
  due = cell b message_dues i;
  list = cell b message_lists i;
}

-- the plan that a store's bytes hold
unfoldable pub plan_in : List ℕ → Plan
plan_in b = record {
  n = number b node_count;
  h = number b period;
  w = number b time_out;
  d = number b longest_delay;
  end = number b end_tick;
  ring = map (cell b ring_nodes) (numbers 0 (number b ring_size));
  crashes = map (crash_row_in b) (numbers 0 (number b crash_count));
  delays = map (delay_row_in b) (numbers 0 (number b delay_count));
}

-- the state that a store's bytes hold
unfoldable pub state_in : List ℕ → State
state_in b = record {
  done = number b crashes_done;
  last = number b last_tick;
  next = number b next_number;
  nodes = map (node_in b) (numbers 0 (number b node_count));
  flight = map (message_in b) (numbers 0 (number b message_count));
}

-- ---- number 7: other length, a field out of range, or an unused byte not zero

-- the length is the store's, no numbers, rows and messages beyond their places, what it holds is in range, and every unused byte is zero
unfoldable pub store_in_range : List ℕ → Bool
store_in_range b =
    eqb (length b) store_size
    && (room_test (columns (plan_in b) (state_in b)) && (store_test (plan_in b) (state_in b) && unused_test b (columns (plan_in b) (state_in b))))
