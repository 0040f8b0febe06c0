-- What the functions on a store ask for and answer among themselves: which bytes they take, and what a change leaves. The store itself is
-- defined in Store.antt. Assumes nothing.
use Rattle.std.specs.Prelude.{List, [], ◌∷◌, ◌++◌, ◌≡◌, ℕ, suc, ◌^◌, ◌≤◌, ◌<◌, length, get_or, set}
use Rattle.limits.specs.Limits.{most_nodes, most_delays, most_in_flight, store_size}
use Rattle.node.specs.declared.Node.{Node}
use Rattle.plans.specs.Plan.{Plan, Crash, Delay}
use Rattle.model.specs.Platform.{State, InFlight, without}
use Rattle.store.specs.Store.{encode, plan_in, state_in, contents, head_parts, ring_parts, node_parts, crash_parts, delay_parts, message_parts}
use Rattle.store.specs.Columns.{RowFits, RowsFit}
use Rattle.store.specs.declared.CrashRow.{CrashRow}
use Rattle.store.specs.declared.DelayRow.{DelayRow}
use Rattle.store.specs.declared.Flight.{Flight}

-- ---- which bytes a function takes

-- no more nodes, numbers of the Q line, rows and messages than there are places
pub record Counts (p : Plan) (s : State) : Type 0 where
  pub nodes : p.n ≤ most_nodes
  pub ring : length p.ring ≤ most_nodes
  pub crashes : length p.crashes ≤ most_nodes
  pub delays : length p.delays ≤ most_delays
  pub messages : length s.flight ≤ most_in_flight

-- bytes of a store's length with no more of these than there are places: what reading them takes
pub record Sized (b : List ℕ) : Type 0 where
  pub size : length b ≡ store_size
  pub counts : Counts (plan_in b) (state_in b)

-- a node whose numbers fit their fields
pub record SmallNode (a : Node) : Type 0 where
  pub emitter : a.emitter < 256
  pub observer : a.observer < 256
  pub watch : a.watch < 256 ^ 4
  pub heartbeat : a.heartbeat < 256 ^ 4
  pub list : a.list < 256 ^ 8
  pub mark : a.mark < 256 ^ 8

-- a plan and a state that a store can hold: every number fits its field
pub record Fits (p : Plan) (s : State) : Type 0 where
  pub nodes : length s.nodes ≡ p.n
  pub counts : Counts p s
  pub head : RowFits head_parts (contents p s)
  pub ring_rows : RowsFit ring_parts p.ring
  pub node_rows : RowsFit node_parts s.nodes
  pub crash_rows : RowsFit crash_parts p.crashes
  pub delay_rows : RowsFit delay_parts p.delays
  pub message_rows : RowsFit message_parts s.flight

-- bytes that are the store of what they hold
pub record Held (b : List ℕ) : Type 0 where
  pub size : length b ≡ store_size
  pub canonical : b ≡ encode (plan_in b) (state_in b)
  pub fits : Fits (plan_in b) (state_in b)

-- ---- a state with one thing changed

unfoldable pub with_node : State → ℕ → Node → State
with_node s x a = record { done = s.done; last = s.last; next = s.next; nodes = set s.nodes x a; flight = s.flight }

unfoldable pub with_tick : State → ℕ → State
with_tick s t = record { done = s.done; last = t; next = s.next; nodes = s.nodes; flight = s.flight }

-- one crash row more is done
unfoldable pub crashed : State → State
crashed s = record { done = suc s.done; last = s.last; next = s.next; nodes = s.nodes; flight = s.flight }

-- the message at place i is delivered or dropped, and its place is free
unfoldable pub without_message : State → ℕ → State
without_message s i = record { done = s.done; last = s.last; next = s.next; nodes = s.nodes; flight = without i s.flight }

-- other messages are in flight
unfoldable pub with_flight : State → List InFlight → State
with_flight s ms = record { done = s.done; last = s.last; next = s.next; nodes = s.nodes; flight = ms }

-- one message more is in flight, after the last
abbrev pub with_message : State → InFlight → State
with_message s m = with_flight s (s.flight ++ (m ∷ []))

-- the next number is given away
unfoldable pub number_taken : State → State
number_taken s = record { done = s.done; last = s.last; next = suc s.next; nodes = s.nodes; flight = s.flight }

-- ---- rows as the code answers them

abbrev pub crash_row : Crash → CrashRow
crash_row r = record { tick = r.tick; node = r.node }

-- the L line at a place
abbrev pub delay_at : Plan → ℕ → Delay
delay_at p i = get_or p.delays i (record { number = 0; delay = 0 })

abbrev pub delay_row : Delay → DelayRow
delay_row r = record { number = r.number; delay = r.delay }

abbrev pub flying : InFlight → Flight
flying m = record { number = m.number; due = m.due; kind = m.kind; from = m.from; to = m.to; subject = m.subject; list = m.list }

-- and the message that such a row stands for
abbrev pub message_of : Flight → InFlight
message_of m = record { number = m.number; kind = m.kind; from = m.from; to = m.to; subject = m.subject; due = m.due; list = m.list }

-- ---- the search for a message's L row

-- the row's number at a place
abbrev pub delay_number : List Delay → ℕ → ℕ
delay_number rows i = (get_or rows i (record { number = 0; delay = 0 })).number

-- r is the first place whose row has a number not below x: the rows before it are of lower numbers, and from it on of no lower ones
pub record FirstRow (rows : List Delay) (x r : ℕ) : Type 0 where
  pub inside : r ≤ length rows
  pub before : (i : ℕ) → i < r → delay_number rows i < x
  pub from : (i : ℕ) → r ≤ i → i < length rows → x ≤ delay_number rows i
