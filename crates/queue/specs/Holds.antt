-- A queue holds the messages in flight. Assumes nothing.
use Rattle.std.specs.Prelude.{List, ◌∷◌, map, ◌≡◌, ℕ, suc, ◌+◌, ◌≤◌, ◌<◌, length, get_or}
use Rattle.std.specs.List.{between}
use Rattle.std.proofs.Math.Option.{some}
use Rattle.store.specs.declared.Flight.{Flight}
use Rattle.store.specs.Inside.{message_of}
use Rattle.queue.specs.Order.{ordered}
use Rattle.queue.specs.Rows.{places, nothing}
use Rattle.model.specs.Platform.{InFlight, message, message_entries, first, without, no_message}

-- what messages are ordered by
abbrev pub due : InFlight → ℕ
due m = m.due

abbrev pub number : InFlight → ℕ
number m = m.number

-- the queue from `start` up to `end` holds these messages: what stands there is they, by due tick, those of one tick in their own order
pub record Holds (q : List Flight) (start end : ℕ) (flight : List InFlight) : Type 0 where
  pub size : length q ≡ places
  pub order : start ≤ end
  pub room : end ≤ places
  pub is : map message_of (between start end q) ≡ ordered due flight

-- m is the first of the messages in flight, `rest` the others by due tick: m's place among them is that of the first entry, and without
-- it the others are left
pub record Earliest (i : ℕ) (flight : List InFlight) (m : InFlight) (rest : List InFlight) : Type 0 where
  pub place : ℕ
  pub inside : place < length flight
  pub is : get_or flight place no_message ≡ m
  pub sooner : (k : ℕ) → k < place → m.due < (get_or flight k no_message).due
  pub first : first (message_entries i flight) ≡ some (record { tick = m.due; event = message (i + place) })
  pub left : ordered due (without place flight) ≡ rest

-- what stands at `start` is the first message, and the queue from the next place on holds the others
pub record Head (q : List Flight) (start end : ℕ) (flight : List InFlight) : Type 0 where
  pub m : InFlight
  pub rest : List InFlight
  pub order : ordered due flight ≡ m ∷ rest
  pub earliest : Earliest 0 flight m rest
  pub row : message_of (get_or q start nothing) ≡ m
  pub taken : Holds q (suc start) end (without earliest.place flight)
