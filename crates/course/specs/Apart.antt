-- A run's store and its queue stand for a whole store: the queue holds the messages in flight, and the store is the whole one without
-- them. Assumes nothing.
use Rattle.std.specs.Prelude.{List, [], ◌≡◌, ℕ, ◌+◌, ◌≤◌}
use Rattle.node.specs.declared.Turned.{Turned}
use Rattle.limits.specs.Limits.{most_sent}
use Rattle.store.specs.declared.Flight.{Flight}
use Rattle.store.specs.Store.{encode, plan_in, state_in}
use Rattle.store.specs.Inside.{Held, with_flight}
use Rattle.event.specs.Event.{Turns, sends_left, turn_left}
use Rattle.queue.specs.Rows.{places}
use Rattle.queue.specs.Holds.{Holds}

-- a store without its messages in flight
unfoldable pub bare : List ℕ → List ℕ
bare b = encode (plan_in b) (with_flight (state_in b) [])

pub record Apart (b : List ℕ) (q : List Flight) (start end : ℕ) (whole : List ℕ) : Type 0 where
  pub held : Held whole
  pub is : b ≡ bare whole
  pub holds : Holds q start end (state_in whole).flight

-- node x of the whole store may take the turn u at tick t, and the queue has room for what it sends
pub record Turning (b : List ℕ) (q : List Flight) (start end t x : ℕ) (u : Turned) : Type 0 where
  pub whole : List ℕ
  pub apart : Apart b q start end whole
  pub turns : Turns whole t x u
  pub room : end + most_sent ≤ places

-- what is left where it has sent the messages of its turn, and where it has taken the whole turn
abbrev pub Sends : List ℕ → List Flight → ℕ → ℕ → ℕ → ℕ → Turned → List ℕ → List Flight → Type 0
Sends b q start end t x u b' q' =
    (whole : List ℕ) → Apart b q start end whole → Turns whole t x u → Apart b' q' start (end + u.count) (sends_left whole t x u)

abbrev pub Takes : List ℕ → List Flight → ℕ → ℕ → ℕ → ℕ → Turned → List ℕ → List Flight → Type 0
Takes b q start end t x u b' q' =
    (whole : List ℕ) → Apart b q start end whole → Turns whole t x u → Apart b' q' start (end + u.count) (turn_left whole t x u)
