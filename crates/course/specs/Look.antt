-- What a look for the next event finds: the next crash, the earliest message, the timers. Assumes nothing.
use Rattle.std.specs.Prelude.{Option as Maybe, Some, None, Bool, true, false, ◌⊎◌, ◌≢◌, ◌≡◌, ℕ, suc, ◌≤◌, ◌<◌, length, get_or}
use mathlib.Core.List.{List, [], Memᴰ}
use Rattle.plans.specs.Plan.{Plan}
use Rattle.model.specs.Platform.{InFlight, State, alive, node_of}
use Rattle.plans.specs.Plain.{row_at}
use Rattle.store.specs.declared.Flight.{Flight}
use Rattle.queue.specs.Rows.{nothing}

-- r is the tick of the first crash that is not done, or the one after the end tick
pub record CrashAt (p : Plan) (s : State) (r : ℕ) : Type 0 where
  pub within : r ≤ suc p.end
  pub all : (i : ℕ) → s.done ≤ i → i < length p.crashes → r ≤ (row_at p i).tick
  pub here : r ≤ p.end → (s.done < length p.crashes) × ((row_at p s.done).tick ≡ r)

-- r is the tick of the first message
pub record DueAt (q : List Flight) (start end : ℕ) (flight : List InFlight) (r : ℕ) : Type 0 where
  pub all : (g : InFlight) → Memᴰ g flight → r ≤ g.due
  pub less : start < end
  pub here : (get_or q start nothing).due ≡ r

-- if there is one
unfoldable pub FirstDue : List Flight → (start end : ℕ) → List InFlight → Maybe ℕ → Type 0
FirstDue q start end flight (Some r) = DueAt q start end flight r
FirstDue q start end flight None = flight ≡ []

-- ---- timers: a timer is 0, or one more than its tick

-- no timer of a live node is due before tick t, and none at t of the nodes before x
pub record Timers (p : Plan) (s : State) (t x : ℕ) : Type 0 where
  pub watch : (j : ℕ) → alive p s.done j ≡ true → (node_of s j).watch ≢ 0 → t < (node_of s j).watch
  pub heartbeat : (j : ℕ) → alive p s.done j ≡ true → (node_of s j).heartbeat ≢ 0 → t < (node_of s j).heartbeat
  pub passed : (j : ℕ) → j < x → alive p s.done j ≡ true → ((node_of s j).watch ≢ suc t) × ((node_of s j).heartbeat ≢ suc t)

-- whether a timer of live node i is due at tick t
pub record DueNow (p : Plan) (s : State) (t i : ℕ) (r : Bool) : Type 0 where
  pub yes : r ≡ true → (alive p s.done i ≡ true) × (((node_of s i).watch ≡ suc t) ⊎ ((node_of s i).heartbeat ≡ suc t))
  pub no : r ≡ false → alive p s.done i ≡ true → ((node_of s i).watch ≢ suc t) × ((node_of s i).heartbeat ≢ suc t)

-- node x has a timer that is due at tick t, and none before it has
pub record TimerAt (p : Plan) (s : State) (t x : ℕ) : Type 0 where
  pub timers : Timers p s t x
  pub inside : x < p.n
  pub live : alive p s.done x ≡ true
  pub due : ((node_of s x).watch ≡ suc t) ⊎ ((node_of s x).heartbeat ≡ suc t)

-- the first such node, if there is one
unfoldable pub FirstTimer : Plan → State → ℕ → Maybe ℕ → Type 0
FirstTimer p s t (Some x) = TimerAt p s t x
FirstTimer p s t None = Timers p s t p.n

-- tick t is before those of live node i's timers
pub record Before (p : Plan) (s : State) (i t : ℕ) : Type 0 where
  pub watch : alive p s.done i ≡ true → (node_of s i).watch ≢ 0 → suc t < (node_of s i).watch
  pub heartbeat : alive p s.done i ≡ true → (node_of s i).heartbeat ≢ 0 → suc t < (node_of s i).heartbeat

-- r is the earliest of `least` and the ticks of live node i's timers; a tick before all of these is before r
pub record SoonerOf (p : Plan) (s : State) (i least r : ℕ) : Type 0 where
  pub low : r ≤ least
  pub watch : alive p s.done i ≡ true → (node_of s i).watch ≢ 0 → r < (node_of s i).watch
  pub heartbeat : alive p s.done i ≡ true → (node_of s i).heartbeat ≢ 0 → r < (node_of s i).heartbeat
  pub above : (t : ℕ) → t < least → Before p s i t → t < r

-- `least` is after t, and no timer of the nodes before i is due before it
pub record Under (p : Plan) (s : State) (i t least : ℕ) : Type 0 where
  pub above : t < least
  pub watch : (j : ℕ) → j < i → alive p s.done j ≡ true → (node_of s j).watch ≢ 0 → least < (node_of s j).watch
  pub heartbeat : (j : ℕ) → j < i → alive p s.done j ≡ true → (node_of s j).heartbeat ≢ 0 → least < (node_of s j).heartbeat
