-- What the functions of the code ask for and answer, below the call: the tally of each store's turns, whole parts and stores that are ready.
-- Assumes nothing.
use Rattle.std.specs.Prelude.{◌≡◌, Bool, true, false, List, [], map, ℕ, ◌+◌, ◌*◌, ◌≤◌, ◌<◌, length, get_or, Result, Ok, Err}
use Rattle.limits.specs.Limits.{store_size, most_stores}
use Rattle.event.specs.Ready.{Ready}
use Rattle.platform.specs.declared.Ran.{Ran}
use Rattle.platform.specs.declared.Ran.TheVariants.{Done, Spent}
use Rattle.platform.specs.declared.RunRefusal.{RunRefusal}
use Rattle.platform.specs.Calls.{events_done}
use Rattle.dispatcher.specs.declared.Dispatched.{Dispatched}
use Rattle.dispatcher.specs.declared.tally.Tally.{Tally}
use Rattle.dispatcher.specs.Dispatch.{Standing, can_go, bits}

-- ---- the tally of a store's turns

-- what the code keeps of how a store stands
unfoldable pub tally_of : Standing → Tally
tally_of x = record { able = can_go x; stopped = x.stopped; events = x.events }

-- of a store that has had no turn
abbrev pub new_tally : Bool → Tally
new_tally able = record { able = able; stopped = false; events = 0 }

-- a store goes on after a turn that is spent; it is stopped by one that is refused
unfoldable pub goes_on : Result Ran RunRefusal → Bool
goes_on (Ok (Spent n)) = true
goes_on (Ok (Done n)) = false
goes_on (Err r) = false

unfoldable pub is_stopped : Result Ran RunRefusal → Bool
is_stopped (Ok a) = false
is_stopped (Err r) = true

-- after a turn
unfoldable pub after_ran : Tally → Result Ran RunRefusal → Tally
after_ran t a = record { able = goes_on a; stopped = is_stopped a; events = t.events + events_done a }

-- which stores the tallies say can go on, and which they say are stopped
abbrev pub able_marks : List Tally → List Bool
able_marks ts = map (λ (t : Tally). t.able) ts

abbrev pub stopped_marks : List Tally → List Bool
stopped_marks ts = map (λ (t : Tally). t.stopped) ts

-- what a call answers after so many turns
unfoldable pub answer_of : List Tally → ℕ → Dispatched
answer_of ts turns = record { turns = turns; events = map (λ (t : Tally). t.events) ts; stopped = bits (stopped_marks ts) }

-- a part of n stores
pub record Whole (n : ℕ) (part : List ℕ) : Type 0 where
  pub size : length part ≡ n * store_size
  pub some : 1 ≤ n
  pub most : n ≤ most_stores

-- each of these stores is ready for events
abbrev pub AllReady : List (List ℕ) → Type 0
AllReady bs = (i : ℕ) → i < length bs → Ready (get_or bs i [])
