-- How far a run is, what its parts ask for and leave, and that the next event is found, answered and done as a step does it. Assumes nothing.
use Rattle.std.specs.Prelude.{List, ◌≢◌, ◌≡◌, ℕ, ◌+◌, ◌≤◌, ◌<◌, length, Option as Maybe, Some, Result, Ok, Err}
use Rattle.std.proofs.Math.Option.{none}
use Rattle.limits.specs.Limits.{most_in_flight, most_sent}
use Rattle.limits.specs.declared.Refusal.{Refusal}
use Rattle.limits.specs.declared.Refusal.TheVariants.{TooMany}
use Rattle.node.specs.declared.Node.{Node}
use Rattle.node.specs.declared.Turned.{Turned}
use Rattle.model.specs.declared.Deed.{Deed}
use Rattle.model.specs.Platform.{crashed_list, next_event}
use Rattle.store.specs.declared.Flight.{Flight}
use Rattle.store.specs.Store.{plan_in, state_in}
use Rattle.event.specs.Event.{Turns, next_answer, store_left, turn_left}
use Rattle.event.specs.Ready.{Ready}
use Rattle.queue.specs.Rows.{places}
use Rattle.course.specs.declared.Progress.{Progress}
use Rattle.course.specs.declared.Step.{Step}
use Rattle.course.specs.declared.Step.TheVariants.{Did, Waits, Ended}
use Rattle.course.specs.Apart.{Apart}
use Rattle.course.specs.Look.{Timers}

-- the store and the queue of a run that is so far stand for a whole store, which is ready for events
pub record Underway (b : List ℕ) (q : List Flight) (c : Progress) (whole : List ℕ) : Type 0 where
  pub ready : Ready whole
  pub apart : Apart b q c.start c.end whole
  pub dead : c.dead ≡ crashed_list (plan_in whole) (state_in whole).done
  pub timers : Timers (plan_in whole) (state_in whole) c.bound c.x

-- and the queue has room for what an event sends
pub record Going (b : List ℕ) (q : List Flight) (c : Progress) : Type 0 where
  pub whole : List ℕ
  pub underway : Underway b q c whole
  pub room : c.end + most_sent ≤ places

-- ---- a turn of node y at tick t

-- it may be taken, unless too many messages would be in flight
pub record Settling (b : List ℕ) (q : List Flight) (c : Progress) (t y : ℕ) (u : Turned) : Type 0 where
  pub whole : List ℕ
  pub apart : Apart b q c.start c.end whole
  pub few : u.count ≤ most_sent
  pub turns : length (state_in whole).flight + u.count ≤ most_in_flight → Turns whole t y u
  pub room : c.end + most_sent ≤ places

-- how far a run is after a turn that leaves node a: no timer of a is due before its tick
pub record Later (c d : Progress) (count : ℕ) (a : Node) : Type 0 where
  pub start : d.start ≡ c.start
  pub end : d.end ≡ c.end + count
  pub dead : d.dead ≡ c.dead
  pub bound : d.bound ≤ c.bound
  pub watch : a.watch ≢ 0 → d.bound < a.watch
  pub heartbeat : a.heartbeat ≢ 0 → d.bound < a.heartbeat
  pub x : d.x ≤ c.x
  pub again : d.bound < c.bound → d.x ≡ 0

-- it is taken
pub record Taken (c : Progress) (t y : ℕ) (u : Turned) (whole b' : List ℕ) (q' : List Flight) (d : Progress) : Type 0 where
  pub room : length (state_in whole).flight + u.count ≤ most_in_flight
  pub later : Later c d u.count u.node
  pub apart : Apart b' q' d.start d.end (turn_left whole t y u)

-- or refused, and nothing is written
pub record TurnedDown (b : List ℕ) (q : List Flight) (c : Progress) (u : Turned) (whole : List ℕ) (r : Refusal)
    (b' : List ℕ) (q' : List Flight) (d : Progress) : Type 0 where
  pub refusal : r ≡ TooMany
  pub full : most_in_flight < length (state_in whole).flight + u.count
  pub store : b' ≡ b
  pub queue : q' ≡ q
  pub progress : d ≡ c

unfoldable pub SettledAs : (b : List ℕ) (q : List Flight) → Progress → (t y : ℕ) → Turned → (whole : List ℕ) → Result (Unit {0}) Refusal
    → (b' : List ℕ) (q' : List Flight) → Progress → Type 0
SettledAs b q c t y u whole (Ok _) b' q' d = Taken c t y u whole b' q' d
SettledAs b q c t y u whole (Err r) b' q' d = TurnedDown b q c u whole r b' q' d

abbrev pub Settled : (b : List ℕ) (q : List Flight) → Progress → (t y : ℕ) → Turned → Result (Unit {0}) Refusal
    → (b' : List ℕ) (q' : List Flight) → Progress → Type 0
Settled b q c t y u r b' q' d =
    (whole : List ℕ) → Apart b q c.start c.end whole → (length (state_in whole).flight + u.count ≤ most_in_flight → Turns whole t y u)
    → SettledAs b q c t y u whole r b' q' d

-- ---- a look for the next event, which is done if one is found

-- from c to d, which is c where no event is left and where one is refused
unfoldable pub SteppedAs : (whole : List ℕ) → Progress → Result Step Refusal → (b' : List ℕ) (q' : List Flight) → Progress → Type 0
SteppedAs whole c (Ok (Did a)) b' q' d = (Ok (Some a) ≡ next_answer whole) × Underway b' q' d (store_left whole)
SteppedAs whole c (Ok Waits) b' q' d = (c.bound ≤ (plan_in whole).end) × (c.bound < d.bound) × (d.end ≡ c.end) × Underway b' q' d whole
SteppedAs whole c (Ok Ended) b' q' d = (next_event (plan_in whole) (state_in whole) ≡ none) × (d ≡ c) × Underway b' q' d whole
SteppedAs whole c (Err r) b' q' d = (Err r ≡ next_answer whole) × (whole ≡ store_left whole) × (d ≡ c) × Underway b' q' d whole

abbrev pub Stepped : (b : List ℕ) (q : List Flight) → Progress → Result Step Refusal → (b' : List ℕ) (q' : List Flight) → Progress → Type 0
Stepped b q c r b' q' d = (whole : List ℕ) → Underway b q c whole → SteppedAs whole c r b' q' d

-- ---- the next event, after as many looks as it takes

-- THE TWO WAYS OF FINDING AN EVENT AGREE: what a run answers of the next event is what a step on the whole store answers, and what it leaves
-- stands for the store that the step leaves
pub record Agrees (whole : List ℕ) (r : Result (Maybe Deed) Refusal) (b' : List ℕ) (q' : List Flight) (d : Progress) : Type 0 where
  pub answer : r ≡ next_answer whole
  pub underway : Underway b' q' d (store_left whole)
