-- What the functions that do an event ask for. Assumes nothing.
use Rattle.std.specs.Prelude.{List, ◌≡◌, ℕ, ◌+◌, ◌≤◌, ◌<◌}
use Rattle.limits.specs.Limits.{most_sent}
use Rattle.model.specs.Platform.{Event, crash, message}
use Rattle.store.specs.declared.Flight.{Flight}
use Rattle.store.specs.Store.{state_in}
use Rattle.event.specs.Event.{NextIs}
use Rattle.queue.specs.Rows.{places}
use Rattle.queue.specs.Holds.{Head}
use Rattle.course.specs.declared.Progress.{Progress}
use Rattle.course.specs.Progress.{Underway}

-- a timer's event is next, at the tick that the run has come to, and the queue has room
pub record Acts (b : List ℕ) (q : List Flight) (c : Progress) (e : Event) : Type 0 where
  pub whole : List ℕ
  pub underway : Underway b q c whole
  pub next : NextIs whole c.bound e
  pub room : c.end + most_sent ≤ places

-- a crash is next; of the queue nothing is asked
pub record ActsCrash (b : List ℕ) (c : Progress) (t : ℕ) : Type 0 where
  pub q : List Flight
  pub whole : List ℕ
  pub underway : Underway b q c whole
  pub node : ℕ
  pub next : NextIs whole t (crash node)

-- the first message of the queue is next
pub record Delivers (q : List Flight) (c : Progress) (t : ℕ) (whole : List ℕ) : Type 0 where
  pub less : c.start < c.end
  pub next : (h : Head q c.start c.end (state_in whole).flight) → (h.m.due ≡ t) × NextIs whole t (message h.earliest.place)

pub record ActsMessage (b : List ℕ) (q : List Flight) (c : Progress) (t : ℕ) : Type 0 where
  pub whole : List ℕ
  pub underway : Underway b q c whole
  pub delivers : Delivers q c t whole
  pub room : c.end + most_sent ≤ places
