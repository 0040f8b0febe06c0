-- Messages on their way out of a store and back. Assumes nothing.
use Rattle.std.specs.Prelude.{List, map, ◌≡◌, ℕ, ◌≤◌, length, take}
use Rattle.model.specs.Platform.{InFlight}
use Rattle.store.specs.Store.{state_in}
use Rattle.store.specs.Inside.{message_of}
use Rattle.store.specs.declared.Flight.{Flight}
use Rattle.event.specs.Ready.{Ready}
use Rattle.queue.specs.Rows.{places}
use Rattle.course.specs.Apart.{bare}

-- in places 0 to n stand these messages, in their own order
pub record Listed (q : List Flight) (n : ℕ) (flight : List InFlight) : Type 0 where
  pub size : length q ≡ places
  pub room : n ≤ places
  pub is : map message_of (take n q) ≡ flight

-- b is a store without its messages, and these are they
pub record Emptied (b : List ℕ) (flying : List Flight) (whole : List ℕ) : Type 0 where
  pub ready : Ready whole
  pub is : b ≡ bare whole
  pub listed : map message_of flying ≡ (state_in whole).flight
