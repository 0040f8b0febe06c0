-- What an event asks of a store, and gives back: a store that tries lead to. Assumes nothing.
use Rattle.std.specs.Prelude.{true, List, ◌≡◌, ℕ}
use Rattle.plans.specs.Plan.{plan_test}
use Rattle.model.specs.Platform.{State, steps}
use Rattle.model.specs.Range.{InRange}
use Rattle.store.specs.Store.{plan_in, state_in}
use Rattle.store.specs.Inside.{Held}

-- The bytes are a store, a run file may hold its plan, and its state is what some number of tries leave of a state in range. So no
-- range has to be tested again, and the next message number is far below what its field holds: a tick adds no more than so many.
pub record Ready (b : List ℕ) : Type 0 where
  pub held : Held b
  pub plan : plan_test (plan_in b) ≡ true
  pub from : State
  pub in_range : InRange (plan_in b) from
  pub tries : ℕ
  pub is : state_in b ≡ steps (plan_in b) tries from
