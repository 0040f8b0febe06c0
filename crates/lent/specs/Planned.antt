-- What the tests of a lent store's state ask for and answer among themselves. Number 7 itself is defined in the crate store. Assumes nothing.
use Rattle.std.specs.Prelude.{true, List, ◌≡◌, ℕ, ◌≤◌}
use Rattle.plans.specs.Plan.{plan_test}
use Rattle.store.specs.Store.{plan_in}
use Rattle.store.specs.Inside.{Sized}

-- bytes that can be read as a store, whose plan a run file may hold, and a tick up to its end
pub record Planned (b : List ℕ) (t : ℕ) : Type 0 where
  pub sized : Sized b
  pub plan : plan_test (plan_in b) ≡ true
  pub tick : t ≤ (plan_in b).end
