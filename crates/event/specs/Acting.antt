-- What the parts of an event ask of a store that need not hold the messages in flight, which may stand in the store or beside it, and the
-- message that one of them makes. Assumes nothing.
use Rattle.std.specs.Prelude.{true, List, ◌≡◌, ℕ, ◌+◌, ◌≤◌, ◌<◌, length}
use Rattle.node.specs.declared.Message.{Message}
use Rattle.plans.specs.Plan.{Plan, plan_test}
use Rattle.model.specs.Platform.{InFlight, State, delay_of, node_of}
use Rattle.store.specs.Store.{plan_in, state_in}
use Rattle.store.specs.Inside.{Held, with_message, number_taken}

-- the bytes are a store, a run file may hold its plan, no more crashes are done than planned, and each node observes one of the ring
pub record Acting (b : List ℕ) : Type 0 where
  pub held : Held b
  pub plan : plan_test (plan_in b) ≡ true
  pub done : (state_in b).done ≤ length (plan_in b).crashes
  pub emitter : (j : ℕ) → j < (plan_in b).n → (node_of (state_in b) j).emitter < (plan_in b).n

-- a message that node x sends at tick t with number k
unfoldable pub stamped : Plan → (k t x : ℕ) → Message → InFlight
stamped p k t x m = record { number = k; kind = m.kind; from = x; to = m.to; subject = m.subject; due = t + delay_of p k; list = m.list }

-- it joins those in flight, with the next number
unfoldable pub joined : Plan → State → (t x : ℕ) → Message → State
joined p s t x m = with_message (number_taken s) (stamped p s.next t x m)
