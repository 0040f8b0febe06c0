-- Any list of step and run calls on one store, as demand 3 takes it: what they leave, which numbers they answer, and how many events e they
-- do. Assumes nothing.
use Rattle.std.specs.Prelude.{◌≡◌, ◌≢◌, List, [], ◌∷◌, map, ℕ, leb, length}
use Rattle.plans.specs.Plan.{Plan}
use Rattle.model.specs.Platform.{events, step as step_of, run as run_of, SizedCall}
use Rattle.limits.specs.Limits.{most_next}
use Rattle.store.specs.Store.{plan_in, state_in, store_in_range}
use Rattle.limits.specs.Refusals.{answer_of}
use Rattle.platform.specs.Calls.{step, run, run_refusal}

-- ---- a list of calls

-- a step with a log part, whatever it holds; a run with a budget
pub data Call : Type 0 where
  a_step : List ℕ → Call
  a_run : ℕ → Call

-- what of a call counts for e: the length of a step's log part, a run's budget
unfoldable pub sized : Call → SizedCall
sized (a_step log) = step_of (length log)
sized (a_run budget) = run_of budget

-- the store that a call leaves
unfoldable pub store_after : Call → List ℕ → List ℕ
store_after (a_step log) store = (step store log).store
store_after (a_run budget) store = (run store budget).store

-- 'each call gets the store the last one left'
unfoldable pub store_after_all : List Call → List ℕ → List ℕ
store_after_all [] store = store
store_after_all (c ∷ cs) store = store_after_all cs (store_after c store)

-- the number that refuses a call, 0 where it is not refused
unfoldable pub refusal : Call → List ℕ → ℕ
refusal (a_step log) store = answer_of (step store log).answer
refusal (a_run budget) store = run_refusal (run store budget).answer

-- no call in the list answers a number
unfoldable pub NoneAnswers : ℕ → List Call → List ℕ → Type 0
NoneAnswers number [] store = Unit
NoneAnswers number (c ∷ cs) store = (refusal c store ≢ number) × NoneAnswers number cs (store_after c store)

-- ---- the events of a list of calls

-- e: 'a step not refused by 9 adds one, a run its budget, but neither goes past the last event up to the end tick nor does one that is
-- refused by 8'
unfoldable pub events_of : Plan → List Call → ℕ
events_of p cs = events p (map sized cs)

-- ---- a lent store: a call on one in range leaves one in range, but for the cap on the next number

pub record Kept (store left : List ℕ) : Type 0 where
  pub plan : plan_in left ≡ plan_in store
  pub in_range : store_in_range left ≡ leb (state_in left).next most_next
