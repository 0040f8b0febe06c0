-- What a step asks for once it has looked at crashes and messages. Assumes nothing.
use Rattle.std.specs.Prelude.{List, ℕ, suc, ◌+◌, ◌≤◌}
use Rattle.limits.specs.Limits.{most_sent}
use Rattle.model.specs.Range.{NotBefore}
use Rattle.store.specs.declared.Flight.{Flight}
use Rattle.store.specs.Store.{plan_in, state_in}
use Rattle.queue.specs.Rows.{places}
use Rattle.course.specs.declared.Progress.{Progress}
use Rattle.course.specs.Progress.{Underway}

-- crashes and messages are later than the tick that the run has come to, which is not after the end
pub record Quiet (c : Progress) (whole : List ℕ) : Type 0 where
  pub late : NotBefore (plan_in whole) (state_in whole) (suc c.bound) (suc c.bound) c.bound
  pub tick : c.bound ≤ (plan_in whole).end

pub record Waiting (b : List ℕ) (q : List Flight) (c : Progress) : Type 0 where
  pub whole : List ℕ
  pub underway : Underway b q c whole
  pub quiet : Quiet c whole
  pub room : c.end + most_sent ≤ places
