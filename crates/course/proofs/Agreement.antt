-- The two ways of finding and doing an event agree, for every store that is ready. Assumes nothing.
use mathlib.Core.List.{List}
use mathlib.Core.Path.{◌≡◌, sym, subst, ◌∙◌}
use Prim.Native.Nat.{ℕ}
use Rattle.std.specs.Prelude.{Option as Maybe, Result}
use Rattle.limits.specs.declared.Refusal.{Refusal}
use Rattle.model.specs.declared.Deed.{Deed}
use Rattle.store.specs.declared.Flight.{Flight}
use Rattle.event.specs.Event.{next_answer, store_left}
use Rattle.course.specs.declared.Progress.{Progress}
use Rattle.course.specs.Progress.{Underway, Agrees}

-- what a step does to a store: it answers `happened` and leaves `left` (the promise of `event::do_event`)
pub record ByStep (whole : List ℕ) (happened : Result (Maybe Deed) Refusal) (left : List ℕ) : Type 0 where
  pub answer : happened ≡ next_answer whole
  pub store : left ≡ store_left whole

-- Where a run's store and queue stand for a whole store, the run's next event (`Agrees`, the promise of `course::next`) is answered as a step
-- on the whole store answers it, and what the run then has stands for the store that the step leaves.
pub agreement : (whole : List ℕ) (happened : Result (Maybe Deed) Refusal) (left : List ℕ) → ByStep whole happened left
    → (r : Result (Maybe Deed) Refusal) (b : List ℕ) (q : List Flight) (d : Progress) → Agrees whole r b q d → (r ≡ happened) × Underway b q d left
agreement whole happened left s r b q d g = (g.answer ∙ sym s.answer, subst (Underway b q d) (sym s.store) g.underway)
