-- What an accepted file plans. Assumes nothing.
use Rattle.std.specs.Prelude.{◌≡◌, List, ℕ}
use Rattle.plans.specs.Plan.{Plan, start_plan}
use Rattle.runfile.specs.File.{FileAnswer, accepted, file_of, turned_down}

-- a refused file plans nothing
unfoldable pub planned : FileAnswer → Plan
planned (accepted p) = p
planned (turned_down refusal line) = start_plan 0 0 0 0 0

abbrev pub plan_of : List ℕ → Plan
plan_of file = planned (file_of file)

abbrev pub Accepts : List ℕ → Type 0
Accepts file = file_of file ≡ accepted (plan_of file)
