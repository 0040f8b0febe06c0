-- `platform::advance::after_budget` meets its contract. Assumes nothing.
use mathlib.Core.Path.{sym, ◌∙◌}
use Rattle.platform.proofs.Running.{some-remains, none-remains}
use Rattle.platform.proofs.advance.after_budget.Goals as goal

pub returns-in-Some : goal.returns-in-Some
returns-in-Some c = some-remains _ _ (sym c.in-Some.is ∙ c.next_event.ensures)

pub returns-in-None : goal.returns-in-None
returns-in-None c = none-remains _ _ (sym c.in-None.is ∙ c.next_event.ensures)
