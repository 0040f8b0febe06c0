-- `dispatcher::turns::event_left` meets its contract. Assumes nothing.
use mathlib.Core.Path.{ap, ◌∙◌}
use Rattle.std.specs.Prelude.{is_some}
use Rattle.dispatcher.specs.Dispatch.{event_left}
use Rattle.dispatcher.proofs.Alone.{some-left}
use Rattle.dispatcher.proofs.turns.event_left.Goals as goal

pub returns : goal.returns
unfolding event_left
returns c = c.is_some.ensures ∙ ap is_some c.next_event.ensures ∙ some-left _
