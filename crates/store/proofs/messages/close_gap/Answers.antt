-- `store::messages::close_gap` meets its contract. Assumes nothing.
use Rattle.std.proofs.Common.{◌∙◌}
use Rattle.store.specs.Gap.{closed, moved_down}
use Rattle.store.proofs.messages.close_gap.Goals as goal

pub returns : goal.returns
unfolding closed moved_down
returns c = c.clear.ensures ∙ rw c.copy_within.ensures.after
