-- `course::carry::take_out` meets its contract. Assumes nothing.
use Rattle.course.proofs.Carrying.{listed-apart}
use Rattle.course.specs.Apart.{bare}
use Rattle.course.proofs.carry.take_out.Goals as goal

pub returns : goal.returns
unfolding bare
returns c = listed-apart _ _ _ _ c.requires.held c.list-n.ensures c.sort.ensures _ c.clear_messages.ensures
