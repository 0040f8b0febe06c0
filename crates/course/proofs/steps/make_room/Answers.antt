-- `course::steps::make_room` meets its contract. Assumes nothing.
use Rattle.course.proofs.Ongoings.{room_moved}
use Rattle.course.proofs.steps.make_room.Goals as goal

pub returns : goal.returns
returns c = λ b whole k. room_moved b _ _ c.args.c.now whole k c.copy_within.ensures.after
