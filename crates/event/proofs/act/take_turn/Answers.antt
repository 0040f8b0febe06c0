-- `event::act::take_turn` meets its contract. Assumes nothing.
use Rattle.event.proofs.Turning.{moved-turns, turn-taken}
use Rattle.event.proofs.act.take_turn.Goals as goal

pub send_all-requires : goal.send_all-requires
send_all-requires c =
    moved-turns _ _ _ _ c.requires _ c.put_turn.ensures

pub returns : goal.returns
returns c =
    turn-taken _ _ _ _ c.requires _ c.put_turn.ensures _ c.send_all.ensures
