-- `course::turn::take_turn` meets its contract. Assumes nothing.
use Rattle.course.proofs.Parting.{apart-held, turn-place, turn_moved, turn-turns, turn-over}
use Rattle.course.proofs.turn.take_turn.Goals as goal

pub put_turn-requires : goal.put_turn-requires
put_turn-requires c =
    let p = c.requires in
    record {
      held = apart-held p.apart;
      t_le_most_tick = (p.turns.tick, turn-place _ _ _ _ _ _ c.args.u p.whole p.apart p.turns);
    }

pub send_all-requires : goal.send_all-requires
send_all-requires c =
    let p = c.requires in
    let u = c.args.u in
    let k = c.put_turn.ensures in
    record {
      whole = _;
      apart = turn_moved _ _ _ _ _ _ u p.whole p.apart p.turns _ k;
      turns = turn-turns _ _ _ _ _ _ u p.whole p.apart p.turns _ k;
      room = p.room;
    }

pub returns : goal.returns
returns c =
    let u = c.args.u in
    let k = c.put_turn.ensures in
    λ whole s r. turn-over _ _ _ _ _ _ u whole s r _ k _ _ c.send_all.ensures
