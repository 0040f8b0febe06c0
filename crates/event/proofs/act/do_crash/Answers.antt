-- `event::act::do_crash` meets its contract. Assumes nothing.
use Rattle.event.proofs.Readiness.{ready-acting}
use Rattle.event.proofs.Doing.{event-tick, crash-place, crash-done}
use Rattle.event.proofs.act.do_crash.Goals as goal

pub crash-requires : goal.crash-requires
crash-requires c =
    record {
      acting = ready-acting _ c.requires.ready;
      t_le_most_tick = (event-tick _ c.requires.ready _ _ c.requires.next_is, crash-place _ c.requires.ready _ _ c.requires.next_is);
    }

pub returns : goal.returns
returns c =
    let k = c.crash in
    crash-done _ c.requires.ready _ _ c.requires.next_is _ _ k.ensures.value k.ensures.s_after
