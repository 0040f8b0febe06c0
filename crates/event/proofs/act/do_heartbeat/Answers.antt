-- `event::act::do_heartbeat` meets its contract. Assumes nothing.
use mathlib.Core.Path.{◌∙◌}
use Rattle.std.proofs.lemmas.Result.{err_from_is_err_and}
use Rattle.event.proofs.Readiness.{ready-acting}
use Rattle.event.proofs.Doing.{beat-timer, timer-tick, timer-byte, timer-count, timer-turns, timer-refused, timer-done}
use native.Mathlib.Omega.{arith}
use Rattle.event.proofs.act.do_heartbeat.Goals as goal

pub heartbeat_turn-u-requires : goal.heartbeat_turn-u-requires
heartbeat_turn-u-requires c =
    let p = c.requires in
    let k = beat-timer _ p.ready _ _ p.next_is in
    record {
      acting = ready-acting _ p.ready;
      t_le_most_tick = (timer-tick k, k.place);
    }

pub overflow_add-message_count : goal.overflow_add-message_count
overflow_add-message_count c =
    let p = c.requires in
    let count = timer-count (beat-timer _ p.ready _ _ p.next_is) c.heartbeat_turn-u.ensures in
    omega (arith, c.message_count.ensures, p.ready.held.fits.counts.messages, count)

pub returns-in_err-room : goal.returns-in_err-room
returns-in_err-room c =
    let p = c.requires in
    let out = err_from_is_err_and c.from_residual.result c.from_residual.ensures.1 in
    rw (out.1, out.2, c.in_err-room.ensures.1) (timer-refused (beat-timer _ p.ready _ _ p.next_is) c.heartbeat_turn-u.ensures
    (omega (arith, c.in_err-room.ensures.0, c.message_count.ensures)))

pub heartbeat_deed-deed-requires : goal.heartbeat_deed-deed-requires
heartbeat_deed-deed-requires c =
    let p = c.requires in
    (ready-acting _ p.ready, (beat-timer _ p.ready _ _ p.next_is).place)

pub overflow_cast-x : goal.overflow_cast-x
overflow_cast-x c =
    let p = c.requires in
    omega (arith, timer-byte (beat-timer _ p.ready _ _ p.next_is))

pub take_turn-requires : goal.take_turn-requires
take_turn-requires c =
    let p = c.requires in
    timer-turns (beat-timer _ p.ready _ _ p.next_is) c.heartbeat_turn-u.ensures
    (omega (arith, c.in_ok-room.ensures, c.message_count.ensures))

pub returns : goal.returns
returns c =
    let p = c.requires in
    let k = beat-timer _ p.ready _ _ p.next_is in
    let d =
    timer-done k c.heartbeat_turn-u.ensures c.heartbeat_deed-deed.ensures
    (omega (arith, c.in_ok-room.ensures, c.message_count.ensures)) in
    (d.0, c.take_turn.ensures ∙ d.1)
