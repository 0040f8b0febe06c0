-- `event::act::do_watch` meets its contract. Assumes nothing.
use mathlib.Core.Path.{◌∙◌}
use Rattle.std.proofs.lemmas.Result.{err_from_is_err_and}
use Rattle.event.proofs.Readiness.{ready-acting}
use Rattle.event.proofs.Doing.{watch-timer, timer-tick, timer-byte, timer-count, timer-turns, timer-refused, timer-done}
use native.Mathlib.Omega.{arith}
use Rattle.event.proofs.act.do_watch.Goals as goal

pub watch_turn-u-requires : goal.watch_turn-u-requires
watch_turn-u-requires c =
    let p = c.requires in
    let k = watch-timer _ p.ready _ _ p.next_is in
    record {
      acting = ready-acting _ p.ready;
      t_le_most_tick = (timer-tick k, k.place);
    }

pub overflow_add-message_count : goal.overflow_add-message_count
overflow_add-message_count c =
    let p = c.requires in
    let count = timer-count (watch-timer _ p.ready _ _ p.next_is) c.watch_turn-u.ensures in
    omega (arith, c.message_count.ensures, p.ready.held.fits.counts.messages, count)

pub returns-in_err-room : goal.returns-in_err-room
returns-in_err-room c =
    let p = c.requires in
    let out = err_from_is_err_and c.from_residual.result c.from_residual.ensures.1 in
    rw (out.1, out.2, c.in_err-room.ensures.1) (timer-refused (watch-timer _ p.ready _ _ p.next_is) c.watch_turn-u.ensures
    (omega (arith, c.in_err-room.ensures.0, c.message_count.ensures)))

pub watch_deed-deed-requires : goal.watch_deed-deed-requires
watch_deed-deed-requires c =
    let p = c.requires in
    (ready-acting _ p.ready, (watch-timer _ p.ready _ _ p.next_is).place)

pub overflow_cast-x : goal.overflow_cast-x
overflow_cast-x c =
    let p = c.requires in
    omega (arith, timer-byte (watch-timer _ p.ready _ _ p.next_is))

pub take_turn-requires : goal.take_turn-requires
take_turn-requires c =
    let p = c.requires in
    timer-turns (watch-timer _ p.ready _ _ p.next_is) c.watch_turn-u.ensures
    (omega (arith, c.in_ok-room.ensures, c.message_count.ensures))

pub returns : goal.returns
returns c =
    let p = c.requires in
    let k = watch-timer _ p.ready _ _ p.next_is in
    let d =
    timer-done k c.watch_turn-u.ensures c.watch_deed-deed.ensures
    (omega (arith, c.in_ok-room.ensures, c.message_count.ensures)) in
    (d.0, c.take_turn.ensures ∙ d.1)
