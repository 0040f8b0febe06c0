-- `course::act::do_watch` meets its contract. Assumes nothing.
use Rattle.event.proofs.Doing.{watch-timer, timer-byte}
use Rattle.course.proofs.Events.{timer-asks, timer-settling, timer-taken, timer-down}
use Rattle.std.proofs.lemmas.Result.{err_from_is_err_and}
use native.Mathlib.Omega.{arith}
use Rattle.course.proofs.act.do_watch.Goals as goal

pub watch_turn-u-requires : goal.watch_turn-u-requires
watch_turn-u-requires c =
    let p = c.requires in
    let k = p.underway in
    let r = timer-asks k (watch-timer _ k.ready _ _ p.next) in record { acting = r.0; t_le_most_tick = r.1 }

pub watch_deed-deed-requires : goal.watch_deed-deed-requires
watch_deed-deed-requires c =
    let p = c.requires in
    let k = p.underway in
    let asks = timer-asks k (watch-timer _ k.ready _ _ p.next) in
    (asks.0, asks.1.1)

pub overflow_cast-x : goal.overflow_cast-x
overflow_cast-x c =
    let p = c.requires in
    omega (arith, timer-byte (watch-timer _ p.underway.ready _ _ p.next))

pub settle-requires : goal.settle-requires
settle-requires c =
    let p = c.requires in
    let k = p.underway in
    timer-settling k (watch-timer _ k.ready _ _ p.next) c.watch_turn-u.ensures p.room

pub returns : goal.returns
returns c =
    λ whole k next.
    timer-taken k (watch-timer whole k.ready _ _ next) c.watch_turn-u.ensures c.watch_deed-deed.ensures _ _ _ c.in_ok-settle.ensures

pub returns-in_err-settle : goal.returns-in_err-settle
returns-in_err-settle c =
    λ whole k next.
    let p = err_from_is_err_and c.from_residual.result c.from_residual.ensures.1 in
    rw (p.1, p.2)
    (timer-down k (watch-timer whole k.ready _ _ next) c.watch_turn-u.ensures c.watch_deed-deed.ensures _ _ _ _ c.in_err-settle.ensures)
