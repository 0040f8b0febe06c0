-- `course::act::do_message` meets its contract. Assumes nothing.
use Rattle.course.proofs.Parting.{apart-acting}
use Rattle.course.proofs.Looking.{apart-dead}
use Rattle.course.proofs.Deliveries.{delivery-tick, delivery-place, delivery-sender, delivery-subject, delivery-settling, delivery-taken, delivery-down}
use mathlib.Core.Path.{refl}
use Rattle.std.proofs.lemmas.Result.{err_from_is_err_and}
use Rattle.course.proofs.act.do_message.Goals as goal

pub message_turn-u-requires : goal.message_turn-u-requires
message_turn-u-requires c =
    let p = c.requires in
    let k = p.underway in
    let t = delivery-tick _ _ c.args.c.now c.args.t p.whole k p.delivers _ refl in
    let to = delivery-place _ _ c.args.c.now c.args.t p.whole k p.delivers _ refl in
    let from = delivery-sender _ _ c.args.c.now c.args.t p.whole k p.delivers _ refl in
    let of = delivery-subject _ _ c.args.c.now c.args.t p.whole k p.delivers _ refl in
    record {
      acting = apart-acting k.apart k.ready;
      dead_value = apart-dead k.apart _ k.dead;
      t_le_most_tick = (t, to, from, of);
    }

pub message_deed-deed-requires : goal.message_deed-deed-requires
message_deed-deed-requires c =
    let p = c.requires in
    let k = p.underway in
    (apart-acting k.apart k.ready, delivery-place _ _ c.args.c.now c.args.t p.whole k p.delivers _ refl)

pub settle-requires : goal.settle-requires
settle-requires c =
    let p = c.requires in
    let u = c.message_turn-u in
    delivery-settling _ _ c.args.c.now c.args.t p.whole p.underway p.delivers _ refl u.result u.ensures p.room

pub returns : goal.returns
returns c =
    λ whole k dv.
    let u = c.message_turn-u in
    delivery-taken _ _ c.args.c.now c.args.t whole k dv _ refl u.result u.ensures
    _ c.is_listed.ensures _ c.message_deed-deed.ensures _ _ _ c.in_ok-settle.ensures

pub returns-in_err-settle : goal.returns-in_err-settle
returns-in_err-settle c =
    λ whole k dv.
    let u = c.message_turn-u in
    let p = err_from_is_err_and c.from_residual.result c.from_residual.ensures.1 in
    rw (p.1, p.2)
    (delivery-down _ _ c.args.c.now c.args.t whole k dv _ refl u.result u.ensures
    _ c.is_listed.ensures _ c.message_deed-deed.ensures _ _ _ _ c.in_err-settle.ensures)
