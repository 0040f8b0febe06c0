-- `event::act::do_message` meets its contract. Assumes nothing.
use Prim.Native.Nat.{◌+◌, ◌-◌, ◌≤◌}
use lib.ListN.{length}
use Rattle.limits.specs.Limits.{most_in_flight}
use Rattle.store.specs.Store.{state_in}
use mathlib.Core.Path.{◌∙◌}
use Rattle.event.proofs.Readiness.{held-sized, ready-crashes, ready-acting}
use Rattle.event.proofs.Doing.{event-tick, message-here, message-place, message-sender, message-subject, message-count, message-turns}
use Rattle.std.proofs.lemmas.Result.{err_from_is_err_and}
use Rattle.event.proofs.Doing.{turn-of, message-refused, rest-room, message-done, taken-left}
use native.Mathlib.Omega.{arith}
use Rattle.event.proofs.act.do_message.Goals as goal

pub message_at-m-requires : goal.message_at-m-requires
message_at-m-requires c =
    record {
      sized = held-sized _ c.requires.ready.held;
      i_in_bounds = message-here _ c.requires.ready _ _ c.requires.next_is;
    }

pub crashed_list-dead-requires : goal.crashed_list-dead-requires
crashed_list-dead-requires c = let r = ready-crashes _ c.requires.ready in record { sized = r.0; s_value = r.1.0; s_in_bounds = r.1.1 }

pub message_turn-u-requires : goal.message_turn-u-requires
message_turn-u-requires c =
    let m = c.message_at-m in
    let t = event-tick _ c.requires.ready _ _ c.requires.next_is in
    let to = message-place _ c.requires.ready _ _ c.requires.next_is _ m.ensures in
    let from = message-sender _ c.requires.ready _ _ c.requires.next_is _ m.ensures in
    let of = message-subject _ c.requires.ready _ _ c.requires.next_is _ m.ensures in
    record {
      acting = ready-acting _ c.requires.ready;
      dead_value = c.crashed_list-dead.ensures;
      t_le_most_tick = (t, to, from, of);
    }

pub overflow_sub-message_count : goal.overflow_sub-message_count
overflow_sub-message_count c =
    omega (arith, c.message_count.ensures, message-here _ c.requires.ready _ _ c.requires.next_is)

pub overflow_add-message_count : goal.overflow_add-message_count
overflow_add-message_count c =
    let m = c.message_at-m in
    let u = c.message_turn-u in
    let is = u.ensures ∙ turn-of _ c.requires.ready _ _ c.requires.next_is _ m.ensures in
    let k = message-count _ c.requires.ready _ _ c.requires.next_is _ m.ensures _ is in
    omega (arith, c.message_count.ensures, c.requires.ready.held.fits.counts.messages, k)

pub returns-in_err-room : goal.returns-in_err-room
returns-in_err-room c =
    let p = c.requires in
    let m = c.message_at-m in
    let is = c.message_turn-u.ensures ∙ turn-of _ p.ready _ _ p.next_is _ m.ensures in
    let out = err_from_is_err_and c.from_residual.result c.from_residual.ensures.1 in
    rw (out.1, out.2, c.in_err-room.ensures.1) (message-refused _ p.ready _ _ p.next_is _ m.ensures _ is
    (omega (arith, c.in_err-room.ensures.0, c.message_count.ensures)))

pub message_deed-deed-requires : goal.message_deed-deed-requires
message_deed-deed-requires c =
    (ready-acting _ c.requires.ready, message-place _ c.requires.ready _ _ c.requires.next_is _ c.message_at-m.ensures)

pub take_message-requires : goal.take_message-requires
take_message-requires c =
    record {
      held = c.requires.ready.held;
      i_in_bounds = message-here _ c.requires.ready _ _ c.requires.next_is;
    }

pub take_turn-requires : goal.take_turn-requires
take_turn-requires c =
    let u = c.message_turn-u in
    let m = c.message_at-m in
    let is = u.ensures ∙ turn-of _ c.requires.ready _ _ c.requires.next_is _ m.ensures in
    message-turns _ c.requires.ready _ _ c.requires.next_is _ m.ensures _ is (omega (arith, c.message_count.ensures, c.in_ok-room.ensures))
    _ c.take_message.ensures

pub returns : goal.returns
returns c =
    let u = c.message_turn-u in
    let m = c.message_at-m in
    let is = u.ensures ∙ turn-of _ c.requires.ready _ _ c.requires.next_is _ m.ensures in
    let room : length (state_in c.args.s.now).flight - 1 + u.result.count ≤ most_in_flight =
    omega (arith, c.message_count.ensures, c.in_ok-room.ensures) in
    let k = rest-room _ c.requires.ready _ _ c.requires.next_is _ m.ensures _ is room _ c.take_message.ensures in
    let listed = c.is_listed.ensures in
    let line = c.message_deed-deed.ensures in
    let d = message-done _ c.requires.ready _ _ c.requires.next_is _ m.ensures _ is _ _ c.crashed_list-dead.ensures listed _ line k in
    let left = taken-left _ c.requires.ready _ _ c.requires.next_is _ m.ensures _ is room _ c.take_message.ensures in
    (d.0, left _ c.take_turn.ensures ∙ d.1)
