-- `event::act::send_all` meets its contract. Assumes nothing.
use Rattle.std.proofs.Common.{◌<◌, ◌≤◌, ◌≡◌, length, take, arith, ap, List, get_or, ◌∙◌}
use Rattle.std.proofs.lemmas.List.{get_or-take}
use Rattle.node.specs.declared.Message.{Message}
use Rattle.node.specs.declared.Turned.{Turned}
use Rattle.limits.specs.Limits.{most_sent}
use lib.ListN.{length-take}
use Rattle.event.proofs.Turning.{sending-starts, sending-held, sending-test, sending-number, sending-next}
use Rattle.event.proofs.Turning.{stamp-held, stamp-room}
use Rattle.event.proofs.act.send_all.Goals as goal

-- as many messages as the turn counts
count-sent : (u : Turned) → length u.sent ≡ most_sent → u.count ≤ most_sent → length (take u.count u.sent) ≡ u.count
count-sent u full few = omega (arith, length-take u.count u.sent)

pub loop-m-init : goal.loop-m-init
loop-m-init c = sending-starts c.args.s.now c.args.t c.args.x c.args.u c.requires.held

pub stamp-f-requires : goal.stamp-f-requires
stamp-f-requires c =
    let l = c.loop-m in
    let less : l.m-index < c.args.u.count = omega (arith, count-sent c.args.u c.requires.full c.requires.few, ap length c.messages-m-items.ensures) in
    record {
      held = (
        sending-held c.args.s.now c.args.t c.args.x c.args.u c.requires l.m-index l.s l.invariant,
        sending-test c.args.s.now c.args.t c.args.x c.args.u c.requires l.m-index l.s l.invariant,
      );
      t_le_most_tick = (c.requires.tick, sending-number c.args.s.now c.args.t c.args.x c.args.u c.requires l.m-index l.s l.invariant less);
    }

pub put_message-requires : goal.put_message-requires
put_message-requires c =
    let l = c.loop-m in
    let less : l.m-index < c.args.u.count = omega (arith, count-sent c.args.u c.requires.full c.requires.few, ap length c.messages-m-items.ensures) in
    let e = c.stamp-f.ensures.s_after in
    record {
      held = stamp-held c.args.s.now c.args.t c.args.x c.args.u c.requires l.m-index l.s l.invariant less _ e;
      s_len_bound = stamp-room c.args.s.now c.args.t c.args.x c.args.u c.requires l.m-index l.s l.invariant less _ e;
    }

pub loop-m-preserved : goal.loop-m-preserved
loop-m-preserved c =
    let l = c.loop-m in
    let less : l.m-index < c.args.u.count = omega (arith, count-sent c.args.u c.requires.full c.requires.few, ap length c.messages-m-items.ensures) in
    let e = c.stamp-f.ensures in
    let none : Message = record { kind = 0; to = 0; subject = 0; list = 0 } in
    let item = ap (λ (ms : List Message). get_or ms l.m-index none) c.messages-m-items.ensures in
    sending-next c.args.s.now c.args.t c.args.x c.args.u c.requires l.m-index l.s l.invariant less _ e.s_after none _
    (item ∙ get_or-take c.args.u.count c.args.u.sent l.m-index none less) _ e.result_value _ c.put_message.ensures
