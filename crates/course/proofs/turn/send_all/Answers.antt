-- `course::turn::send_all` meets its contract. Assumes nothing.
use Prim.Native.Nat.{◌<◌}
use mathlib.Core.Path.{refl}
use Rattle.course.proofs.Parting.{apart-held, sent-starts, sent-plan, sent-number, sent-free, sent-rising, sent-turn, messages-count, message-is}
use borrow.Author.Rules.{rules}
use native.Mathlib.Omega.{arith}
use Rattle.course.proofs.turn.send_all.Goals as goal

pub loop-i-init : goal.loop-i-init
loop-i-init c = (refl, refl, λ whole s r. sent-starts whole _ _ _ _ _ _ _ s)

pub stamp-f-requires : goal.stamp-f-requires
stamp-f-requires c =
    let p = c.requires in
    let s = c.loop-i.invariant.2 p.whole p.apart p.turns in
    let less : c.loop-i.i < c.args.u.count =
    omega (arith, c.loop-i-test.true, messages-count p.whole _ _ c.args.u p.turns _ c.messages-m-items.ensures) in
    let n = sent-number p.whole _ _ c.args.u p.turns _ _ _ _ _ s less in
    record {
      held = (apart-held s.apart, sent-plan p.whole _ _ c.args.u p.turns _ _ _ _ _ s);
      t_le_most_tick = (p.turns.tick, n);
    }

pub push-requires : goal.push-requires
push-requires c =
    let p = c.requires in
    let s = c.loop-i.invariant.2 p.whole p.apart p.turns in
    let less : c.loop-i.i < c.args.u.count =
    omega (arith, c.loop-i-test.true, messages-count p.whole _ _ c.args.u p.turns _ c.messages-m-items.ensures) in
    record {
      free = sent-free p.whole _ _ c.args.u p.turns _ _ _ _ _ s less p.room;
      rising = sent-rising p.whole _ _ c.args.u p.turns _ _ _ _ _ s less p.room;
    }

pub loop-i-preserved : goal.loop-i-preserved
loop-i-preserved c =
    let l = c.loop-i in
    let ms = c.messages-m-items.ensures in
    let f = c.stamp-f.ensures in
    let room = c.requires.room in (
      search rules,
      search rules,
      λ whole s t.
          let less : l.i < c.args.u.count = omega (arith, c.loop-i-test.true, messages-count whole _ _ c.args.u t _ ms) in
          sent-turn whole _ _ _ t _ _ _ _ _ (l.invariant.2 whole s t) less _ _ (message-is whole _ _ c.args.u t _ ms l.i _ c.loop-i-test.true) _
          f.result_value room _ _ f.s_after (rw c.push.ensures),
    )
