-- `dispatcher::dispatch` meets its contract. Assumes nothing.
use Rattle.std.proofs.Common.{arith}
use Rattle.fields.proofs.Answers.{fails, holds}
use Rattle.dispatcher.proofs.Parts.{lent-ready}
use Rattle.dispatcher.proofs.Answering.{under, over, inside, bad-part, bad-turn, not-whole, one-bad, all-good, whole_part}
use Rattle.dispatcher.proofs.dispatch.Goals as goal
use Rattle.dispatcher.proofs.dispatch.Goals.{then-size-lt1-via-then-size-lt1, then-size-lt1-via-else-size-lt1+then-size}
use Rattle.dispatcher.proofs.dispatch.Goals.{then-each-lt1-via-then-each-lt1, then-each-lt1-via-else-each-lt1+then-each-gt-MOST_TURN}
use Rattle.dispatcher.proofs.dispatch.Goals.{then-size-ne0-via-then-size-ne0, then-size-ne0-via-else-size-ne0+then-not-all_in_range}

pub returns-then-size-lt1 : goal.returns-then-size-lt1
returns-then-size-lt1 c =
    let r = bad-part c.args.part.now c.args.each c.args.turns (elim c.then-size-lt1.branch [
      | then-size-lt1-via-then-size-lt1 w ↦ under _ _ _ w.if-size-lt1.true
      | then-size-lt1-via-else-size-lt1+then-size w ↦ over _ _ _ w.if-size.true
    ]) in
    record { value = r.value; part_after = r.part_after }

pub returns-then-each-lt1 : goal.returns-then-each-lt1
returns-then-each-lt1 c =
    let r = bad-turn c.args.part.now c.args.each c.args.turns (inside _ _ _ c.if-size-lt1.false c.if-size.false) (elim c.then-each-lt1.branch [
      | then-each-lt1-via-then-each-lt1 w ↦ under _ _ _ w.if-each-lt1.true
      | then-each-lt1-via-else-each-lt1+then-each-gt-MOST_TURN w ↦ over _ _ _ w.if-each-gt-MOST_TURN.true
    ]) in
    record { value = r.value; part_after = r.part_after }

pub returns-then-size-ne0 : goal.returns-then-size-ne0
returns-then-size-ne0 c =
    let size = inside _ _ _ c.if-size-lt1.false c.if-size.false in
    let turn = inside _ _ _ c.if-each-lt1.false c.if-each-gt-MOST_TURN.false in
    elim c.then-size-ne0.branch [
      | then-size-ne0-via-then-size-ne0 w ↦
          let r = not-whole c.args.part.now c.args.each c.args.turns size turn w.if-size-ne0.true in record { value = r.value; part_after = r.part_after }
      | then-size-ne0-via-else-size-ne0+then-not-all_in_range w ↦
          let r = one-bad c.args.part.now c.args.each c.args.turns size turn (omega (arith, w.if-size-ne0.false))
          (fails w.all_in_range.ensures w.if-not-all_in_range.true-raw) in record { value = r.value; part_after = r.part_after }
    ]

pub give-requires : goal.give-requires
give-requires c =
    let w = whole_part c.args.part.now c.if-size-lt1.false c.if-size.false (omega (arith, c.if-size-ne0.false)) in record {
      whole = (w, lent-ready _ _ w (λ i. (c.slice_known-1.given i).fits) (holds c.all_in_range.ensures c.if-not-all_in_range.false-raw));
      le_each = c.if-each-lt1.false;
    }

pub returns : goal.returns
returns c =
    let r = all-good _ _ _ (inside _ _ _ c.if-size-lt1.false c.if-size.false) (inside _ _ _ c.if-each-lt1.false c.if-each-gt-MOST_TURN.false)
    (omega (arith, c.if-size-ne0.false)) (holds c.all_in_range.ensures c.if-not-all_in_range.false-raw) c.give.ensures.value c.give.ensures.part_after in
    record { value = r.value; part_after = r.part_after }
