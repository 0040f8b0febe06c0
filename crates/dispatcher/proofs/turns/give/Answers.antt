-- `dispatcher::turns::give` meets its contract. Assumes nothing.
use native.Mathlib.Omega.{arith}
use Rattle.dispatcher.proofs.Giving.{turning-first, ends-used, ends-none, turn_inside, turn-ready, turn-fits, turning-on}
use Rattle.dispatcher.proofs.turns.give.Goals as goal

pub loop-given-init : goal.loop-given-init
loop-given-init c = turning-first _ _ _ _ _ c.requires.whole.0 c.requires.whole.1 c.requires.le_each c.at_first-tallies.ensures

pub returns-in_default : goal.returns-in_default
returns-in_default c =
    let r = ends-none c.loop-given.invariant c.next_able.ensures c.in_default.not-Some c.answer.ensures in record { value = r.0; part_after = r.1 }

pub overflow_mul-start : goal.overflow_mul-start
overflow_mul-start c =
    let w = c.loop-given.invariant in
    omega (arith, turn_inside w c.next_able.ensures c.loop-given-test.true c.in-Some.is, w.whole.most)

pub overflow_add-end : goal.overflow_add-end
overflow_add-end c =
    let w = c.loop-given.invariant in
    omega (arith, turn_inside w c.next_able.ensures c.loop-given-test.true c.in-Some.is, w.whole.most)

pub slice_bounds-run_ready-end : goal.slice_bounds-run_ready-end
slice_bounds-run_ready-end c =
    let w = c.loop-given.invariant in
    omega (arith, turn_inside w c.next_able.ensures c.loop-given-test.true c.in-Some.is, w.gives.size)

pub run_ready-ran-requires : goal.run_ready-ran-requires
run_ready-ran-requires c = turn-ready c.loop-given.invariant c.next_able.ensures c.loop-given-test.true c.in-Some.is

pub after-requires : goal.after-requires
after-requires c =
    turn-fits c.loop-given.invariant c.next_able.ensures c.loop-given-test.true c.in-Some.is c.run_ready-ran.ensures.value

pub loop-given-preserved : goal.loop-given-preserved
loop-given-preserved c =
    let r = c.run_ready-ran.ensures in
    turning-on c.loop-given.invariant c.next_able.ensures c.loop-given-test.true c.in-Some.is r.value r.store_after c.after.ensures

pub returns : goal.returns
returns c =
    let r = ends-used c.loop-given.invariant (omega arith) (omega arith) c.answer-2.ensures in record { value = r.0; part_after = r.1 }
