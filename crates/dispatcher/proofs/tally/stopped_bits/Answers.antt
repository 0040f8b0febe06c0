-- `dispatcher::tally::stopped_bits` meets its contract. Assumes nothing.
use Rattle.std.proofs.Common.{◌≡◌, arith}
use Rattle.std.specs.Slice.Iter.{iter_rest}
use Rattle.dispatcher.proofs.Marks.{bits_none, byte-small, bits_fit, bits-next, bits-all}
use Rattle.dispatcher.proofs.tally.stopped_bits.Goals as goal

pub loop-tally-init : goal.loop-tally-init
loop-tally-init c =
    let e : iter_rest c.into_iter-tally-iterator.result.iter ≡ c.args.tallies.now = cc in
    rw e (bits_none c.args.tallies.now c.told-tallies)

pub overflow_mul-sum : goal.overflow_mul-sum
overflow_mul-sum c = omega (arith, bits_fit _ _ _ _ (rw c.in-Some.ensures.steps at c.loop-tally.invariant))

pub overflow_add-sum : goal.overflow_add-sum
overflow_add-sum c = omega (arith, byte-small _ c.from.ensures, bits_fit _ _ _ _ (rw c.in-Some.ensures.steps at c.loop-tally.invariant))

pub loop-tally-preserved : goal.loop-tally-preserved
loop-tally-preserved c = bits-next _ _ _ _ (rw c.in-Some.ensures.steps at c.loop-tally.invariant) c.from.ensures

pub returns : goal.returns
returns c = bits-all _ _ _ c.in-None.ensures.steps.0 c.loop-tally.invariant
