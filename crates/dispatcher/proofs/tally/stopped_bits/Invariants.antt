-- `dispatcher::tally::stopped_bits` meets its contract. Assumes nothing.
use Rattle.std.specs.Slice.Iter.{iter_rest}
use Rattle.dispatcher.proofs.Marks.{BitsFrom}
use Rattle.dispatcher.proofs.tally.stopped_bits.Given as goal

abbrev pub invariant-loop-tally : goal.invariant-loop-tally
invariant-loop-tally l = BitsFrom l.tallies (iter_rest l.tally-iterator.iter) l.sum
