-- `dispatcher::turns::at_first` meets its contract. Assumes nothing.
use Rattle.std.proofs.Common.{◌≡◌}
use Rattle.std.specs.Slice.Iter.{chunks_exact_rest, chunks_exact_size}
use Rattle.limits.specs.Limits.{store_size}
use Rattle.dispatcher.proofs.Parts.{Looking}
use Rattle.dispatcher.proofs.turns.at_first.Given as goal

abbrev pub invariant-loop-i : goal.invariant-loop-i
invariant-loop-i l =
    (goal.iterator-loop-i).can_next l.i-iterator × (chunks_exact_size l.i-iterator.iter ≡ store_size)
    × Looking l.part l.i-iterator.count (chunks_exact_rest l.i-iterator.iter) l.tallies
