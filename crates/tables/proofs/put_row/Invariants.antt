-- `tables::put_row`: a target takes at most four places, and the part stays as long as it is.
use Rattle.std.proofs.Common.{◌≡◌, ◌+◌, ◌*◌, ◌≤◌, length}
use Rattle.tables.proofs.put_row.Given as goal

abbrev pub invariant-loop-target : goal.invariant-loop-target
invariant-loop-target l =
    (l.out.out.ghost_name ≡ l.fn.out.out.ghost_name) × (length l.out.out.now ≡ length l.fn.out.out.now)
    × (l.out.at ≤ l.fn.out.at + 4 * l.target-index)
