-- `tables::put_table`: a row takes at most 24 places after the answer's, and the part stays as long as it is.
use Rattle.std.proofs.Common.{◌≡◌, ◌+◌, ◌*◌, ◌≤◌, length}
use Rattle.tables.proofs.put_table.Given as goal

abbrev pub invariant-loop-row : goal.invariant-loop-row
invariant-loop-row l =
    (l.out.out.ghost_name ≡ l.initial.out.out.ghost_name) × (length l.out.out.now ≡ 1557) × (l.out.at ≤ 20 + 24 * l.row-index)
