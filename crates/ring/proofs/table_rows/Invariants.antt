-- `ring::table_rows` meets its contract. Assumes nothing.
use mathlib.Core.Path.{◌≡◌}
use mathlib.Core.Bool.{true}
use lib.ListN.{replicate}
use Rattle.std.specs.Prelude.{is_ok}
use Rattle.limits.specs.Limits.{most_nodes}
use Rattle.ring.specs.Ring.{row_size, none, numbers, table_answer, table_row}
use Rattle.ring.proofs.Rows.{filled}
use Rattle.ring.proofs.table_rows.Given as goal

abbrev pub invariant-loop-i : goal.invariant-loop-i
invariant-loop-i l =
    (is_ok (table_answer l.n l.d) ≡ true) × (l.ring ≡ numbers 0 l.n)
    × (l.row-items ≡ filled (table_row (numbers 0 l.n) l.d) (replicate row_size none) most_nodes l.i)
