-- `platform::write::put_numbers`: the rows that are left have room, and with them all are written.
use lib.ListN.{length, drop}
use Prim.Native.Nat.{◌+◌, ◌≤◌}
use Rattle.text.specs.declared.Writer.{Writer}
use Rattle.text.specs.Put.{Writes}
use Rattle.text.specs.Field.{field}
use Rattle.runfile.specs.Text.{rows_text}
use Rattle.store.specs.Store.{plan_in}
use Rattle.platform.proofs.write.put_numbers.Given as goal

abbrev pub invariant-loop-i : goal.invariant-loop-i
invariant-loop-i l =
    (l.out.at + length (rows_text field (drop l.i (plan_in l.store).ring)) ≤ length l.out.out.now)
    × ((v : Writer) → Writes l.out v (rows_text field (drop l.i (plan_in l.store).ring))
    → Writes l.fn.out v (rows_text field (plan_in l.store).ring))
