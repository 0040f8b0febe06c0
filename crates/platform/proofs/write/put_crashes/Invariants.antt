-- `platform::write::put_crashes`: the rows that are left have room, and with them all are written.
use lib.ListN.{length, drop}
use Prim.Native.Nat.{◌+◌, ◌≤◌}
use Rattle.text.specs.declared.Writer.{Writer}
use Rattle.text.specs.Put.{Writes}
use Rattle.runfile.specs.Text.{crash_text, rows_text}
use Rattle.store.specs.Store.{plan_in}
use Rattle.platform.proofs.write.put_crashes.Given as goal

abbrev pub invariant-loop-i : goal.invariant-loop-i
invariant-loop-i l =
    (l.out.at + length (rows_text crash_text (drop l.i (plan_in l.store).crashes)) ≤ length l.out.out.now)
    × ((v : Writer) → Writes l.out v (rows_text crash_text (drop l.i (plan_in l.store).crashes))
    → Writes l.fn.out v (rows_text crash_text (plan_in l.store).crashes))
