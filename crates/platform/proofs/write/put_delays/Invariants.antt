-- `platform::write::put_delays`: the rows that are left have room, and with them all are written.
use lib.ListN.{length, drop}
use Prim.Native.Nat.{◌+◌, ◌≤◌}
use Rattle.text.specs.declared.Writer.{Writer}
use Rattle.text.specs.Put.{Writes}
use Rattle.runfile.specs.Text.{delay_text, rows_text}
use Rattle.store.specs.Store.{plan_in}
use Rattle.platform.proofs.write.put_delays.Given as goal

abbrev pub invariant-loop-i : goal.invariant-loop-i
invariant-loop-i l =
    (l.out.at + length (rows_text delay_text (drop l.i (plan_in l.store).delays)) ≤ length l.out.out.now)
    × ((v : Writer) → Writes l.out v (rows_text delay_text (drop l.i (plan_in l.store).delays))
    → Writes l.fn.out v (rows_text delay_text (plan_in l.store).delays))
