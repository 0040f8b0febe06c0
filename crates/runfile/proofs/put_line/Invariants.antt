-- `runfile::put_line`: the fields that are left have room, and with them the line is written.
use lib.ListN.{length, drop}
use Prim.Native.Nat.{◌+◌, ◌≤◌}
use Rattle.text.specs.declared.Writer.{Writer}
use Rattle.text.specs.Put.{Writes}
use Rattle.runfile.specs.Text.{fields_text, line_text}
use Rattle.runfile.proofs.put_line.Given as goal

abbrev pub invariant-loop-number : goal.invariant-loop-number
invariant-loop-number l =
    (l.out.at + length (fields_text (drop l.number-index l.numbers)) ≤ length l.out.out.now)
    × ((v : Writer) → Writes l.out v (fields_text (drop l.number-index l.numbers)) → Writes l.fn.out v (line_text l.letter l.numbers))
