-- `fields::is_zero`: the part is zero where what is left of it is.
use Prim.Native.Nat.{◌+◌, ◌*◌}
use mathlib.Core.Path.{◌≡◌}
use lib.Seq.{slice}
use Rattle.fields.specs.Fields.{zeros}
use Rattle.fields.proofs.is_zero.Given as goal

abbrev pub invariant-loop-i : goal.invariant-loop-i
invariant-loop-i l = zeros (slice l.from l.to l.s) ≡ zeros (slice (l.from + 8 * l.i) l.to l.s)
