-- `fields::clear`: the rounds so far are cleared.
use mathlib.Core.Path.{◌≡◌}
use Prim.Native.Nat.{◌+◌, ◌*◌}
use lib.ListN.{length}
use Rattle.fields.specs.Fields.{cleared}
use Rattle.fields.proofs.clear.Given as goal

abbrev pub invariant-loop-i : goal.invariant-loop-i
invariant-loop-i l = (length l.s ≡ length l.fn.s) × (l.s ≡ cleared l.fn.s l.from (l.from + 8 * l.i))
