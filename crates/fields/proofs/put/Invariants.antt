-- `fields::put` meets its contract. Assumes nothing.
use Prim.Native.Nat.{◌-◌}
use mathlib.Core.Path.{◌≡◌}
use Rattle.fields.specs.Fields.{put_at}
use Rattle.fields.proofs.put.Given as goal

abbrev pub invariant-loop-i : goal.invariant-loop-i
invariant-loop-i l = put_at l.initial.s l.at l.width l.x ≡ put_at l.s l.i (l.i-end - l.i) l.y
