-- `fields::get` meets its contract. Assumes nothing.
use Prim.Native.Nat.{◌^◌, ◌<◌}
use mathlib.Core.Path.{◌≡◌}
use mathlib.Core.List.{map, reverse}
use lib.ListN.{length}
use Rattle.fields.specs.Fields.{value}
use Rattle.fields.proofs.get.Given as goal

abbrev pub invariant-loop-b : goal.invariant-loop-b
invariant-loop-b l =
    (goal.iterator-loop-b).can_next l.b-iterator × (goal.iterator-loop-b).is_finite l.b-iterator
    × (l.x ≡ value (reverse (map (λ y. y.now) l.yielded))) × (l.x < 256 ^ length l.yielded)
