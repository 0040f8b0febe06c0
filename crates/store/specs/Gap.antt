-- A gap in a list closed: what stands after it moves down, and zeros take the places at the end. Assumes nothing.
use Rattle.std.specs.Prelude.{ℕ, ◌+◌, ◌-◌, List, drop}
use Rattle.std.proofs.Math.Seq.{paste}
use Rattle.fields.specs.Fields.{cleared}

-- s with what stands from a + by up to e moved down to a
unfoldable pub moved_down : List ℕ → ℕ → ℕ → ℕ → List ℕ
moved_down s a by e = paste s a (drop (a + by) s) (e - (a + by))

-- the gap of `by` elements at a closed, of what ends at e
unfoldable pub closed : List ℕ → ℕ → ℕ → ℕ → List ℕ
closed s a by e = cleared (moved_down s a by e) (e - by) e
