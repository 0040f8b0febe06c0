-- What the test of unused bytes asks for and answers field by field. Number 7 itself is defined in the crate store. Assumes nothing.
use Rattle.std.specs.Prelude.{Bool, List, ℕ, ◌+◌, ◌*◌, ◌≤◌}
use Rattle.std.specs.List.{list_all, All}
use Rattle.store.specs.declared.layout.Field.{Field}
use Rattle.store.specs.Columns.{rest_zero}

-- a field in bytes of this length, with room for n numbers
pub record Roomy (n size : ℕ) (f : Field) : Type 0 where
  pub few : n ≤ f.places
  pub inside : f.at + f.width * f.places ≤ size

abbrev pub AllRoomy : List Field → (n size : ℕ) → Type 0
AllRoomy fs n size = All (Roomy n size) fs

-- the bytes of fields beyond the first n numbers of each are zero
unfoldable pub rests_zero : List ℕ → List Field → ℕ → Bool
rests_zero b fs n = list_all (λ f. rest_zero b f n) fs
