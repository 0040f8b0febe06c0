-- Numbers as bytes, the lowest first, at any width, and parts of a list that are zero. Assumes nothing.
use Rattle.std.specs.Prelude.{Bool, true, ◌&&◌, List, [], ◌∷◌, ◌++◌, ℕ, zero}
use Rattle.std.specs.Prelude.{suc, ◌+◌, ◌-◌, ◌*◌, ◌/◌, ◌%◌, eqb, take, drop, replicate}
use Rattle.std.proofs.lemmas.List.Edits.{sets}

-- the number that bytes stand for
unfoldable pub value : List ℕ → ℕ
value [] = 0
value (b ∷ bs) = value bs * 256 + b

-- the lowest bytes of x, as many as the width says
unfoldable pub bytes : ℕ → ℕ → List ℕ
bytes zero x = []
bytes (suc width) x = x % 256 ∷ bytes width (x / 256)

-- the number in the bytes of a width from a place on
unfoldable pub field_at : List ℕ → ℕ → ℕ → ℕ
field_at s at width = value (take width (drop at s))

-- s with x put there
unfoldable pub put_at : List ℕ → ℕ → ℕ → ℕ → List ℕ
put_at s at width x = sets s at (bytes width x)

-- s with zeros from a place up to another
unfoldable pub cleared : List ℕ → ℕ → ℕ → List ℕ
cleared s from to = take from s ++ replicate (to - from) 0 ++ drop to s

-- every number of a list is zero
unfoldable pub zeros : List ℕ → Bool
zeros [] = true
zeros (x ∷ xs) = eqb x 0 && zeros xs
