-- Fields and the end of a line. Document 01, 'Run file and log': 'Fields in a fixed order parted by commas, no quoting; each line
-- ends in one line feed'. Assumes nothing.
use Rattle.std.specs.Prelude.{Option, Some, None, option_and_then, ℕ, ◌+◌, Bool, cond, ◌&&◌, List, [], ◌∷◌, length, get_or, eqb}
use Rattle.text.specs.Number.{number_at, decimal}
use Rattle.text.specs.Hex.{list_digits, list_at, hex_of}

abbrev pub comma : ℕ
comma = 44

abbrev pub line_feed : ℕ
line_feed = 10

-- a byte before the first of some parts or lines
unfoldable pub onto : ℕ → List (List ℕ) → List (List ℕ)
onto b [] = (b ∷ []) ∷ []
onto b (l ∷ ls) = (b ∷ l) ∷ ls

-- what follows from what was read and the place after it; nothing where nothing was read
abbrev pub read_then : {A : Type 0} → Option (ℕ × ℕ) → (ℕ → ℕ → Option A) → Option A
read_then None f = None
read_then (Some (x, i)) f = f x i

-- the place after the comma at the place `at` of s
abbrev pub after_comma : List ℕ → ℕ → Option ℕ
after_comma s at = cond (eqb (get_or s at 0) comma) (Some (at + 1)) None

-- a comma and the number after it, at the place `at` of s
unfoldable pub number_field_at : List ℕ → ℕ → Option (ℕ × ℕ)
number_field_at s at = option_and_then (number_at s) (after_comma s at)

-- a comma and the list after it, at the place `at` of s
unfoldable pub list_field_at : List ℕ → ℕ → Option (ℕ × ℕ)
list_field_at s at = option_and_then (list_at s) (after_comma s at)

-- the line s ends at the place `at`: a line feed stands there, and it is the last byte
unfoldable pub ends : List ℕ → ℕ → Bool
ends s at = eqb (length s) (at + 1) && eqb (get_or s at 0) line_feed

-- a number as a field, and a list as one
abbrev pub field : ℕ → List ℕ
field n = comma ∷ decimal n

abbrev pub list_field : ℕ → List ℕ
list_field d = comma ∷ hex_of list_digits d
