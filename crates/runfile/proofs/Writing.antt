-- A line in the parts that are written one after another. Assumes nothing.
use Prim.Native.Nat.{ℕ, ◌+◌, ◌≤◌, ◌<◌}
use native.Mathlib.Omega.{arith}
use mathlib.Core.Path.{◌≡◌, refl, sym, ap, ◌∙◌}
use mathlib.Core.Logic.{◌≢◌}
use mathlib.Core.List.{List, [], ◌∷◌, ◌++◌, append_assoc}
use lib.ListN.{length, drop, get_or, drop_of_length-le}
use Rattle.text.specs.Field.{field}
use Rattle.text.proofs.PutLaws.{drop-next}
use Rattle.runfile.specs.Text.{fields_text, line_text, ring_text, rows_text}

-- a line is its letter and its fields
pub line-parts : (letter : ℕ) (xs : List ℕ) → line_text letter xs ≡ (letter ∷ []) ++ fields_text xs
unfolding line_text
line-parts letter xs = refl

-- the fields from place i on: the one there and those after it; from the end on, the line feed
pub fields-next : (xs : List ℕ) (i : ℕ) → i < length xs → fields_text (drop i xs) ≡ field (get_or xs i 0) ++ fields_text (drop (i + 1) xs)
unfolding fields_text
fields-next xs i h = ap fields_text (drop-next xs i h)

pub fields-last : (xs : List ℕ) (i : ℕ) → length xs ≤ i → fields_text (drop i xs) ≡ 10 ∷ []
unfolding fields_text
fields-last xs i h = ap fields_text (drop_of_length-le xs h)

-- numbers as fields, and the line's end
fields-parts : (ks : List ℕ) → fields_text ks ≡ rows_text field ks ++ (10 ∷ [])
unfolding fields_text rows_text
fields-parts [] = refl
fields-parts (k ∷ ks) = ap (λ (t : List ℕ). field k ++ t) (fields-parts ks) ∙ sym (append_assoc (field k) (rows_text field ks) (10 ∷ []))

-- a Q line, part by part
pub ring-parts : (ks : List ℕ) → length ks ≢ 0 → ring_text ks ≡ (81 ∷ []) ++ (rows_text field ks ++ (10 ∷ []))
unfolding ring_text line_text
ring-parts [] h = absurd (h refl)
ring-parts (k ∷ ks) h = ap (λ (t : List ℕ). 81 ∷ t) (fields-parts (k ∷ ks))

-- it is a line
pub ring-line : (ks : List ℕ) → length ks ≢ 0 → ring_text ks ≡ line_text 81 ks
unfolding ring_text
ring-line [] h = absurd (h refl)
ring-line (k ∷ ks) h = refl

-- no line where there are no numbers
pub ring-none : (ks : List ℕ) → length ks ≡ 0 → ring_text ks ≡ []
unfolding ring_text
ring-none [] h = refl
ring-none (k ∷ ks) h = absurd (omega arith)
