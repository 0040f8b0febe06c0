-- Bytes laid out in columns: each field of all records has a column of its own, and its numbers stand there one after another, the
-- lowest byte first. The places beyond them are zero. Assumes nothing.
use Rattle.std.specs.Prelude.{Bool, true, ◌&&◌, List, [], ◌∷◌, ◌++◌, map, ℕ}
use Rattle.std.specs.Prelude.{◌+◌, ◌-◌, ◌*◌, ◌^◌, ◌<◌, eqb, leb, length, replicate}
use Rattle.std.proofs.Math.Seq.{slice}
use Rattle.fields.specs.Fields.{bytes, field_at, put_at, cleared, zeros}
use Rattle.store.specs.Gap.{closed}
use Rattle.store.specs.declared.layout.Field.{Field}

-- a field, by where its column starts, how many bytes a number has, and for how many numbers there is room
abbrev pub field : ℕ → ℕ → ℕ → Field
field at width places = record { at = at; width = width; places = places }

-- a field with the numbers that it holds
pub record Column : Type 0 where
  pub field : Field
  pub values : List ℕ

infix 70 ◌holds◌
abbrev pub ◌holds◌ : Field → List ℕ → Column
f holds xs = record { field = f; values = xs }

-- a field whose bytes are all unused
abbrev pub unused : Field → Column
unused f = f holds []

-- ---- reading

-- the number at place i of a field
abbrev pub cell : List ℕ → Field → ℕ → ℕ
cell s f i = field_at s (f.at + f.width * i) f.width

-- the number of a field that has one place
abbrev pub number : List ℕ → Field → ℕ
number s f = cell s f 0

-- ---- writing

-- x put at place i of a field, and the number at place i of n taken out, those after it moved down
abbrev pub cell_put : List ℕ → Field → ℕ → ℕ → List ℕ
cell_put s f i x = put_at s (f.at + f.width * i) f.width x

abbrev pub cell_out : List ℕ → Field → ℕ → ℕ → List ℕ
cell_out s f i n = closed s (f.at + f.width * i) f.width (f.at + f.width * n)

-- numbers put into fields of one place, one after another
unfoldable pub numbers_put : List ℕ → List (Field × ℕ) → List ℕ
numbers_put s [] = s
numbers_put s (n ∷ ns) = numbers_put (cell_put s n.0 0 n.1) ns

-- zeros in place of the first n numbers of a field
abbrev pub field_cleared : List ℕ → Field → ℕ → List ℕ
field_cleared s f n = cleared s f.at (f.at + f.width * n)

-- numbers of w bytes, one after another
unfoldable pub packs : ℕ → List ℕ → List ℕ
packs w [] = []
packs w (x ∷ xs) = bytes w x ++ packs w xs

-- all bytes of a column, and those that its numbers take
abbrev pub size : Field → ℕ
size f = f.width * f.places

abbrev pub used : Column → ℕ
used c = c.field.width * length c.values

unfoldable pub column_bytes : Column → List ℕ
column_bytes c = packs c.field.width c.values ++ replicate (size c.field - used c) 0

-- the bytes of columns, one after another
unfoldable pub bytes_of : List Column → List ℕ
bytes_of [] = []
bytes_of (c ∷ cs) = column_bytes c ++ bytes_of cs

-- the same column with other numbers
abbrev pub with_values : Column → List ℕ → Column
with_values c xs = c.field holds xs

-- ---- the columns of records

-- a part of a record: its field, and the number of a record that stands there
pub record Part (A : Type 0) : Type 0 where
  pub field : Field
  pub get : A → ℕ

abbrev pub part : {A : Type 0} → Field → (A → ℕ) → Part A
part f get = record { field = f; get = get }

-- the column of a part of rows, and the columns of all parts of them
abbrev pub column_of : {A : Type 0} → List A → Part A → Column
column_of rows g = g.field holds map g.get rows

unfoldable pub columns_of : {A : Type 0} → List (Part A) → List A → List Column
columns_of gs rows = map (column_of rows) gs

-- the numbers of a row, and those at place i, part by part
unfoldable pub numbers_of : {A : Type 0} → List (Part A) → A → List ℕ
numbers_of gs r = map (λ (g : Part _). g.get r) gs

unfoldable pub cells_at : {A : Type 0} → List (Part A) → List ℕ → ℕ → List ℕ
cells_at gs b i = map (λ (g : Part _). cell b g.field i) gs

-- a row whose numbers fit their fields, and rows of such
unfoldable pub RowFits : {A : Type 0} → List (Part A) → A → Type 0
RowFits [] r = Unit
RowFits (g ∷ gs) r = (g.get r < 256 ^ g.field.width) × RowFits gs r

unfoldable pub RowsFit : {A : Type 0} → List (Part A) → List A → Type 0
RowsFit gs [] = Unit
RowsFit gs (r ∷ rows) = RowFits gs r × RowsFit gs rows

-- bytes that are changed at one part after another
unfoldable pub each_part : {A : Type 0} → (List ℕ → Part A → List ℕ) → List (Part A) → List ℕ → List ℕ
each_part change [] b = b
each_part change (g ∷ gs) b = each_part change gs (change b g)

-- a row put at place i; the row at place i of n taken out; the first n rows cleared away
abbrev pub row_put : {A : Type 0} → List (Part A) → List ℕ → ℕ → A → List ℕ
row_put gs b i r = each_part (λ l g. cell_put l g.field i (g.get r)) gs b

abbrev pub row_out : {A : Type 0} → List (Part A) → List ℕ → ℕ → ℕ → List ℕ
row_out gs b i n = each_part (λ l g. cell_out l g.field i n) gs b

abbrev pub rows_cleared : {A : Type 0} → List (Part A) → List ℕ → ℕ → List ℕ
rows_cleared gs b n = each_part (λ l g. field_cleared l g.field n) gs b

-- ---- as computed tests

-- each column starts where the one before it ends, the first at o, and the last ends at e
unfoldable pub joined : ℕ → ℕ → List Column → Bool
joined o e [] = eqb o e
joined o e (c ∷ cs) = eqb c.field.at o && joined (o + size c.field) e cs

-- no more numbers than places
unfoldable pub room_test : List Column → Bool
room_test [] = true
room_test (c ∷ cs) = leb (length c.values) c.field.places && room_test cs

-- the bytes of a field beyond its first n numbers are zero
abbrev pub rest_zero : List ℕ → Field → ℕ → Bool
rest_zero s f n = zeros (slice (f.at + f.width * n) (f.at + size f) s)

-- the unused bytes of each column are zero
unfoldable pub unused_test : List ℕ → List Column → Bool
unused_test s [] = true
unused_test s (c ∷ cs) = rest_zero s c.field (length c.values) && unused_test s cs

-- every part has k places
unfoldable pub places_test : {A : Type 0} → ℕ → List (Part A) → Bool
places_test k [] = true
places_test k (g ∷ gs) = eqb g.field.places k && places_test k gs

-- the places of each part beyond the first n are zero
unfoldable pub rest_test : {A : Type 0} → List (Part A) → List ℕ → ℕ → Bool
rest_test [] b n = true
rest_test (g ∷ gs) b n = rest_zero b g.field n && rest_test gs b n
