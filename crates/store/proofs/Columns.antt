-- Laws of columns, for any list of them: a number of any column is got, put, added after the last or taken out, or all of them are
-- cleared away, and the bytes are those of the columns so changed. Assumes nothing.
use Prim.Native.Nat.{ℕ, suc, ◌+◌, ◌-◌, ◌*◌, ◌≤◌, ◌<◌, ◌^◌}
use mathlib.Core.Path.{◌≡◌, refl, sym, ap, ◌∙◌}
use mathlib.Core.Bool.{Bool, true, false, cond, ◌&&◌, and-eq-true_iff}
use mathlib.Core.List.{List, [], ◌∷◌, ◌++◌, append_assoc}
use native.Mathlib.Nat.{mul-zero, mul-suc, mul-le-mul_left}
use native.Mathlib.Omega.{arith}
use borrow.Author.Tests.{eqb-true}
use lib.Dec.{eqb}
use lib.ListN.{length, take, drop, get_or, set, replicate, length-append, length-replicate, length-set, length-drop, replicate-append-replicate}
use lib.Seq.{length-take-le}
use Rattle.fields.specs.Fields.{field_at, put_at, cleared}
use Rattle.model.specs.Platform.{without}
use Rattle.store.specs.Gap.{closed}
use Rattle.store.specs.declared.layout.Field.{Field}
use Rattle.store.specs.Columns.{Column, with_values, cell, cell_put, cell_out, field_cleared, numbers_put, size, used, packs, column_bytes, bytes_of}
use Rattle.store.proofs.Parts.{cleared-part, length-packs, get-packs, put-packs, closed-packs, add-packs}

pub length_without : {A : Type 0} (i : ℕ) (l : List A) → i < length l → suc (length (without i l)) ≡ length l
unfolding without
length_without i l h =
    let t : length (take i l) ≡ i = length-take-le i l (omega arith) in
    rw (length-append (take i l) (drop (suc i) l), t, length-drop (suc i) l) (omega arith)

-- ---- one column

pub length-column : (c : Column) → length c.values ≤ c.field.places → length (column_bytes c) ≡ size c.field
unfolding column_bytes
length-column c h =
    let w : ℕ = c.field.width in
    let le : w * length c.values ≤ w * c.field.places = mul-le-mul_left w h in
    let k : ℕ = size c.field - used c in
    rw (length-append (packs w c.values) (replicate k 0), length-packs w c.values, length-replicate {A = ℕ} k 0) (omega arith)

-- a column that stands after a, which ends at o, and before z
module _ (a z : List ℕ) (c : Column) (o : ℕ) (starts : length a ≡ o) where
  abbrev w : ℕ
  w = c.field.width

  abbrev xs : List ℕ
  xs = c.values

  abbrev rest : ℕ → List ℕ
  rest n = replicate (size c.field - w * n) 0

  get-column : (i : ℕ) → i < length xs → get_or xs i 0 < 256 ^ w → field_at (a ++ (column_bytes c ++ z)) (o + w * i) w ≡ get_or xs i 0
  unfolding column_bytes
  get-column i h fits = rw (append_assoc (packs w xs) (rest (length xs)) z) (get-packs w a (rest (length xs) ++ z) xs o i starts h fits)

  put-column : (i x : ℕ) → i < length xs → put_at (a ++ (column_bytes c ++ z)) (o + w * i) w x ≡ a ++ (column_bytes (with_values c (set xs i x)) ++ z)
  unfolding column_bytes
  put-column i x h =
      rw (append_assoc (packs w xs) (rest (length xs)) z, append_assoc (packs w (set xs i x)) (rest (length (set xs i x))) z, length-set xs i x)
      (put-packs w a (rest (length xs) ++ z) xs o i starts h x)

  add-column : (x : ℕ) → length xs < c.field.places
      → put_at (a ++ (column_bytes c ++ z)) (o + w * length xs) w x ≡ a ++ (column_bytes (with_values c (xs ++ (x ∷ []))) ++ z)
  unfolding column_bytes
  add-column x h =
      let n : ℕ = length xs in
      let le : w * suc n ≤ size c.field = mul-le-mul_left w h in
      let e : size c.field - w * n ≡ w + (size c.field - w * suc n) = rw (mul-suc w n) (omega (arith, mul-suc w n)) in
      let zs : rest n ≡ replicate w 0 ++ rest (suc n) = rw e (sym (replicate-append-replicate w (size c.field - w * suc n) 0)) in
      let m : length (xs ++ (x ∷ [])) ≡ suc n = length-append xs (x ∷ []) ∙ omega arith in
      ap (λ (l : List ℕ). put_at (a ++ l) (o + w * n) w x) (append_assoc (packs w xs) (rest n) z ∙ rw zs (simp append_assoc))
      ∙ add-packs w a (rest (suc n) ++ z) (replicate w 0) xs o x starts (length-replicate w 0)
      ∙ rw m (simp append_assoc)

  take-column : (i : ℕ) → i < length xs → length xs ≤ c.field.places
      → closed (a ++ (column_bytes c ++ z)) (o + w * i) w (o + w * length xs) ≡ a ++ (column_bytes (with_values c (without i xs)) ++ z)
  unfolding column_bytes
  take-column i h room =
      let n : ℕ = length xs in
      let m : ℕ = length (without i xs) in
      let lm : suc m ≡ n = length_without i xs h in
      let le : w * n ≤ size c.field = mul-le-mul_left w room in
      let step : w * n ≡ w * m + w = rw (← lm) (mul-suc w m) in
      let e : size c.field - w * m ≡ w + (size c.field - w * n) = omega arith in
      let zs : rest m ≡ replicate w 0 ++ rest n = rw e (sym (replicate-append-replicate w (size c.field - w * n) 0)) in
      ap (λ (l : List ℕ). closed (a ++ l) (o + w * i) w (o + w * n)) (append_assoc (packs w xs) (rest n) z)
      ∙ closed-packs w a (rest n ++ z) xs o i starts h
      ∙ rw zs (simp append_assoc)

  clear-column : length xs ≤ c.field.places → cleared (a ++ (column_bytes c ++ z)) o (o + used c) ≡ a ++ (column_bytes (with_values c []) ++ z)
  unfolding column_bytes packs
  clear-column room =
      let n : ℕ = length xs in
      let le : w * n ≤ size c.field = mul-le-mul_left w room in
      let e : size c.field - w * 0 ≡ w * n + (size c.field - w * n) = rw (mul-zero w) (omega arith) in
      let zs : rest 0 ≡ replicate (w * n) 0 ++ rest n = rw e (sym (replicate-append-replicate (w * n) (size c.field - w * n) 0)) in
      ap (λ (l : List ℕ). cleared (a ++ l) o (o + w * n)) (append_assoc (packs w xs) (rest n) z)
      ∙ cleared-part a (packs w xs) (rest n ++ z) o (w * n) starts (length-packs w xs)
      ∙ rw zs (simp append_assoc)

-- ---- columns one after another

-- each column starts where the one before it ends, the first at o, and has no more numbers than places
unfoldable pub Laid : ℕ → List Column → Type 0
Laid o [] = Unit
Laid o (c ∷ cs) = (c.field.at ≡ o) × (length c.values ≤ c.field.places) × Laid (o + size c.field) cs

pub bytes-append : (cs ds : List Column) → bytes_of (cs ++ ds) ≡ bytes_of cs ++ bytes_of ds
unfolding bytes_of
bytes-append [] ds = refl
bytes-append (c ∷ cs) ds = rw (bytes-append cs ds) (sym (append_assoc (column_bytes c) (bytes_of cs) (bytes_of ds)))

-- column c, after the columns of front
module _ (c : Column) (back : List Column) where
  pub laid-room : (front : List Column) (o : ℕ) → Laid o (front ++ (c ∷ back)) → length c.values ≤ c.field.places
  unfolding Laid
  laid-room [] o l = l.1
  laid-room (d ∷ front) o l = laid-room front (o + size d.field) l.2

  -- other numbers in a column leave the columns laid
  pub laid-with : (front : List Column) (o : ℕ) (ys : List ℕ) → length ys ≤ c.field.places → Laid o (front ++ (c ∷ back))
      → Laid o (front ++ (with_values c ys ∷ back))
  unfolding Laid
  laid-with [] o ys h l = (l.0, h, l.2)
  laid-with (d ∷ front) o ys h l = (l.0, l.1, laid-with front (o + size d.field) ys h l.2)

  front_ends : (front : List Column) (o : ℕ) → Laid o (front ++ (c ∷ back)) → o + length (bytes_of front) ≡ c.field.at
  unfolding Laid bytes_of
  front_ends [] o l = omega (arith, l.0)
  front_ends (d ∷ front) o l =
      let rec : o + size d.field + length (bytes_of front) ≡ c.field.at = front_ends front (o + size d.field) l.2 in
      rw (length-append (column_bytes d) (bytes_of front), length-column d l.1) (omega arith)

-- columns that start at 0; column c among them
module _ (front : List Column) (c : Column) (back : List Column) (laid : Laid 0 (front ++ (c ∷ back))) where
  abbrev at : ℕ
  at = c.field.at

  abbrev n : ℕ
  n = length c.values

  -- the same columns with other numbers in c
  abbrev with : List ℕ → List Column
  with ys = front ++ (with_values c ys ∷ back)

  starts : length (bytes_of front) ≡ at
  starts = let e : 0 + length (bytes_of front) ≡ at = front_ends c back front 0 laid in omega arith

  around : (ys : List ℕ) → bytes_of (with ys) ≡ bytes_of front ++ (column_bytes (with_values c ys) ++ bytes_of back)
  unfolding bytes_of
  around ys = bytes-append front (with_values c ys ∷ back)

  -- the number at place i is got
  pub get-cell : (i : ℕ) → i < n → get_or c.values i 0 < 256 ^ c.field.width
      → cell (bytes_of (front ++ (c ∷ back))) c.field i ≡ get_or c.values i 0
  get-cell i h fits = rw (around c.values) (get-column (bytes_of front) (bytes_of back) c at starts i h fits)

  -- a number is put at place i
  pub put-cell : (i x : ℕ) → i < n → cell_put (bytes_of (front ++ (c ∷ back))) c.field i x ≡ bytes_of (with (set c.values i x))
  put-cell i x h =
      ap (λ (l : List ℕ). cell_put l c.field i x) (around c.values)
      ∙ put-column (bytes_of front) (bytes_of back) c at starts i x h
      ∙ sym (around (set c.values i x))

  -- a number is put after the last
  pub add-cell : (x : ℕ) → n < c.field.places → cell_put (bytes_of (front ++ (c ∷ back))) c.field n x ≡ bytes_of (with (c.values ++ (x ∷ [])))
  add-cell x h =
      ap (λ (l : List ℕ). cell_put l c.field n x) (around c.values)
      ∙ add-column (bytes_of front) (bytes_of back) c at starts x h
      ∙ sym (around (c.values ++ (x ∷ [])))

  -- the number at place i is taken out, and those after it move down
  pub take-cell : (i : ℕ) → i < n → cell_out (bytes_of (front ++ (c ∷ back))) c.field i n ≡ bytes_of (with (without i c.values))
  take-cell i h =
      ap (λ (l : List ℕ). cell_out l c.field i n) (around c.values)
      ∙ take-column (bytes_of front) (bytes_of back) c at starts i h (laid-room c back front 0 laid)
      ∙ sym (around (without i c.values))

  -- all numbers are cleared away
  pub clear-cells : field_cleared (bytes_of (front ++ (c ∷ back))) c.field n ≡ bytes_of (with [])
  clear-cells =
      ap (λ (l : List ℕ). field_cleared l c.field n) (around c.values)
      ∙ clear-column (bytes_of front) (bytes_of back) c at starts (laid-room c back front 0 laid)
      ∙ sym (around [])

-- ---- a number of its own

-- columns with another number in a field, which holds one
unfoldable pub with_number : List Column → Field → ℕ → List Column
with_number [] f x = []
with_number (c ∷ cs) f x = cond (eqb c.field.at f.at) (with_values c (x ∷ []) ∷ cs) (c ∷ with_number cs f x)

unfoldable pub has_number : List Column → Field → Bool
has_number [] f = false
has_number (c ∷ cs) f = cond (eqb c.field.at f.at) (eqb c.field.width f.width && eqb (length c.values) 1) (has_number cs f)

set-one : (xs : List ℕ) (x : ℕ) → length xs ≡ 1 → set xs 0 x ≡ x ∷ []
set-one [] x h = absurd (omega arith)
set-one (y ∷ []) x h = refl
set-one (y ∷ z ∷ xs) x h = absurd (omega arith)

pub number_put : (front cs : List Column) (f : Field) (x : ℕ) → has_number cs f ≡ true → Laid 0 (front ++ cs)
    → (cell_put (bytes_of (front ++ cs)) f 0 x ≡ bytes_of (front ++ with_number cs f x)) × Laid 0 (front ++ with_number cs f x)
unfolding has_number with_number
number_put front [] f x h l = let z : ◌≡◌ {A = ℕ} 0 1 = cc in absurd (omega arith)
number_put front (c ∷ cs) f x h l =
    go (eqb c.field.at f.at) refl (λ h. number_put (front ++ (c ∷ [])) cs f x h (rw (append_assoc front (c ∷ []) cs) l))
  where
    go : (t : Bool) → eqb c.field.at f.at ≡ t
        → (has_number cs f ≡ true → (cell_put (bytes_of ((front ++ (c ∷ [])) ++ cs)) f 0 x ≡ bytes_of ((front ++ (c ∷ [])) ++ with_number cs f x))
        × Laid 0 ((front ++ (c ∷ [])) ++ with_number cs f x))
        → (cell_put (bytes_of (front ++ (c ∷ cs))) f 0 x ≡ bytes_of (front ++ with_number (c ∷ cs) f x)) × Laid 0 (front ++ with_number (c ∷ cs) f x)
    go true e rec =
        let h' = (and-eq-true_iff (eqb c.field.width f.width) (eqb (length c.values) 1)).0 (rw e at h) in
        let at : c.field.at ≡ f.at = eqb-true c.field.at f.at e in
        let width : c.field.width ≡ f.width = eqb-true c.field.width f.width h'.0 in
        let one : length c.values ≡ 1 = eqb-true (length c.values) 1 h'.1 in
        let put : put_at (bytes_of (front ++ (c ∷ cs))) (f.at + f.width * 0) f.width x ≡ bytes_of (front ++ (with_values c (x ∷ []) ∷ cs)) =
        rw (← at, ← width, ← set-one c.values x one) (put-cell front c cs l 0 x (omega arith)) in
        rw e (put, laid-with c cs front 0 (x ∷ []) (omega (arith, laid-room c cs front 0 l)) l)
    go false e rec = rw (e, ← append_assoc front (c ∷ []) cs, ← append_assoc front (c ∷ []) (with_number cs f x)) (rec (rw e at h))

-- several of them, one after another
unfoldable pub with_numbers : List Column → List (Field × ℕ) → List Column
with_numbers cs [] = cs
with_numbers cs (n ∷ ns) = with_numbers (with_number cs n.0 n.1) ns

unfoldable pub has_numbers : List Column → List (Field × ℕ) → Bool
has_numbers cs [] = true
has_numbers cs (n ∷ ns) = has_number cs n.0 && has_numbers (with_number cs n.0 n.1) ns

pub numbers-put : (cs : List Column) (ns : List (Field × ℕ)) → has_numbers cs ns ≡ true → Laid 0 cs
    → numbers_put (bytes_of cs) ns ≡ bytes_of (with_numbers cs ns)
unfolding has_numbers with_numbers numbers_put
numbers-put cs [] h l = refl
numbers-put cs (n ∷ ns) h l =
    let h' = (and-eq-true_iff (has_number cs n.0) (has_numbers (with_number cs n.0 n.1) ns)).0 h in
    let first = number_put [] cs n.0 n.1 h'.0 l in
    ap (λ (b : List ℕ). numbers_put b ns) first.0 ∙ numbers-put (with_number cs n.0 n.1) ns h'.1 first.1
