-- Columns that are read from bytes have these bytes, where the unused ones are zero. Assumes nothing.
use Prim.Native.Nat.{ℕ, zero, suc, ◌+◌, ◌-◌, ◌*◌, ◌≤◌, ◌<◌}
use mathlib.Core.Path.{◌≡◌, refl, sym, ap, ◌∙◌}
use mathlib.Core.Bool.{true, and-eq-true_iff}
use mathlib.Core.List.{List, [], ◌∷◌, ◌++◌, map}
use native.Mathlib.Nat.{one-mul, mul-add, mul-suc, mul-zero, add-zero, mul-le-mul_left}
use native.Mathlib.Omega.{arith}
use borrow.Author.Tests.{eqb-true, leb-true}
use lib.Dec.{eqb, leb}
use lib.ListN.{length, take, drop, get_or, replicate, length-append, length-drop, length-map, take-append-drop}
use lib.Seq.{slice, slice_empty, slice-cons, take-add, drop-drop, drop_at, length-take-le, drop-length}
use Rattle.ring.specs.Ring.{numbers}
use Rattle.ring.proofs.Rows.{length-numbers}
use Rattle.fields.specs.Fields.{zeros, field_at}
use Rattle.fields.proofs.Zeros.{zeros-all}
use Rattle.fields.proofs.Fields.{bytes-field, field_lt, field-none, field-more}
use Rattle.store.specs.declared.layout.Field.{Field}
use Rattle.store.specs.Columns.{field, Column, cell, size, used, packs, column_bytes, bytes_of, joined, room_test, unused_test}
use Rattle.store.specs.Columns.{Part, columns_of, numbers_of, cells_at, RowFits, RowsFit}
use Rattle.store.proofs.Columns.{Laid, length-column}
use Rattle.std.proofs.lemmas.List.{get_or-map}
use Rattle.store.proofs.Groups.{row_read, fit_at, fit-each}

-- ---- rows by their numbers

-- row i of those made of the numbers below n
pub row_made : {A : Type 0} (f : ℕ → A) (n i : ℕ) (d : A) → i < n → get_or (map f (numbers 0 n)) i d ≡ f i
unfolding numbers
row_made f n i d h = made n 0 i h ∙ ap f (omega arith)
  where
    made : (n j i : ℕ) → i < n → get_or (map f (numbers j n)) i d ≡ f (j + i)
    made zero j i h = absurd (omega arith)
    made (suc n) j zero h = ap f (sym (add-zero j))
    made (suc n) j (suc i) h = made n (suc j) i (omega arith) ∙ ap f (omega arith)

pub length-made : {A : Type 0} (f : ℕ → A) (n : ℕ) → length (map f (numbers 0 n)) ≡ n
length-made f n = length-map (numbers 0 n) f ∙ length-numbers n 0

byte-read : (b : List ℕ) (at : ℕ) → at < length b → field_at b at 1 ≡ get_or b at 0
byte-read b at h = field-more b at 0 h ∙ rw (field-none b (suc at)) (omega arith)

-- rows that agree with a list at each place are the list
pub made-rows : {A : Type 0} (f : ℕ → A) (l : List A) (d : A) → ((i : ℕ) → i < length l → f i ≡ get_or l i d)
    → map f (numbers 0 (length l)) ≡ l
unfolding numbers
made-rows {A} f l d same = go l 0 (λ i h. let e : 0 + i ≡ i = omega arith in ap f e ∙ same i h)
  where
    go : (l : List A) (j : ℕ) → ((i : ℕ) → i < length l → f (j + i) ≡ get_or l i d) → map f (numbers j (length l)) ≡ l
    go [] j h = refl
    go (x ∷ l) j h =
        let first : f j ≡ x = ap f (sym (add-zero j)) ∙ h 0 (omega arith) in
        let rest : map f (numbers (suc j) (length l)) ≡ l =
        go l (suc j) (λ i k. let e : suc j + i ≡ j + suc i = omega arith in ap f e ∙ h (suc i) (omega arith)) in
        rw (first, rest)

-- numbers of one byte are the bytes themselves
pub bytes_read : (b : List ℕ) (at places k : ℕ) → at + k ≤ length b → map (cell b (field at 1 places)) (numbers 0 k) ≡ slice at (at + k) b
unfolding numbers
bytes_read b at places k h =
    let first : at + 0 ≡ at = omega arith in
    go k 0 (omega arith) ∙ ap (λ (i : ℕ). slice i (at + k) b) first
  where
    go : (n j : ℕ) → j + n ≡ k → map (cell b (field at 1 places)) (numbers j n) ≡ slice (at + j) (at + k) b
    go zero j e =
        let all : at + j ≡ at + k = omega arith in
        sym (ap (λ (i : ℕ). slice i (at + k) b) all ∙ slice_empty (at + k) b)
    go (suc n) j e =
        let one : field_at b (at + 1 * j) 1 ≡ get_or b (at + j) 0 = rw (one-mul j) (byte-read b (at + j) (omega arith)) in
        let next : suc (at + j) ≡ at + suc j = omega arith in
        rw (one, go n (suc j) (omega arith), ← next) (sym (slice-cons (at + j) (at + k) b 0 (omega arith) h))

-- ---- columns that are read

-- the numbers of each column are those that b has there
unfoldable pub ReadFrom : List ℕ → List Column → Type 0
ReadFrom b [] = Unit
ReadFrom b (c ∷ cs) = (c.values ≡ map (cell b c.field) (numbers 0 (length c.values))) × ReadFrom b cs

pub slice-take : (f t : ℕ) (l : List ℕ) → f ≤ t → t ≤ length l → slice f t l ≡ take (t - f) (drop f l)
slice-take f t l h k =
    let e : f + (t - f) ≡ t = omega arith in
    ap (λ (n : ℕ). drop f (take n l)) (sym e)
    ∙ rw (take-add f (t - f) l) (drop_at (take f l) (take (t - f) (drop f l)) f (length-take-le f l (omega arith)))

joined-within : (cs : List Column) (o e : ℕ) → joined o e cs ≡ true → o ≤ e
unfolding joined
joined-within [] o e j = omega (arith, eqb-true o e j)
joined-within (c ∷ cs) o e j =
    let j' = (and-eq-true_iff (eqb c.field.at o) (joined (o + size c.field) e cs)).0 j in
    omega (arith, joined-within cs (o + size c.field) e j'.1)

module _ (b : List ℕ) (byte : (i : ℕ) → get_or b i 0 < 256) where
  packs-read : (f : Field) (m i : ℕ) → f.at + f.width * (i + m) ≤ length b
      → packs f.width (map (cell b f) (numbers i m)) ≡ take (f.width * m) (drop (f.at + f.width * i) b)
  unfolding packs numbers
  packs-read f zero i h = rw (mul-zero f.width)
  packs-read f (suc m) i h =
      let w : ℕ = f.width in
      let o : ℕ = f.at + w * i in
      let q : w * (i + suc m) ≡ w * i + (w + w * m) = rw (mul-add w i (suc m), mul-suc w m) (omega arith) in
      let q' : w * (suc i + m) ≡ w * i + (w + w * m) = ap (λ (k : ℕ). w * k) (omega arith) ∙ q in
      let e : w * suc m ≡ w + w * m = rw (mul-suc w m) (omega arith) in
      let n : f.at + w * suc i ≡ o + w = rw (mul-suc w i) (omega arith) in
      rw (e, take-add w (w * m) (drop o b), drop-drop w o b, bytes-field b o w byte (omega arith), packs-read f m (suc i) (omega arith), n)

  -- a column that is read, with its unused bytes zero
  column-read : (c : Column) → length c.values ≤ c.field.places → c.field.at + size c.field ≤ length b
      → c.values ≡ map (cell b c.field) (numbers 0 (length c.values))
      → zeros (slice (c.field.at + used c) (c.field.at + size c.field) b) ≡ true
      → column_bytes c ≡ take (size c.field) (drop c.field.at b)
  unfolding column_bytes
  column-read c room ends same zero_rest =
      let f : Field = c.field in
      let w : ℕ = f.width in
      let n : ℕ = length c.values in
      let le : w * n ≤ w * f.places = mul-le-mul_left w room in
      let k : ℕ = size f - used c in
      let whole : used c + k ≡ size f = omega arith in
      let ends' : f.at + size f - (f.at + used c) ≡ k = omega arith in
      let part : slice (f.at + used c) (f.at + size f) b ≡ take k (drop (f.at + used c) b) =
      slice-take (f.at + used c) (f.at + size f) b (omega arith) ends ∙ rw ends' in
      let l : length (take k (drop (f.at + used c) b)) ≡ k =
      length-take-le k (drop (f.at + used c) b) (rw (length-drop (f.at + used c) b) (omega arith)) in
      let rest : take k (drop (f.at + used c) b) ≡ replicate k 0 = zeros-all (take k (drop (f.at + used c) b)) (rw (← part) zero_rest) ∙ rw l in
      let e : f.at + w * 0 ≡ f.at = omega (arith, mul-zero w) in
      let zn : 0 + n ≡ n = omega arith in
      let p : packs w c.values ≡ take (used c) (drop f.at b) =
      ap (packs w) same ∙ packs-read f n 0 (rw zn (omega arith)) ∙ rw e in
      let t : take (size f) (drop f.at b) ≡ take (used c) (drop f.at b) ++ replicate k 0 =
      ap (λ (m : ℕ). take m (drop f.at b)) (sym whole) ∙ take-add (used c) k (drop f.at b) ∙ rw (drop-drop (used c) f.at b, rest) in
      rw (t, p)

  -- columns that are read have the bytes they were read from
  pub read_back : (cs : List Column) (o : ℕ) → joined o (length b) cs ≡ true → room_test cs ≡ true → ReadFrom b cs → unused_test b cs ≡ true
      → bytes_of cs ≡ drop o b
  unfolding joined room_test ReadFrom unused_test bytes_of
  read_back [] o j r h u = let e : o ≡ length b = eqb-true o (length b) j in rw e (sym (drop-length b))
  read_back (c ∷ cs) o j r h u =
      let f : Field = c.field in
      let j' = (and-eq-true_iff (eqb f.at o) (joined (o + size f) (length b) cs)).0 j in
      let r' = (and-eq-true_iff (leb (length c.values) f.places) (room_test cs)).0 r in
      let u' = (and-eq-true_iff (zeros (slice (f.at + used c) (f.at + size f) b)) (unused_test b cs)).0 u in
      let at : f.at ≡ o = eqb-true f.at o j'.0 in
      let within : o + size f ≤ length b = joined-within cs (o + size f) (length b) j'.1 in
      let first : column_bytes c ≡ take (size f) (drop o b) =
      column-read c (leb-true (length c.values) f.places r'.0) (omega arith) h.0 u'.0 ∙ rw at in
      rw (first, read_back cs (o + size f) j'.1 r'.1 h.1 u'.1, ← drop-drop (size f) o b) (take-append-drop (size f) (drop o b))

-- ---- rows that are read

-- row i of those that are read has the numbers of the cells at i
module _ {A : Type 0} (b : List ℕ) (rows : List A) (d : A) where
  abbrev Read : List (Part A) → Type 0
  Read gs = (i : ℕ) → i < length rows → numbers_of gs (get_or rows i d) ≡ cells_at gs b i

  first : (x y : ℕ) (xs ys : List ℕ) → x ∷ xs ≡ y ∷ ys → x ≡ y
  first x y xs ys e = cc

  later : (x y : ℕ) (xs ys : List ℕ) → x ∷ xs ≡ y ∷ ys → xs ≡ ys
  later x y xs ys e = cc

  pub columns-read : (gs : List (Part A)) (rest : List Column) → Read gs → ReadFrom b rest → ReadFrom b (columns_of gs rows ++ rest)
  unfolding ReadFrom columns_of numbers_of cells_at
  columns-read [] rest h r = r
  columns-read (g ∷ gs) rest h r =
      let e : length (map g.get rows) ≡ length rows = length-map rows g.get in
      let same : (i : ℕ) → i < length (map g.get rows) → cell b g.field i ≡ get_or (map g.get rows) i 0 =
      λ i k. let k' : i < length rows = omega arith in sym (get_or-map g.get rows i d 0 k' ∙ first _ _ _ _ (h i k')) in
      (sym (made-rows (cell b g.field) (map g.get rows) 0 same), columns-read gs rest (λ i k. later _ _ _ _ (h i k)) r)

  -- and its numbers fit
  pub rows-read-fit : ((i : ℕ) → get_or b i 0 < 256) → (gs : List (Part A)) → Read gs → RowsFit gs rows
  unfolding numbers_of cells_at RowFits
  rows-read-fit byte gs h = fit-each gs rows (λ i. d) (λ i k. fits gs (get_or rows i d) i (h i k))
    where
      fits : (gs : List (Part A)) (r : A) (i : ℕ) → numbers_of gs r ≡ cells_at gs b i → RowFits gs r
      fits [] r i e = tt
      fits (g ∷ gs) r i e = (rw (first _ _ _ _ e) (field_lt b (g.field.at + g.field.width * i) g.field.width byte), fits gs r i (later _ _ _ _ e))

-- columns among which are those of rows: the rows whose numbers are read one after another are those rows
pub rows-read : {A : Type 0} (cs front back : List Column) (gs : List (Part A)) (rows : List A) → cs ≡ front ++ (columns_of gs rows ++ back)
    → Laid 0 cs → RowsFit gs rows → (d : A) (row : ℕ → A)
    → ((i : ℕ) → cells_at gs (bytes_of cs) i ≡ numbers_of gs (get_or rows i d) → row i ≡ get_or rows i d)
    → map row (numbers 0 (length rows)) ≡ rows
rows-read cs front back gs rows split laid f d row same =
    made-rows row rows d (λ i h. same i (rw split (row_read gs front back rows (rw (← split) laid) i d h (fit_at gs rows i d f h))))

-- the number at place k of two lists that are the same
pub same_at : {l m : List ℕ} → l ≡ m → (k : ℕ) → get_or l k 0 ≡ get_or m k 0
same_at e k = ap (λ (x : List ℕ). get_or x k 0) e

-- ---- columns that have room

pub columns-laid : (cs : List Column) (o e : ℕ) → joined o e cs ≡ true → room_test cs ≡ true → Laid o cs
unfolding joined room_test Laid
columns-laid [] o e j r = tt
columns-laid (c ∷ cs) o e j r =
    let j' = (and-eq-true_iff (eqb c.field.at o) (joined (o + size c.field) e cs)).0 j in
    let r' = (and-eq-true_iff (leb (length c.values) c.field.places) (room_test cs)).0 r in
    let rest : Laid (o + size c.field) cs = columns-laid cs (o + size c.field) e j'.1 r'.1 in
    (eqb-true c.field.at o j'.0, leb-true (length c.values) c.field.places r'.0, rest)

pub laid-length : (cs : List Column) (o e : ℕ) → joined o e cs ≡ true → Laid o cs → o + length (bytes_of cs) ≡ e
unfolding joined Laid bytes_of
laid-length [] o e j l = omega (arith, eqb-true o e j)
laid-length (c ∷ cs) o e j l =
    let j' = (and-eq-true_iff (eqb c.field.at o) (joined (o + size c.field) e cs)).0 j in
    let rec : o + size c.field + length (bytes_of cs) ≡ e = laid-length cs (o + size c.field) e j'.1 l.2 in
    rw (length-append (column_bytes c) (bytes_of cs), length-column c l.1) (omega arith)
