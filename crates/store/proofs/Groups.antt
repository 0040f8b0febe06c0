-- Laws of the columns of rows, for any parts and any rows: a row put, added, taken out or read is the same of each part's column. Assumes
-- nothing.
use Prim.Native.Nat.{ℕ, zero, suc, ◌+◌, ◌≤◌, ◌<◌}
use mathlib.Core.Path.{◌≡◌, refl, sym, ap, ◌∙◌}
use mathlib.Core.Bool.{Bool, true, false, ◌&&◌, and-eq-true_iff}
use mathlib.Core.List.{List, [], ◌∷◌, ◌++◌, map, map-append, append_assoc}
use native.Mathlib.Numerals.{add-one}
use native.Mathlib.Omega.{arith}
use borrow.Author.Tests.{eqb-true, leb-true, le-leb}
use lib.Dec.{eqb, leb}
use lib.ListN.{length, take, drop, get_or, set, length-map, length-set, length-append}
use Rattle.std.proofs.lemmas.List.{map-set, take-map, drop-map, get_or-map}
use Rattle.model.specs.Platform.{without}
use Rattle.store.specs.declared.layout.Field.{Field}
use Rattle.store.specs.Columns.{Column, cell_put, cell_out, field_cleared, cell, bytes_of, room_test, rest_zero, unused_test}
use Rattle.store.specs.Columns.{Part, column_of, columns_of, numbers_of, cells_at, RowFits, RowsFit}
use Rattle.store.specs.Columns.{each_part, row_put, row_out, rows_cleared, places_test, rest_test}
use Rattle.store.proofs.Columns.{Laid, laid-with, get-cell, put-cell, add-cell, take-cell, clear-cells}
use Rattle.store.proofs.Columns.{length_without, has_number, with_number, number_put}

-- ---- a part of rows of which one is taken out

pub map-without : {A : Type 0} (f : A → ℕ) (i : ℕ) (l : List A) → map f (without i l) ≡ without i (map f l)
unfolding without
map-without f i l = map-append f (take i l) (drop (suc i) l) ∙ rw (take-map, drop-map)

-- ---- the columns of rows, among others

-- a change of bytes that makes rows to rows' at the column of each part, and leaves room
module _ {A : Type 0} (change : List ℕ → Part A → List ℕ) (rows rows' : List A) where
  abbrev Changes : Part A → Type 0
  Changes g =
      (front back : List Column) → length rows' ≤ g.field.places → Laid 0 (front ++ (column_of rows g ∷ back))
      → change (bytes_of (front ++ (column_of rows g ∷ back))) g ≡ bytes_of (front ++ (column_of rows' g ∷ back))

  -- the bytes are those of the columns with rows', which start and end where they did
  pub rows-changed : ((g : Part A) → Changes g) → (k : ℕ) (gs : List (Part A)) → places_test k gs ≡ true → length rows' ≤ k
      → (front back : List Column) → Laid 0 (front ++ (columns_of gs rows ++ back))
      → (each_part change gs (bytes_of (front ++ (columns_of gs rows ++ back))) ≡ bytes_of (front ++ (columns_of gs rows' ++ back)))
      × Laid 0 (front ++ (columns_of gs rows' ++ back))
  unfolding columns_of each_part places_test
  rows-changed one k [] h r front back l = (refl, l)
  rows-changed one k (g ∷ gs) h r front back l =
      let h' = (and-eq-true_iff (eqb g.field.places k) (places_test k gs)).0 h in
      let places : g.field.places ≡ k = eqb-true g.field.places k h'.0 in
      let room : length rows' ≤ g.field.places = omega arith in
      let c : Column = column_of rows' g in
      let rest : List Column = columns_of gs rows ++ back in
      let laid : Laid 0 (front ++ (c ∷ rest)) = laid-with (column_of rows g) rest front 0 (map g.get rows') (rw (length-map rows' g.get) room) l in
      let split : (ds : List Column) → (front ++ (c ∷ [])) ++ ds ≡ front ++ (c ∷ ds) = λ ds. append_assoc front (c ∷ []) ds in
      let then = rows-changed one k gs h'.1 r (front ++ (c ∷ [])) back (rw (split rest) laid) in (
        ap (each_part change gs) (one g front rest room l ∙ ap bytes_of (sym (split rest))) ∙ then.0 ∙ ap bytes_of (split (columns_of gs rows' ++ back)),
        rw (split (columns_of gs rows' ++ back)) at then.1,
      )

-- parts of k places, whose columns stand between front and back
module _ {A : Type 0} (k : ℕ) (gs : List (Part A)) (places : places_test k gs ≡ true) (front back : List Column) (rows : List A)
    (laid : Laid 0 (front ++ (columns_of gs rows ++ back))) where
  abbrev with : List A → List Column
  with l = front ++ (columns_of gs l ++ back)

  -- a row is put at place i
  pub row-put : (i : ℕ) (r : A) → i < length rows → length rows ≤ k
      → (row_put gs (bytes_of (with rows)) i r ≡ bytes_of (with (set rows i r))) × Laid 0 (with (set rows i r))
  row-put i r h room =
      rows-changed (λ l g. cell_put l g.field i (g.get r)) rows (set rows i r) one k gs places (rw (length-set rows i r) room) front back laid
    where
      one : (g : Part A) → Changes (λ l g. cell_put l g.field i (g.get r)) rows (set rows i r) g
      one g a z room l = rw (map-set g.get rows i r) (put-cell a (column_of rows g) z l i (g.get r) (rw (length-map rows g.get) h))

  -- a row is put after the last
  pub row-added : (r : A) → length rows < k
      → (row_put gs (bytes_of (with rows)) (length rows) r ≡ bytes_of (with (rows ++ (r ∷ [])))) × Laid 0 (with (rows ++ (r ∷ [])))
  row-added r h =
      let room : length (rows ++ (r ∷ [])) ≤ k = rw (length-append rows (r ∷ [])) (omega arith) in
      rows-changed (λ l g. cell_put l g.field (length rows) (g.get r)) rows (rows ++ (r ∷ [])) one k gs places room front back laid
    where
      one : (g : Part A) → Changes (λ l g. cell_put l g.field (length rows) (g.get r)) rows (rows ++ (r ∷ [])) g
      one g a z room l =
          let e : length (map g.get rows) ≡ length rows = length-map rows g.get in
          let less : length (map g.get rows) < g.field.places = omega (arith, length-append rows (r ∷ [])) in
          rw (map-append g.get rows (r ∷ []), ← e) (add-cell a (column_of rows g) z l (g.get r) less)

  -- the row at place i is taken out, and those after it move down
  pub row-out : (i : ℕ) → i < length rows → length rows ≤ k
      → (row_out gs (bytes_of (with rows)) i (length rows) ≡ bytes_of (with (without i rows))) × Laid 0 (with (without i rows))
  row-out i h room =
      let less : length (without i rows) ≤ k = omega (arith, length_without i rows h) in
      rows-changed (λ l g. cell_out l g.field i (length rows)) rows (without i rows) one k gs places less front back laid
    where
      one : (g : Part A) → Changes (λ l g. cell_out l g.field i (length rows)) rows (without i rows) g
      one g a z room l =
          let e : length (map g.get rows) ≡ length rows = length-map rows g.get in
          rw (map-without g.get i rows, ← e) (take-cell a (column_of rows g) z l i (rw e h))

  -- all rows are cleared away
  pub rows-cleared : (rows_cleared gs (bytes_of (with rows)) (length rows) ≡ bytes_of (with [])) × Laid 0 (with [])
  rows-cleared = rows-changed (λ l g. field_cleared l g.field (length rows)) rows [] one k gs places (omega arith) front back laid
    where
      one : (g : Part A) → Changes (λ l g. field_cleared l g.field (length rows)) rows [] g
      one g a z room l = let e : length (map g.get rows) ≡ length rows = length-map rows g.get in rw (← e) (clear-cells a (column_of rows g) z l)

  -- a row is put after the last, then the count of the rows
  pub row-counted : (r : A) (count : Field) → length rows < k → has_number (with (rows ++ (r ∷ []))) count ≡ true
      → cell_put (row_put gs (bytes_of (with rows)) (length rows) r) count 0 (length rows + 1)
      ≡ bytes_of (with_number (with (rows ++ (r ∷ []))) count (length rows + 1))
  row-counted r count h has =
      let added = row-added r h in
      ap (λ (l : List ℕ). cell_put l count 0 (length rows + 1)) added.0
      ∙ (number_put [] (with (rows ++ (r ∷ []))) count (length rows + 1) has added.1).0

-- parts that are changed one after another, by their fields fs: the first k, then the next
pub each_next : {A : Type 0} (change : List ℕ → Field → List ℕ) (gs : List (Part A)) (fs : List Field) → fs ≡ map (λ (g : Part A). g.field) gs
    → (k : ℕ) (z : Field) → k < length fs → (b : List ℕ)
    → change (each_part (λ l g. change l g.field) (take k gs) b) (get_or fs k z) ≡ each_part (λ l g. change l g.field) (take (k + 1) gs) b
unfolding each_part
each_next {A} change gs fs e k z h b = rw (e, add-one k) (go gs k b (rw e at h))
  where
    go : (gs : List (Part A)) (k : ℕ) (b : List ℕ) → k < length (map (λ (g : Part A). g.field) gs)
        → change (each_part (λ l g. change l g.field) (take k gs) b) (get_or (map (λ (g : Part A). g.field) gs) k z)
        ≡ each_part (λ l g. change l g.field) (take (suc k) gs) b
    go [] k b h = absurd (omega arith)
    go (g ∷ gs) zero b h = refl
    go (g ∷ gs) (suc k) b h = go gs k (change b g.field) (omega arith)

-- ---- rows that are read

-- the cells at place i have the numbers of row i
pub row_read : {A : Type 0} (gs : List (Part A)) (front back : List Column) (rows : List A) → Laid 0 (front ++ (columns_of gs rows ++ back))
    → (i : ℕ) (d : A) → i < length rows → RowFits gs (get_or rows i d)
    → cells_at gs (bytes_of (front ++ (columns_of gs rows ++ back))) i ≡ numbers_of gs (get_or rows i d)
unfolding columns_of cells_at numbers_of RowFits
row_read [] front back rows l i d h f = refl
row_read (g ∷ gs) front back rows l i d h f =
    let c : Column = column_of rows g in
    let after : List Column = columns_of gs rows ++ back in
    let value : get_or (map g.get rows) i 0 ≡ g.get (get_or rows i d) = get_or-map g.get rows i d 0 h in
    let one : cell (bytes_of (front ++ (c ∷ after))) g.field i ≡ g.get (get_or rows i d) =
    get-cell front c after l i (rw (length-map rows g.get) h) (rw value f.0) ∙ value in
    let split : (front ++ (c ∷ [])) ++ after ≡ front ++ (c ∷ after) = append_assoc front (c ∷ []) after in
    let rest = rw split at (row_read gs (front ++ (c ∷ [])) back rows (rw split l) i d h f.1) in
    rw (one, rest)

-- ---- rows whose numbers fit

module _ {A : Type 0} (gs : List (Part A)) where
  pub fit_at : (rows : List A) (i : ℕ) (d : A) → RowsFit gs rows → i < length rows → RowFits gs (get_or rows i d)
  unfolding RowsFit
  fit_at [] i d f h = absurd (omega arith)
  fit_at (r ∷ rows) zero d f h = f.0
  fit_at (r ∷ rows) (suc i) d f h = fit_at rows i d f.1 (omega arith)

  pub fit-each : (rows : List A) (d : ℕ → A) → ((i : ℕ) → i < length rows → RowFits gs (get_or rows i (d i))) → RowsFit gs rows
  unfolding RowsFit
  fit-each [] d f = tt
  fit-each (r ∷ rows) d f = (f 0 (omega arith), fit-each rows (λ i. d (suc i)) (λ i h. f (suc i) (omega arith)))

  pub fit-set : (rows : List A) (i : ℕ) (r : A) → RowsFit gs rows → RowFits gs r → RowsFit gs (set rows i r)
  unfolding RowsFit
  fit-set [] i r f h = tt
  fit-set (x ∷ rows) zero r f h = (h, f.1)
  fit-set (x ∷ rows) (suc i) r f h = (f.0, fit-set rows i r f.1 h)

  pub fit_append : (rows more : List A) → RowsFit gs rows → RowsFit gs more → RowsFit gs (rows ++ more)
  unfolding RowsFit
  fit_append [] more f h = h
  fit_append (r ∷ rows) more f h = (f.0, fit_append rows more f.1 h)

  fit-take : (i : ℕ) (rows : List A) → RowsFit gs rows → RowsFit gs (take i rows)
  unfolding RowsFit
  fit-take zero rows f = tt
  fit-take (suc i) [] f = tt
  fit-take (suc i) (r ∷ rows) f = (f.0, fit-take i rows f.1)

  fit-drop : (i : ℕ) (rows : List A) → RowsFit gs rows → RowsFit gs (drop i rows)
  unfolding RowsFit
  fit-drop zero rows f = f
  fit-drop (suc i) [] f = tt
  fit-drop (suc i) (r ∷ rows) f = fit-drop i rows f.1

  pub fit-without : (i : ℕ) (rows : List A) → RowsFit gs rows → RowsFit gs (without i rows)
  unfolding without
  fit-without i rows f = fit_append (take i rows) (drop (suc i) rows) (fit-take i rows f) (fit-drop (suc i) rows f)

-- ---- the computed tests

and-group : (a b c : Bool) → (a && (b && c)) ≡ ((a && b) && c)
and-group true b c = refl
and-group false b c = refl

pub room-append : (cs ds : List Column) → room_test (cs ++ ds) ≡ (room_test cs && room_test ds)
unfolding room_test
room-append [] ds = refl
room-append (c ∷ cs) ds = rw (room-append cs ds) (and-group (leb (length c.values) c.field.places) (room_test cs) (room_test ds))

pub unused-append : (b : List ℕ) (cs ds : List Column) → unused_test b (cs ++ ds) ≡ (unused_test b cs && unused_test b ds)
unfolding unused_test
unused-append b [] ds = refl
unused-append b (c ∷ cs) ds = rw (unused-append b cs ds) (and-group (rest_zero b c.field (length c.values)) (unused_test b cs) (unused_test b ds))

module _ {A : Type 0} (rows : List A) where
  -- rows that are no more than the places of each part
  pub room-rows : (k : ℕ) (gs : List (Part A)) → places_test k gs ≡ true → length rows ≤ k → room_test (columns_of gs rows) ≡ true
  unfolding room_test columns_of places_test
  room-rows k [] h r = refl
  room-rows k (g ∷ gs) h r =
      let h' = (and-eq-true_iff (eqb g.field.places k) (places_test k gs)).0 h in
      rw (eqb-true g.field.places k h'.0, length-map rows g.get, le-leb (length rows) k r, room-rows k gs h'.1 r)

  -- the test of one part is that of them all
  pub rooms-test : (k : ℕ) (gs : List (Part A)) → places_test k gs ≡ true → 0 < length gs → room_test (columns_of gs rows) ≡ leb (length rows) k
  unfolding room_test columns_of places_test
  rooms-test k [] h some = absurd (omega arith)
  rooms-test k (g ∷ gs) h some =
      let h' = (and-eq-true_iff (eqb g.field.places k) (places_test k gs)).0 h in
      rw (eqb-true g.field.places k h'.0, length-map rows g.get) (go (leb (length rows) k) refl h'.1)
    where
      go : (t : Bool) → leb (length rows) k ≡ t → places_test k gs ≡ true
          → (leb (length rows) k && room_test (map (column_of rows) gs)) ≡ leb (length rows) k
      go true e h = rw (e, room-rows k gs h (leb-true (length rows) k e))
      go false e h = rw e

  -- what is unused follows from how many rows there are
  pub rests-test : (b : List ℕ) (gs : List (Part A)) → unused_test b (columns_of gs rows) ≡ rest_test gs b (length rows)
  unfolding unused_test columns_of rest_test
  rests-test b [] = refl
  rests-test b (g ∷ gs) = rw (length-map rows g.get, rests-test b gs)
