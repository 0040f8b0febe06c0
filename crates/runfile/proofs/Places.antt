-- The numbers and rows of an accepted file stand at the places that the plan's text gives them. Assumes nothing.
use Prim.Native.Nat.{ℕ, zero, suc, ◌+◌, ◌-◌, ◌*◌, ◌≤◌, ◌<◌, min}
use native.Mathlib.Omega.{arith}
use mathlib.Core.Path.{◌≡◌, refl, sym, ap, ◌∙◌}
use mathlib.Core.Logic.{◌≢◌}
use mathlib.Core.Bool.{Bool, true, false, cond}
use mathlib.Core.List.{List, [], ◌∷◌, ◌++◌, append_assoc, append-nil}
use lib.Dec.{eqb}
use lib.ListN.{length, take, drop, get_or, length-append, length-drop}
use lib.Seq.{take-suc, split_at, drop-append-add, drop_at, take-length}
use Rattle.std.proofs.lemmas.List.{get_or_past}
use Rattle.text.proofs.PutLaws.{drop-next}
use Rattle.text.proofs.FieldTrip.{comma-trip}
use Rattle.text.specs.Number.{digit, ceiling, digits_from, number_from, number_at}
use Rattle.std.specs.Prelude.{Some, None}
use Rattle.std.proofs.lemmas.Option.{none-some, same_Some, some_pair_parts, option_and_then_some}
use Rattle.text.specs.Field.{after_comma, field, number_field_at}
use Rattle.plans.specs.Plan.{Crash, Delay, Plan, crash_range, delay_range, plan_test}
use Rattle.runfile.specs.Text.{fields_text, line_text, start_text, crash_text, delay_text, rows_text, head_text, plan_text}
use Rattle.runfile.specs.File.{accepted, file_of}
use Rattle.runfile.specs.Reader.{fields_at, ring_place, crash_place, delay_place}
use Rattle.plans.proofs.Tests.{tests-of, crash-small, delay-small, ranges, ranges-good, ring-nodes}
use Rattle.runfile.proofs.Written.{field_next, field-last}
use Rattle.plans.proofs.Rows.{every-at}
use Rattle.runfile.proofs.RoundTrip.{rows_append, rows_snoc, written_back, accepted-plan}
use Rattle.runfile.proofs.Writing.{ring-line, ring-parts, ring-none}
use Rattle.runfile.proofs.Size.{pair_size}

-- ---- a field that was read lies within the text

digits-within : (a i : ℕ) (s : List ℕ) → (digits_from a i s).1 ≤ i + length s
digits-within a i [] = omega arith
digits-within a i (b ∷ s) = by (digit b) (digits-within (a * 10 + (b - 48)) (i + 1) s)
  where
    by : (t : Bool) → (digits_from (a * 10 + (b - 48)) (i + 1) s).1 ≤ i + 1 + length s
        → (cond t (digits_from (a * 10 + (b - 48)) (i + 1) s) (min a ceiling, i)).1 ≤ i + suc (length s)
    by true h = omega arith
    by false h = omega arith

number-within : (i : ℕ) (s : List ℕ) (v j : ℕ) → number_from i s ≡ Some (v, j) → j ≤ i + length s
number-within i [] v j e = absurd (none-some _ e)
number-within i (b ∷ s) v j e = by (eqb b 48) (digit b) e
  where
    by : (x y : Bool) → cond x (Some (0, i + 1)) (cond y (Some (digits_from 0 i (b ∷ s))) None) ≡ Some (v, j) → j ≤ i + suc (length s)
    by true y e = let p = some_pair_parts 0 v (i + 1) j e in omega arith
    by false true e = let p = ap (λ (q : ℕ × ℕ). q.1) (same_Some _ _ e) in omega (arith, digits-within 0 i (b ∷ s))
    by false false e = absurd (none-some _ e)

pub field-within : (s : List ℕ) (at v j : ℕ) → number_field_at s at ≡ Some (v, j) → j ≤ length s
unfolding number_field_at
field-within s at v j e = option_and_then_some (number_at s) (after_comma s at) (v, j) e λ i p q.
    let c = comma-trip s at i p in
    let long = ap length c.1 in
    omega (arith, number-within i (drop i s) v j q, length-drop i s, length-drop at s, long, c.0)

-- at the end of a text no field stands
pub field-none : (s : List ℕ) (at : ℕ) → length s ≤ at → number_field_at s at ≡ None
unfolding number_field_at
field-none s at h = rw (get_or_past s at 0 h)

-- for the places of a row's fields
pub ruleset within_text = (field-within, field-none)

fields-cut : (i : ℕ) (xs : List ℕ) → fields_text xs ≡ rows_text field (take i xs) ++ fields_text (drop i xs)
unfolding fields_text rows_text
fields-cut zero xs = refl
fields-cut (suc i) [] = refl
fields-cut (suc i) (x ∷ xs) =
    ap (λ (t : List ℕ). field x ++ t) (fields-cut i xs) ∙ sym (append_assoc (field x) (rows_text field (take i xs)) (fields_text (drop i xs)))

-- a written number, with what stands after it, is read
field-read : (l : List ℕ) (at x : ℕ) (xs rest : List ℕ) → drop at l ≡ fields_text (x ∷ xs) ++ rest → x < ceiling
    → number_field_at l at ≡ Some (x, at + length (field x))
field-read l at x [] rest e h = (field-last l at x rest e h).0
field-read l at x (y ∷ ys) rest e h = (field_next l at x y ys rest e h).0

rows_cut : {A : Type 0} (text : A → List ℕ) (xs : List A) (r : A) (ys : List A)
    → rows_text text (xs ++ (r ∷ ys)) ≡ rows_text text xs ++ (text r ++ rows_text text ys)
unfolding rows_text
rows_cut text xs r ys = rows_append text xs (r ∷ ys)

-- a written row, with what stands before and after it, is read at its place
row_read : (before : List ℕ) (letter a b : ℕ) (rest : List ℕ) → a < ceiling → b < ceiling
    → fields_at (before ++ (line_text letter (a ∷ b ∷ []) ++ rest)) (length before)
    ≡ Some (a, b, length (before ++ line_text letter (a ∷ b ∷ [])))
unfolding line_text fields_at
row_read before letter a b rest ha hb =
    let s : List ℕ = before ++ (line_text letter (a ∷ b ∷ []) ++ rest) in
    let there : drop (length before + 1) s ≡ fields_text (a ∷ b ∷ []) ++ rest = drop-append-add before (line_text letter (a ∷ b ∷ []) ++ rest) 1 in
    let x = field_next s (length before + 1) a b [] rest there ha in
    let y = field-last s (length before + 1 + length (field a)) b rest x.1 hb in
    rw (x.0, y.0)
    (ap (λ (k : ℕ). Some (a, b, k))
    (omega (arith, length-append before (line_text letter (a ∷ b ∷ [])), pair_size letter a b)))

-- ---- places

module _ (p : Plan) where
  -- the first number of the Q line stands after its letter
  pub ring-place-first : ring_place p 0 ≡ length (start_text p) + 1
  unfolding ring_place rows_text
  ring-place-first = length-append (start_text p) (81 ∷ [])

  -- the first crash row stands after the Q line's line feed, and after the P line where there is no Q line
  pub ring-place-last : length p.ring ≢ 0 → ring_place p (length p.ring) + 1 ≡ crash_place p 0
  unfolding ring_place crash_place head_text rows_text
  ring-place-last h =
      rw (take-length p.ring, ring-parts p.ring h)
      (simp length-append (omega arith))

  pub crash-place-first : length p.ring ≡ 0 → crash_place p 0 ≡ length (start_text p)
  unfolding crash_place head_text rows_text
  crash-place-first h = rw (ring-none p.ring h) (simp append-nil)

  -- the first delay row stands where the crash rows end
  pub crash-place-last : crash_place p (length p.crashes) ≡ delay_place p 0
  unfolding crash_place delay_place rows_text
  crash-place-last = rw (take-length p.crashes, append-nil (rows_text crash_text p.crashes))

  module _ (i : ℕ) (h : i < length p.ring) where
    pub ring-place-next : ring_place p (suc i) ≡ ring_place p i + length (field (get_or p.ring i 0))
    unfolding ring_place
    ring-place-next =
        rw (take-suc p.ring i 0 h, rows_snoc field (take i p.ring) (get_or p.ring i 0))
        (simp length-append (omega arith))

    -- what stands from the number on
    ring-parts-at : drop (ring_place p i) (plan_text p)
        ≡ fields_text (get_or p.ring i 0 ∷ drop (i + 1) p.ring) ++ (rows_text crash_text p.crashes ++ rows_text delay_text p.delays)
    unfolding ring_place plan_text head_text line_text
    ring-parts-at =
        let rest : List ℕ = rows_text crash_text p.crashes ++ rows_text delay_text p.delays in
        let front : List ℕ = rows_text field (take i p.ring) in
        let size : length p.ring ≢ 0 = λ z. absurd (omega arith) in
        let text : plan_text p ≡ (start_text p ++ (81 ∷ front)) ++ (fields_text (drop i p.ring) ++ rest) =
        rw (ring-line p.ring size, fields-cut i p.ring) (simp append_assoc) in
        ap (drop (length (start_text p ++ (81 ∷ front)))) text
        ∙ drop_at (start_text p ++ (81 ∷ front)) (fields_text (drop i p.ring) ++ rest) _ refl
        ∙ rw (drop-next p.ring i h)

  module _ (z : Crash) (i : ℕ) (h : i < length p.crashes) where
    pub crash-place-next : crash_place p (suc i) ≡ crash_place p i + length (crash_text (get_or p.crashes i z))
    unfolding crash_place
    crash-place-next =
        rw (take-suc p.crashes i z h, rows_snoc crash_text (take i p.crashes) (get_or p.crashes i z))
        (simp length-append (omega arith))

    -- the plan's text, parted at the row
    crash-parts : plan_text p ≡ (head_text p ++ rows_text crash_text (take i p.crashes))
        ++ (crash_text (get_or p.crashes i z) ++ (rows_text crash_text (drop (suc i) p.crashes) ++ rows_text delay_text p.delays))
    unfolding plan_text
    crash-parts =
        let rows : rows_text crash_text p.crashes
        ≡ rows_text crash_text (take i p.crashes) ++ (crash_text (get_or p.crashes i z) ++ rows_text crash_text (drop (suc i) p.crashes)) =
        ap (rows_text crash_text) (split_at p.crashes i z h)
        ∙ rows_cut crash_text (take i p.crashes) (get_or p.crashes i z) (drop (suc i) p.crashes) in
        ap (λ (t : List ℕ). head_text p ++ (t ++ rows_text delay_text p.delays)) rows ∙ simp append_assoc

  module _ (z : Delay) (i : ℕ) (h : i < length p.delays) where
    pub delay-place-next : delay_place p (suc i) ≡ delay_place p i + length (delay_text (get_or p.delays i z))
    unfolding delay_place
    delay-place-next =
        rw (take-suc p.delays i z h, rows_snoc delay_text (take i p.delays) (get_or p.delays i z))
        (simp length-append (omega arith))

    delay-parts : plan_text p ≡ (head_text p ++ (rows_text crash_text p.crashes ++ rows_text delay_text (take i p.delays)))
        ++ (delay_text (get_or p.delays i z) ++ rows_text delay_text (drop (suc i) p.delays))
    unfolding plan_text
    delay-parts =
        let rows : rows_text delay_text p.delays
        ≡ rows_text delay_text (take i p.delays) ++ (delay_text (get_or p.delays i z) ++ rows_text delay_text (drop (suc i) p.delays)) =
        ap (rows_text delay_text) (split_at p.delays i z h) ∙ rows_cut delay_text (take i p.delays) (get_or p.delays i z) (drop (suc i) p.delays) in
        ap (λ (t : List ℕ). head_text p ++ (rows_text crash_text p.crashes ++ t)) rows ∙ simp append_assoc

-- ---- the rows of a plan that a file may hold

module _ (p : Plan) (g : plan_test p ≡ true) where
  pub crash-in-range : (z : Crash) (i : ℕ) → i < length p.crashes → crash_range p (get_or p.crashes i z) ≡ true
  crash-in-range z i h = every-at (crash_range p) p.crashes i z (tests-of p g).crashes h

  pub delay-in-range : (z : Delay) (i : ℕ) → i < length p.delays → delay_range p (get_or p.delays i z) ≡ true
  delay-in-range z i h = every-at (delay_range p) p.delays i z (tests-of p g).delays h

-- ---- the rows of an accepted file

module _ (s : List ℕ) (p : Plan) (e : file_of s ≡ accepted p) where
  -- at the place of number i of the Q line stands its field, and after it the place of the next number
  pub ring-at : (i : ℕ) → i < length p.ring → number_field_at s (ring_place p i) ≡ Some (get_or p.ring i 0, ring_place p (suc i))
  ring-at i h =
      let g = accepted-plan s p e in
      let x : ℕ = get_or p.ring i 0 in
      let rest : List ℕ = rows_text crash_text p.crashes ++ rows_text delay_text p.delays in
      let there : drop (ring_place p i) s ≡ fields_text (x ∷ drop (i + 1) p.ring) ++ rest =
      ap (drop (ring_place p i)) (sym (written_back s p e)) ∙ ring-parts-at p i h in
      let read = field-read s (ring_place p i) x (drop (i + 1) p.ring) rest there (omega (arith, ring-nodes p g i h, (ranges p g).n-high)) in
      read ∙ ap (λ (k : ℕ). Some (x, k)) (sym (ring-place-next p i h))

  -- at the place of crash row i stands its line, and after it the place of the next row
  pub crash-at : (z : Crash) (i : ℕ) → i < length p.crashes
      → fields_at s (crash_place p i) ≡ Some ((get_or p.crashes i z).tick, (get_or p.crashes i z).node, crash_place p (suc i))
  unfolding crash_place crash_text
  crash-at z i h =
      let g = accepted-plan s p e in
      let r : Crash = get_or p.crashes i z in
      let small = crash-small p r (ranges-good p g) (crash-in-range p g z i h) in
      let before : List ℕ = head_text p ++ rows_text crash_text (take i p.crashes) in
      let rest : List ℕ = rows_text crash_text (drop (suc i) p.crashes) ++ rows_text delay_text p.delays in
      let text : s ≡ before ++ (crash_text r ++ rest) = sym (written_back s p e) ∙ crash-parts p z i h in
      ap (λ (t : List ℕ). fields_at t (length before)) text
      ∙ row_read before 67 r.tick r.node rest (omega (arith, small.0)) (omega (arith, small.1))
      ∙ ap (λ (k : ℕ). Some (r.tick, r.node, k)) (length-append before (crash_text r) ∙ sym (crash-place-next p z i h))

  pub delay-at : (z : Delay) (i : ℕ) → i < length p.delays
      → fields_at s (delay_place p i) ≡ Some ((get_or p.delays i z).number, (get_or p.delays i z).delay, delay_place p (suc i))
  unfolding delay_place delay_text
  delay-at z i h =
      let g = accepted-plan s p e in
      let r : Delay = get_or p.delays i z in
      let small = delay-small p r (ranges-good p g) (delay-in-range p g z i h) in
      let before : List ℕ = head_text p ++ (rows_text crash_text p.crashes ++ rows_text delay_text (take i p.delays)) in
      let rest : List ℕ = rows_text delay_text (drop (suc i) p.delays) in
      let text : s ≡ before ++ (delay_text r ++ rest) = sym (written_back s p e) ∙ delay-parts p z i h in
      ap (λ (t : List ℕ). fields_at t (length before)) text
      ∙ row_read before 76 r.number r.delay rest (omega (arith, small.0)) (omega (arith, small.1))
      ∙ ap (λ (k : ℕ). Some (r.number, r.delay, k)) (length-append before (delay_text r) ∙ sym (delay-place-next p z i h))
