-- A line's form, by the tests of the code. Assumes nothing.
use Prim.Native.Nat.{ℕ, zero, suc, ◌<◌, ◌≤◌}
use native.Mathlib.Omega.{arith}
use mathlib.Core.Path.{◌≡◌, refl, ◌∙◌}
use mathlib.Core.Bool.{Bool, true, false, cond}
use mathlib.Core.List.{List, [], ◌∷◌}
use Rattle.std.specs.Prelude.{Option, None, Some, Err}
use lib.Dec.{eqb}
use lib.ListN.{length, get_or}
use borrow.Author.Tests.{ne_eqb}
use Rattle.limits.specs.declared.Refusal.TheVariants.{BadForm}
use Rattle.text.specs.Field.{read_then, ends, number_field_at}
use Rattle.plans.specs.Plan.{Plan, start_plan}
use Rattle.runfile.specs.File.{Row, start, two_of, numbers_then, ring_of, start_of, crash_of, delay_of, form_of, row_of, first_line}
use Rattle.runfile.specs.File.{later_line, stop}
use Rattle.runfile.specs.Reader.{line_answer}

-- ---- the letter

row-letter : (n : ℕ) (l : List ℕ) → 1 ≤ length l → row_of n l ≡ form_of n (get_or l 0 0) l
unfolding row_of
row-letter n [] h = absurd (omega arith)
row-letter n (b ∷ s) h = refl

module _ (n : ℕ) (l : List ℕ) (some : 1 ≤ length l) where
  pub row-start : get_or l 0 0 ≡ 80 → row_of n l ≡ start_of l
  unfolding form_of
  row-start e = row-letter n l some ∙ rw e

  pub row-ring : get_or l 0 0 ≡ 81 → row_of n l ≡ ring_of n l
  unfolding form_of
  row-ring e = row-letter n l some ∙ rw e

  pub row-crash : get_or l 0 0 ≡ 67 → row_of n l ≡ crash_of l
  unfolding form_of
  row-crash e = row-letter n l some ∙ rw e

  pub row-delay : get_or l 0 0 ≡ 76 → row_of n l ≡ delay_of l
  unfolding form_of
  row-delay e = row-letter n l some ∙ rw e

-- ---- what a line of the wrong letter comes to

-- two numbers or those of a Q line make no P line, and five no other line
two-first : (x : Option (ℕ × ℕ)) (row : ℕ → ℕ → Row) → ((a b : ℕ) → first_line (Some (row a b)) ≡ stop BadForm)
    → first_line (read_then x (λ a b. Some (row a b))) ≡ stop BadForm
unfolding first_line
two-first (Some (a, b)) row h = h a b
two-first None row h = refl

numbers-first : (k : ℕ) (l : List ℕ) (i : ℕ) (f : List ℕ → Option Row) → ((xs : List ℕ) → first_line (f xs) ≡ stop BadForm)
    → first_line (numbers_then k l i f) ≡ stop BadForm
unfolding numbers_then first_line
numbers-first zero l i f h = by (ends l i)
  where
    by : (t : Bool) → first_line (cond t (f []) None) ≡ stop BadForm
    by true = h []
    by false = refl
numbers-first (suc k) l i f h = by (number_field_at l i) (λ x j. numbers-first k l j (λ xs. f (x ∷ xs)) (λ xs. h (x ∷ xs)))
  where
    by : (y : Option (ℕ × ℕ)) → ((x j : ℕ) → first_line (numbers_then k l j (λ xs. f (x ∷ xs))) ≡ stop BadForm)
        → first_line (read_then y (λ x j. numbers_then k l j (λ xs. f (x ∷ xs)))) ≡ stop BadForm
    by (Some (x, j)) rest = rest x j
    by None rest = refl

start-later : (l : List ℕ) (p : Plan) → later_line p (start_of l) ≡ stop BadForm
unfolding start_of later_line
start-later l p =
    field (number_field_at l 1) _ λ n i.
    field (number_field_at l i) _ λ h j.
    field (number_field_at l j) _ λ w k.
    field (number_field_at l k) _ λ d m.
    field (number_field_at l m) _ λ e z.
    end (ends l z) (start_plan n h w d e)
  where
    field : (x : Option (ℕ × ℕ)) (f : ℕ → ℕ → Option Row) → ((v j : ℕ) → later_line p (f v j) ≡ stop BadForm)
        → later_line p (read_then x f) ≡ stop BadForm
    field (Some (v, j)) f h = h v j
    field None f h = refl

    end : (t : Bool) (q : Plan) → later_line p (cond t (Some (start q)) None) ≡ stop BadForm
    end true q = refl
    end false q = refl

-- a first line that is no P line
pub first-empty : (n : ℕ) (l : List ℕ) → length l < 1 → line_answer (first_line (row_of n l)) ≡ Err BadForm
unfolding row_of first_line line_answer
first-empty n [] h = refl
first-empty n (b ∷ s) h = absurd (omega arith)

pub first-other : (n : ℕ) (l : List ℕ) → 1 ≤ length l → (get_or l 0 0 ≡ 80 → ⊥) → line_answer (first_line (row_of n l)) ≡ Err BadForm
unfolding form_of ring_of crash_of delay_of first_line line_answer
first-other n l h e =
    rw (row-letter n l h, ne_eqb _ _ e, by (eqb (get_or l 0 0) 81) (eqb (get_or l 0 0) 67) (eqb (get_or l 0 0) 76))
  where
    by : (a b c : Bool) → first_line (cond a (ring_of n l) (cond b (crash_of l) (cond c (delay_of l) None))) ≡ stop BadForm
    by true b c = numbers-first n l 1 _ (λ xs. refl)
    by false true c = two-first (two_of l) _ (λ t k. refl)
    by false false true = two-first (two_of l) _ (λ t k. refl)
    by false false false = refl

-- a later line that is no Q, C or L line
pub later-empty : (p : Plan) (l : List ℕ) → length l < 1 → line_answer (later_line p (row_of p.n l)) ≡ Err BadForm
unfolding row_of later_line line_answer
later-empty p [] h = refl
later-empty p (b ∷ s) h = absurd (omega arith)

pub later-other : (p : Plan) (l : List ℕ) → 1 ≤ length l → (get_or l 0 0 ≡ 81 → ⊥) → (get_or l 0 0 ≡ 67 → ⊥)
    → (get_or l 0 0 ≡ 76 → ⊥) → line_answer (later_line p (row_of p.n l)) ≡ Err BadForm
unfolding form_of later_line line_answer
later-other p l h q c d =
    rw (row-letter p.n l h, ne_eqb _ _ q, ne_eqb _ _ c, ne_eqb _ _ d, by (eqb (get_or l 0 0) 80))
  where
    by : (a : Bool) → later_line p (cond a (start_of l) None) ≡ stop BadForm
    by true = start-later l p
    by false = refl

-- and one of bad form
pub later-formless : (p : Plan) (l : List ℕ) → row_of p.n l ≡ None → line_answer (later_line p (row_of p.n l)) ≡ Err BadForm
unfolding later_line line_answer
later-formless p l row = rw row

-- for a line by its letter
pub ruleset letter = (later-formless, row-start, first-empty, first-other, row-ring, row-crash, row-delay, later-empty, later-other)
