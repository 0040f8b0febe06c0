-- The refusal of a file: of a length that is not 1 to 65,536 by 1 and line 0; of any other by 2, 3, 5, 6 or 13 and a line from 1 on, at most
-- 65,536, since every line has a byte. So 4 'is given no longer', document 02's #109. Assumes nothing.
use Prim.Native.Nat.{ℕ, suc, ◌+◌, ◌≤◌}
use native.Mathlib.Omega.{arith}
use mathlib.Core.Path.{◌≡◌, refl, sym, subst, ◌∙◌}
use mathlib.Core.Logic.{◌≢◌}
use mathlib.Core.Bool.{Bool, true, false, cond, ◌&&◌}
use mathlib.Core.List.Memᴰ.{head as here}
use mathlib.Core.List.Memᴰ.{tail as there}
use mathlib.Core.List.{List, [], ◌∷◌, Memᴰ}
use Rattle.std.specs.Prelude.{Option, None, Some}
use lib.Dec.{eqb, leb}
use lib.ListN.{length}
use borrow.Author.Tests.{leb-true}
use Rattle.limits.specs.declared.Refusal.{Refusal}
use Rattle.limits.specs.declared.Refusal.TheVariants.{BadLength, BadForm, OutOfRange, NotRising, ManyDelays, NotEachOnce}
use Rattle.limits.specs.Refusals.{number_of, short_time_out}
use Rattle.plans.specs.Plan.{Plan, within, start_ranges, crash_range, delay_range, crash_order, delay_order, few_delays, with_crash, with_delay}
use Rattle.plans.specs.Plan.{ring_range}
use Rattle.ring.specs.Ring.{each_once}
use Rattle.text.specs.Field.{onto}
use Rattle.runfile.specs.File.{FileAnswer, accepted, turned_down, lines, Row, start, ring, crash, delay, row_of, Step, next, stop, or_else, step_then}
use Rattle.runfile.specs.File.{start_line, fresh, ring_line, early, crash_line, delay_line, first_line, later_line, later_lines, all_lines, file_of}
use mathlib.Mathlib.Data.Bool.Basic.{and_elim_right}

-- ---- the number

-- what a line is refused by
abbrev pub OfLine : Refusal → Type 0
OfLine refusal = Memᴰ refusal (BadForm ∷ OutOfRange ∷ NotRising ∷ ManyDelays ∷ NotEachOnce ∷ [])

-- a line is refused by one of them, or by none
unfoldable Numbered : Step → Type 0
Numbered (next p) = Unit
Numbered (stop refusal) = OfLine refusal

else-numbered : (t : Bool) (refusal : Refusal) (step : Step) → OfLine refusal → Numbered step → Numbered (or_else t refusal step)
unfolding or_else Numbered
else-numbered true refusal step h k = k
else-numbered false refusal step h k = h

bad-form : OfLine BadForm
bad-form = here refl

out-of-range : OfLine OutOfRange
out-of-range = there (here refl)

not-rising : OfLine NotRising
not-rising = there (there (here refl))

many-delays : OfLine ManyDelays
many-delays = there (there (there (here refl)))

not-each-once : OfLine NotEachOnce
not-each-once = there (there (there (there (here refl))))

first-numbered : (x : Option Row) → Numbered (first_line x)
unfolding first_line start_line Numbered
first-numbered None = bad-form
first-numbered (Some (start p)) = else-numbered (start_ranges p) _ _ out-of-range tt
first-numbered (Some (ring ks)) = bad-form
first-numbered (Some (crash r)) = bad-form
first-numbered (Some (delay r)) = bad-form

later-numbered : (p : Plan) (x : Option Row) → Numbered (later_line p x)
unfolding later_line ring_line crash_line delay_line Numbered
later-numbered p None = bad-form
later-numbered p (Some (start q)) = bad-form
later-numbered p (Some (ring ks)) =
    else-numbered (fresh p) _ _ bad-form
    (else-numbered (ring_range p ks) _ _ out-of-range
    (else-numbered (each_once ks) _ _ not-each-once tt))
later-numbered p (Some (crash r)) =
    else-numbered (early p) _ _ bad-form
    (else-numbered (crash_range p r) _ _ out-of-range
    (else-numbered (crash_order (with_crash p r).crashes) _ _ not-rising tt))
later-numbered p (Some (delay r)) =
    else-numbered (delay_range p r) _ _ out-of-range
    (else-numbered (delay_order (with_delay p r).delays) _ _ not-rising
    (else-numbered (few_delays (with_delay p r).delays) _ _ many-delays tt))

-- ---- the line

onto-few : (b : ℕ) (ls : List (List ℕ)) → length (onto b ls) ≤ suc (length ls)
unfolding onto
onto-few b [] = omega arith
onto-few b (l ∷ ls) = omega arith

-- a file has at most as many lines as bytes
lines-few : (s : List ℕ) → length (lines s) ≤ length s
unfolding lines
lines-few [] = omega arith
lines-few (b ∷ s) = by (eqb b 10) (lines-few s)
  where
    by : (t : Bool) → length (lines s) ≤ length s → length (cond t ((b ∷ []) ∷ lines s) (onto b (lines s))) ≤ suc (length s)
    by true h = omega arith
    by false h = omega (arith, onto-few b (lines s))

-- an answer that refuses, where it does, by one of these numbers and a line from 1 to 65,536
unfoldable ByLine : FileAnswer → Type 0
ByLine (accepted p) = Unit
ByLine (turned_down refusal line) = OfLine refusal × (1 ≤ line) × (line ≤ 65536)

then-by-line : (step : Step) (line : ℕ) (f : Plan → FileAnswer) → Numbered step → 1 ≤ line → line ≤ 65536 → ((p : Plan) → ByLine (f p))
    → ByLine (step_then step line f)
unfolding step_then Numbered ByLine
then-by-line (next p) line f h low high rest = rest p
then-by-line (stop refusal) line f h low high rest = (h, low, high)

later-by-line : (p : Plan) (line : ℕ) (ls : List (List ℕ)) → 1 ≤ line → line + length ls ≤ 65537 → ByLine (later_lines p line ls)
unfolding later_lines ByLine
later-by-line p line [] low h = tt
later-by-line p line (l ∷ ls) low h =
    then-by-line (later_line p (row_of p.n l)) line _ (later-numbered p (row_of p.n l)) low (omega arith)
    (λ q. later-by-line q (suc line) ls (omega arith) (omega arith))

all-by-line : (ls : List (List ℕ)) → length ls ≤ 65536 → ByLine (all_lines ls)
unfolding all_lines ByLine
all-by-line [] h = (bad-form, omega arith, omega arith)
all-by-line (l ∷ ls) h =
    then-by-line (first_line (row_of 0 l)) 1 _ (first-numbered (row_of 0 l)) (omega arith) (omega arith)
    (λ p. later-by-line p 2 ls (omega arith) (omega arith))

-- ---- a refused file

module _ (s : List ℕ) (refusal : Refusal) (line : ℕ) (e : file_of s ≡ turned_down refusal line) where
  -- of a length that is allowed
  pub refused-by-line : (leb 1 (length s) && leb (length s) 65536) ≡ true → OfLine refusal × (1 ≤ line) × (line ≤ 65536)
  unfolding file_of within ByLine
  refused-by-line good =
      let few : length s ≤ 65536 = leb-true (length s) 65536 (and_elim_right (leb 1 (length s)) (leb (length s) 65536) good) in
      let all : file_of s ≡ all_lines (lines s) = rw good refl in
      subst ByLine (sym all ∙ e) (all-by-line (lines s) (omega (arith, lines-few s, few)))

  -- of any length: the numbers go from 1 to 13, and none is 4
  pub refusal-small : (1 ≤ number_of refusal) × (number_of refusal ≤ 13) × (line ≤ 65536) × (number_of refusal ≢ short_time_out)
  unfolding file_of within
  refusal-small = by (leb 1 (length s) && leb (length s) 65536) refl
    where
      of-line : (r : Refusal) → OfLine r → (1 ≤ number_of r) × (number_of r ≤ 13) × (number_of r ≢ short_time_out)
      of-line r (here q) = rw q (omega arith, omega arith, λ k. omega arith)
      of-line r (there (here q)) = rw q (omega arith, omega arith, λ k. omega arith)
      of-line r (there (there (here q))) = rw q (omega arith, omega arith, λ k. omega arith)
      of-line r (there (there (there (here q)))) = rw q (omega arith, omega arith, λ k. omega arith)
      of-line r (there (there (there (there (here q))))) = rw q (omega arith, omega arith, λ k. omega arith)
      of-line r (there (there (there (there (there q))))) = elim q [ ]

      by : (t : Bool) → (leb 1 (length s) && leb (length s) 65536) ≡ t
          → (1 ≤ number_of refusal) × (number_of refusal ≤ 13) × (line ≤ 65536) × (number_of refusal ≢ short_time_out)
      by true good =
          let r = refused-by-line good in
          let o = of-line refusal r.0 in
          (o.0, o.1, r.2, o.2)
      by false bad =
          let same : turned_down BadLength 0 ≡ turned_down refusal line = sym (rw bad refl) ∙ e in
          let a : BadLength ≡ refusal = cc in
          let b : ◌≡◌ {A = ℕ} 0 line = cc in
          rw (← a, ← b) (omega arith, omega arith, omega arith, λ k. omega arith)
