-- What a run file comes to: the plan that it holds, or its refusal and the line of it. Document 01's 'Run file and log' and the
-- numbers 1 to 6 of 'Where a call is turned down': 'Places are tried downwards; lines one after another, the first bad line deciding'; document
-- 02's #101 for the line Q and number 13, and its #109, by which 4 'is given no longer'. Assumes nothing.
use Rattle.std.specs.Prelude.{Bool, cond, ◌&&◌, Option, Some, None, List, [], ◌∷◌, ℕ, zero, suc, eqb, length}
use Rattle.limits.specs.Limits.{most_bytes}
use Rattle.limits.specs.declared.Refusal.{Refusal}
use Rattle.limits.specs.declared.Refusal.TheVariants.{BadLength, BadForm, OutOfRange, NotRising, ManyDelays, NotEachOnce}
use Rattle.ring.specs.Ring.{each_once}
use Rattle.text.specs.Field.{line_feed, onto, read_then, ends, number_field_at}
use Rattle.plans.specs.Plan.{Crash, Delay, Plan, start_plan, with_crash, with_delay, within, start_ranges, crash_range, delay_range, crash_order}
use Rattle.plans.specs.Plan.{delay_order, few_delays, with_ring, ring_range}
use Rattle.runfile.specs.Text.{letter_p, letter_q, letter_c, letter_l}

pub data FileAnswer : Type 0 where
  accepted : Plan → FileAnswer
  -- the refusal and its line, from 1, else 0
  turned_down : Refusal → ℕ → FileAnswer

-- ---- lines

-- the lines of a file, each with its line feed. What follows the last line feed is a line too
unfoldable pub lines : List ℕ → List (List ℕ)
lines [] = []
lines (b ∷ s) = cond (eqb b line_feed) ((b ∷ []) ∷ lines s) (onto b (lines s))

-- ---- a line's form

-- what a line says: a P line is a plan without rows
pub data Row : Type 0 where
  start : Plan → Row
  ring : List ℕ → Row
  crash : Crash → Row
  delay : Delay → Row

-- two numbers after the letter, and the line's end
unfoldable pub two_of : List ℕ → Option (ℕ × ℕ)
two_of l =
    read_then (number_field_at l 1) λ a i.
    read_then (number_field_at l i) λ b j.
    cond (ends l j) (Some (a, b)) None

unfoldable pub crash_of : List ℕ → Option Row
crash_of l = read_then (two_of l) λ t k. Some (crash (record { tick = t; node = k }))

unfoldable pub delay_of : List ℕ → Option Row
delay_of l = read_then (two_of l) λ k t. Some (delay (record { number = k; delay = t }))

-- five numbers after the letter, and the line's end
unfoldable pub start_of : List ℕ → Option Row
start_of l =
    read_then (number_field_at l 1) λ n i.
    read_then (number_field_at l i) λ h j.
    read_then (number_field_at l j) λ w k.
    read_then (number_field_at l k) λ d m.
    read_then (number_field_at l m) λ end e.
    cond (ends l e) (Some (start (start_plan n h w d end))) None

-- k numbers from a place on, and the line's end; what they lead to
unfoldable pub numbers_then : ℕ → List ℕ → ℕ → (List ℕ → Option Row) → Option Row
numbers_then zero l i f = cond (ends l i) (f []) None
numbers_then (suc k) l i f = read_then (number_field_at l i) λ x j. numbers_then k l j (λ xs. f (x ∷ xs))

-- 'one line Q with N node numbers'
unfoldable pub ring_of : ℕ → List ℕ → Option Row
ring_of n l = numbers_then n l 1 (λ ks. Some (ring ks))

-- a line of a file with n nodes, by its letter; none where its form is bad: 'letter, field count, digits, line feed'
unfoldable pub form_of : ℕ → ℕ → List ℕ → Option Row
form_of n letter l =
    cond (eqb letter letter_p) (start_of l)
    (cond (eqb letter letter_q) (ring_of n l)
    (cond (eqb letter letter_c) (crash_of l)
    (cond (eqb letter letter_l) (delay_of l) None)))

unfoldable pub row_of : ℕ → List ℕ → Option Row
row_of n [] = None
row_of n (letter ∷ l) = form_of n letter (letter ∷ l)

-- ---- a line after those before it

-- what the file plans up to a line, or what refuses the line
pub data Step : Type 0 where
  next : Plan → Step
  stop : Refusal → Step

-- a line is refused where a test is not passed
unfoldable pub or_else : Bool → Refusal → Step → Step
or_else passed refusal step = cond passed step (stop refusal)

-- a P line: out of range. 'A file with W below H + D .. now runs by the same rules'
unfoldable pub start_line : Plan → Step
start_line p = or_else (start_ranges p) OutOfRange (next p)

-- no Q, C or L line came yet: 'order of letters'
unfoldable pub fresh : Plan → Bool
fresh p = eqb (length p.ring) 0 && (eqb (length p.crashes) 0 && eqb (length p.delays) 0)

-- a Q line: not right after the P line, out of range, then not each node once
unfoldable pub ring_line : Plan → List ℕ → Step
ring_line p ks =
    or_else (fresh p) BadForm
    (or_else (ring_range p ks) OutOfRange
    (or_else (each_once ks) NotEachOnce
    (next (with_ring p ks))))

-- no L line came yet: 'order of letters'
unfoldable pub early : Plan → Bool
early p = eqb (length p.delays) 0

-- a C line: after an L line, out of range, then not rising
unfoldable pub crash_line : Plan → Crash → Step
crash_line p r =
    or_else (early p) BadForm
    (or_else (crash_range p r) OutOfRange
    (or_else (crash_order (with_crash p r).crashes) NotRising
    (next (with_crash p r))))

-- an L line: out of range, not rising, then the 2,049th
unfoldable pub delay_line : Plan → Delay → Step
delay_line p r =
    or_else (delay_range p r) OutOfRange
    (or_else (delay_order (with_delay p r).delays) NotRising
    (or_else (few_delays (with_delay p r).delays) ManyDelays
    (next (with_delay p r))))

-- the first line is the P line
unfoldable pub first_line : Option Row → Step
first_line None = stop BadForm
first_line (Some (start p)) = start_line p
first_line (Some (ring ks)) = stop BadForm
first_line (Some (crash r)) = stop BadForm
first_line (Some (delay r)) = stop BadForm

-- and no later line is
unfoldable pub later_line : Plan → Option Row → Step
later_line p None = stop BadForm
later_line p (Some (start q)) = stop BadForm
later_line p (Some (ring ks)) = ring_line p ks
later_line p (Some (crash r)) = crash_line p r
later_line p (Some (delay r)) = delay_line p r

-- ---- the whole file

-- a line, and then the rest
unfoldable pub step_then : Step → ℕ → (Plan → FileAnswer) → FileAnswer
step_then (next p) line f = f p
step_then (stop refusal) line f = turned_down refusal line

-- the lines after the P line, from this line on
unfoldable pub later_lines : Plan → ℕ → List (List ℕ) → FileAnswer
later_lines p line [] = accepted p
later_lines p line (l ∷ ls) = step_then (later_line p (row_of p.n l)) line (λ q. later_lines q (suc line) ls)

-- the first line, before which no node is known, and the others
unfoldable pub all_lines : List (List ℕ) → FileAnswer
all_lines [] = turned_down BadForm 1
all_lines (l ∷ ls) = step_then (first_line (row_of 0 l)) 1 (λ p. later_lines p 2 ls)

-- a file of a length that is allowed, line after line
unfoldable pub file_of : List ℕ → FileAnswer
file_of s = cond (within 1 most_bytes (length s)) (all_lines (lines s)) (turned_down BadLength 0)
