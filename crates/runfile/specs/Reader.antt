-- What the reader's answers say of a file, and what it keeps of a plan while it reads. Assumes nothing.
use Rattle.std.specs.Prelude.{◌≡◌, Option, Some, None, Result, Ok, Err, Bool, true, false, cond, ◌&&◌, ◌||◌, List, [], ◌∷◌, ◌++◌}
use Rattle.std.specs.Prelude.{ℕ, zero, suc, ◌+◌, eqb, leb, ltb, length, take}
use Rattle.limits.specs.declared.Refusal.{Refusal}
use Rattle.limits.specs.declared.Refusal.TheVariants.{OutOfRange, NotEachOnce}
use Rattle.ring.specs.Ring.{each_once}
use Rattle.text.specs.Field.{read_then, number_field_at, field, ends}
use Rattle.plans.specs.Plan.{Crash, Delay, Plan, every, plan_test, with_crashed}
use Rattle.runfile.specs.Text.{letter_q, start_text, head_text, crash_text, delay_text, rows_text}
use Rattle.runfile.specs.File.{FileAnswer, accepted, turned_down, Step, next, stop}
use Rattle.runfile.specs.declared.Outline.{Outline}
use Rattle.runfile.specs.declared.FileRefusal.{FileRefusal}
use Rattle.runfile.specs.declared.Sofar.{Sofar}

-- ---- the answer

-- a plan's values, how many numbers and rows its Q, C and L lines have, and the place in its text after the P line
unfoldable pub outline_of : Plan → Outline
outline_of p = record {
  n = p.n;
  h = p.h;
  w = p.w;
  d = p.d;
  end = p.end;
  ring = length p.ring;
  crashes = length p.crashes;
  delays = length p.delays;
  rows = length (start_text p);
}

unfoldable pub read_of : FileAnswer → Result Outline FileRefusal
read_of (accepted p) = Ok (outline_of p)
read_of (turned_down refusal line) = Err (record { refusal = refusal; line = line })

-- ---- what is kept of the plan so far

-- the last of x and the rows after it
unfoldable pub last : {A : Type 0} → A → List A → A
last x [] = x
last x (y ∷ ys) = last y ys

-- the least row that may follow: at the last row's tick, with the next node
unfoldable pub crash_floor : List Crash → Crash
crash_floor [] = record { tick = 0; node = 0 }
crash_floor (r ∷ rs) = record { tick = (last r rs).tick; node = suc (last r rs).node }

-- the least number that may follow
unfoldable pub delay_floor : List Delay → ℕ
delay_floor [] = 0
delay_floor (r ∷ rs) = suc (last r rs).number

-- a tick and a node are not below those of the floor
unfoldable pub follows : ℕ → ℕ → ℕ → ℕ → Bool
follows floor_tick floor_node tick node = ltb floor_tick tick || (eqb floor_tick tick && leb floor_node node)

unfoldable pub sofar_of : Plan → Sofar
sofar_of p = record {
  outline = outline_of p;
  tick = (crash_floor p.crashes).tick;
  node = (crash_floor p.crashes).node;
  seen = with_crashed 0 p.crashes;
  number = delay_floor p.delays;
}

-- what is kept is of a plan that a file may hold
pub record Kept (p : Plan) (st : Sofar) : Type 0 where
  pub good : plan_test p ≡ true
  pub same : st ≡ sofar_of p

unfoldable pub line_answer : Step → Result Sofar Refusal
line_answer (next p) = Ok (sofar_of p)
line_answer (stop refusal) = Err refusal

-- the answer r tells what a step does to every plan of which st is kept
abbrev pub Tells : Sofar → (Plan → Step) → Result Sofar Refusal → Type 0
Tells st step r = (p : Plan) → Kept p st → r ≡ line_answer (step p)

-- ---- the numbers of a Q line

-- what a field that was read leads to: whether the rest is there too, and its number before those of the rest
unfoldable pub there_then : Option (ℕ × ℕ) → (ℕ → Bool) → Bool
there_then (Some (x, j)) f = f j
there_then None f = false

unfoldable pub with_rest : Option (ℕ × ℕ) → (ℕ → List ℕ) → List ℕ
with_rest (Some (x, j)) f = x ∷ f j
with_rest None f = []

-- k numbers stand from the place i of a line on, and then the line's end
unfoldable pub numbers_there : ℕ → List ℕ → ℕ → Bool
numbers_there zero l i = ends l i
numbers_there (suc k) l i = there_then (number_field_at l i) λ j. numbers_there k l j

-- these numbers, up to the first that is not there
unfoldable pub numbers_at : ℕ → List ℕ → ℕ → List ℕ
numbers_at zero l i = []
numbers_at (suc k) l i = with_rest (number_field_at l i) λ j. numbers_at k l j

-- what refuses numbers of a Q line where there are n nodes: out of range, then not each node once
unfoldable pub ring_refusal : ℕ → List ℕ → Result Unit Refusal
ring_refusal n ks = cond (every (λ k. ltb k n) ks) (cond (each_once ks) (Ok tt) (Err NotEachOnce)) (Err OutOfRange)

-- ---- the numbers and rows of an accepted file

-- the two numbers of the line at the place `at`, and the place after it
unfoldable pub fields_at : List ℕ → ℕ → Option (ℕ × ℕ × ℕ)
fields_at s at =
    read_then (number_field_at s (at + 1)) λ a i.
    read_then (number_field_at s i) λ b j.
    Some (a, b, j + 1)

-- the places of number i of the Q line, of crash row i and of delay row i in the plan's text
unfoldable pub ring_place : Plan → ℕ → ℕ
ring_place p i = length (start_text p ++ (letter_q ∷ rows_text field (take i p.ring)))

unfoldable pub crash_place : Plan → ℕ → ℕ
crash_place p i = length (head_text p ++ rows_text crash_text (take i p.crashes))

unfoldable pub delay_place : Plan → ℕ → ℕ
delay_place p i = length (head_text p ++ (rows_text crash_text p.crashes ++ rows_text delay_text (take i p.delays)))
