-- Rows written one after another, and the lines of a plan. Assumes nothing.
use mathlib.Core.Path.{◌≡◌, refl, sym, ap, ◌∙◌}
use mathlib.Core.Logic.{◌≢◌}
use mathlib.Core.List.{List, [], ◌∷◌, ◌++◌}
use Prim.Native.Nat.{ℕ, ◌+◌, ◌≤◌, ◌<◌}
use native.Mathlib.Numerals.{add-one}
use lib.ListN.{length, drop, get_or, drop_of_length-le}
use lib.Seq.{drop-cons}
use Rattle.text.specs.Field.{field, line_feed}
use Rattle.text.specs.declared.Writer.{Writer}
use Rattle.text.specs.Put.{Writes}
use Rattle.text.proofs.PutLaws.{writes-text, writes-none}
use Rattle.plans.specs.Plan.{Plan, start_plan}
use Rattle.plans.specs.Plain.{no_crash, row_at}
use Rattle.runfile.specs.Text.{letter_q, start_text, ring_text, head_text, crash_text, delay_text, rows_text, plan_text}
use Rattle.runfile.proofs.Writing.{ring-parts, ring-none}
use Rattle.store.specs.declared.CrashRow.{CrashRow}
use Rattle.store.specs.declared.DelayRow.{DelayRow}
use Rattle.store.specs.Inside.{crash_row, delay_at, delay_row}

-- the rows from place i on: the one there and those after it; from the end on, none
module _ {A : Type 0} (text : A → List ℕ) (xs : List A) where
  pub rows-next : (i : ℕ) (z : A) → i < length xs → rows_text text (drop i xs) ≡ text (get_or xs i z) ++ rows_text text (drop (i + 1) xs)
  unfolding rows_text
  rows-next i z h = ap (rows_text text) (drop-cons xs i z h ∙ ap (λ (k : ℕ). get_or xs i z ∷ drop k xs) (sym (add-one i)))

  pub rows-last : (i : ℕ) → length xs ≤ i → rows_text text (drop i xs) ≡ []
  unfolding rows_text
  rows-last i h = ap (rows_text text) (drop_of_length-le xs h)

-- and as they are read of a store: a number of the Q line, a C row, an L row
pub number-next : (p : Plan) (i k : ℕ) → k ≡ get_or p.ring i 0 → i < length p.ring
    → rows_text field (drop i p.ring) ≡ field k ++ rows_text field (drop (i + 1) p.ring)
number-next p i k e h = rw e (rows-next field p.ring i 0 h)

pub crash-next : (p : Plan) (i : ℕ) (row : CrashRow) → row ≡ crash_row (row_at p i) → i < length p.crashes
    → rows_text crash_text (drop i p.crashes)
    ≡ crash_text (record { tick = row.tick; node = row.node }) ++ rows_text crash_text (drop (i + 1) p.crashes)
crash-next p i row e h = rw e (rows-next crash_text p.crashes i no_crash h)

pub delay-next : (p : Plan) (i : ℕ) (row : DelayRow) → row ≡ delay_row (delay_at p i) → i < length p.delays
    → rows_text delay_text (drop i p.delays)
    ≡ delay_text (record { number = row.number; delay = row.delay }) ++ rows_text delay_text (drop (i + 1) p.delays)
delay-next p i row e h = rw e (rows-next delay_text p.delays i (record { number = 0; delay = 0 }) h)

-- a Q line of numbers that are there: its letter, its numbers, its end
pub line-parts : (ks : List ℕ) → length ks ≢ 0 → ring_text ks ≡ (letter_q ∷ []) ++ (rows_text field ks ++ (line_feed ∷ []))
line-parts ks h = ring-parts ks h

-- the P line of numbers that were read of a store, then the Q line
pub start-read : (p : Plan) {n h w d end : ℕ} → n ≡ p.n → h ≡ p.h → w ≡ p.w → d ≡ p.d → end ≡ p.end
    → head_text p ≡ start_text (start_plan n h w d end) ++ ring_text p.ring
unfolding head_text start_text start_plan
start-read p en eh ew ed ee = rw (en, eh, ew, ed, ee) refl

-- a plan's lines: the P line and the Q line, then the C lines and the L lines
pub plan-parts : (p : Plan) → plan_text p ≡ head_text p ++ (rows_text crash_text p.crashes ++ rows_text delay_text p.delays)
unfolding plan_text
plan-parts p = refl

-- without a Q line nothing is written
pub none_written : (ks : List ℕ) (w : Writer) → length ks ≡ 0 → Writes w w (ring_text ks)
none_written ks w e = writes-text (sym (ring-none ks e)) (writes-none w)
