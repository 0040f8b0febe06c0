-- The reader's pass over a file, line by line. Assumes nothing.
use Prim.Native.Nat.{ℕ, suc, ◌+◌, ◌≤◌, ◌<◌}
use native.Mathlib.Omega.{arith}
use mathlib.Core.Path.{◌≡◌, refl, sym, ap, ◌∙◌}
use mathlib.Core.List.{List, [], ◌∷◌}
use native.Mathlib.Numerals.{add-one}
use lib.ListN.{length}
use borrow.Author.Tests.{le-leb, lt-leb}
use mathlib.Core.Bool.{true, false}
use Rattle.ring.specs.Ring.{listing_all}
use Rattle.plans.specs.Plan.{Plan, within, start_plan, start_ranges, with_crashed}
use Rattle.runfile.specs.Text.{start_text}
use Rattle.runfile.specs.File.{start, start_line, or_else, Step, next, stop, lines, row_of, first_line, later_line, step_then, later_lines, all_lines, file_of}
use Rattle.runfile.specs.Reader.{crash_floor, delay_floor, outline_of, read_of, sofar_of, Kept, line_answer}
use Rattle.std.specs.Prelude.{Some, None, Ok, Err}
use Rattle.limits.specs.declared.Refusal.{Refusal}
use Rattle.limits.specs.declared.Refusal.TheVariants.{BadLength, BadForm, OutOfRange}
use Rattle.runfile.specs.declared.Sofar.{Sofar}
use Rattle.runfile.proofs.Trip.{start-rows}
use Rattle.runfile.proofs.Grown.{first-inv, opened-text, opened-good, later-inv, grown-good, grown-crashes}
use Rattle.plans.proofs.Tests.{ranges-of, tests-of}

-- the lines of s before its last bytes `rest` were passed, `line` is the number of the last of them, and st is kept of them
pub record Passed (s : List ℕ) (st : Sofar) (line : ℕ) (rest : List ℕ) : Type 0 where
  pub plan : Plan
  pub kept : Kept plan st
  pub file : all_lines (lines s) ≡ later_lines plan (suc line) (lines rest)
  pub few : st.outline.crashes < line
  pub each : line + length rest ≤ length s

-- what a step's answer says of the step
next-inv : (x : Step) (st : Sofar) → Ok st ≡ line_answer x → (q : Plan) × (x ≡ next q) × (st ≡ sofar_of q)
unfolding line_answer
next-inv (next q) st e = (q, refl, cc)
next-inv (stop k) st e = let z : ◌≡◌ {A = ℕ} 0 1 = cc in absurd (omega arith)

stop-inv : (x : Step) (k : Refusal) → Err k ≡ line_answer x → x ≡ stop k
unfolding line_answer
stop-inv (next q) k e = let z : ◌≡◌ {A = ℕ} 0 1 = cc in absurd (omega arith)
stop-inv (stop m) k e = let same : k ≡ m = cc in ap stop (sym same)

-- what is kept has the range of N
pub kept-n : (p : Plan) (st : Sofar) → Kept p st → (1 ≤ st.outline.n) × (st.outline.n ≤ 64)
unfolding sofar_of outline_of
kept-n p st k =
    let r = ranges-of p (tests-of p k.good).start in
    let same : st.outline.n ≡ p.n = ap (λ (s : Sofar). s.outline.n) k.same in
    (omega (arith, r.n-low), omega (arith, r.n-high))

-- a P line whose values are in their ranges, as what is kept of it
pub first-kept : (l : List ℕ) (n h w d end : ℕ) → row_of 0 l ≡ Some (start (start_plan n h w d end))
    → start_ranges (start_plan n h w d end) ≡ true
    → line_answer (first_line (row_of 0 l)) ≡ Ok (record {
      outline = record { n = n; h = h; w = w; d = d; end = end; ring = 0; crashes = 0; delays = 0; rows = length l };
      tick = 0;
      node = 0;
      seen = 0;
      number = 0;
    })
unfolding first_line start_line or_else line_answer sofar_of outline_of start_plan crash_floor delay_floor with_crashed listing_all
first-kept l n h w d end row ranges =
    let text : l ≡ start_text (start_plan n h w d end) = opened-text l _ (record { row = row; ranges = ranges }) in
    rw (row, ranges, ap length text)

-- and where they are not
pub first-outside : (l : List ℕ) (n h w d end : ℕ) → row_of 0 l ≡ Some (start (start_plan n h w d end))
    → start_ranges (start_plan n h w d end) ≡ false
    → line_answer (first_line (row_of 0 l)) ≡ Err OutOfRange
unfolding first_line start_line or_else line_answer
first-outside l n h w d end row ranges = rw (row, ranges)

-- for the first line
pub first-formless : (l : List ℕ) → row_of 0 l ≡ None → line_answer (first_line (row_of 0 l)) ≡ Err BadForm
unfolding first_line line_answer
first-formless l row = rw row

pub ruleset opening = (first-kept, first-outside, first-formless)

module _ (s x t : List ℕ) (parted : lines s ≡ x ∷ lines t) where
  pub first-stop : (k : Refusal) → Err k ≡ line_answer (first_line (row_of 0 x))
      → Err (record { refusal = k; line = 1 }) ≡ read_of (all_lines (lines s))
  unfolding all_lines step_then read_of
  first-stop k a = rw (parted, stop-inv (first_line (row_of 0 x)) k a)

  -- the P line was passed
  pub passed_first : (st : Sofar) → Ok st ≡ line_answer (first_line (row_of 0 x)) → 1 + length t ≤ length s → Passed s st 1 t
  unfolding all_lines step_then sofar_of outline_of
  passed_first st a long =
      let w = next-inv (first_line (row_of 0 x)) st a in
      let o = first-inv (row_of 0 x) w.0 w.1 in
      let none : st.outline.crashes ≡ 0 = ap (λ (t : Sofar). t.outline.crashes) w.2 ∙ ap length (start-rows 0 x w.0 o.row).0 in
      record {
        plan = w.0;
        kept = record { good = opened-good x w.0 o; same = w.2 };
        file = ap all_lines parted ∙ ap (λ (y : Step). step_then y 1 (λ p. later_lines p 2 (lines t))) w.1;
        few = omega arith;
        each = long;
      }

module _ (s : List ℕ) (st : Sofar) (line : ℕ) (rest : List ℕ) (p : Passed s st line rest) where
  -- every line was passed
  pub passed-end : length rest ≡ 0 → Ok st.outline ≡ read_of (all_lines (lines s))
  unfolding read_of sofar_of later_lines lines
  passed-end none = rw (p.file, empty rest none, p.kept.same)
    where
      empty : (l : List ℕ) → length l ≡ 0 → l ≡ []
      empty [] h = refl
      empty (b ∷ l) h = absurd (omega arith)

  module _ (x t : List ℕ) (parted : lines rest ≡ x ∷ lines t) where
    abbrev step : Step
    step = later_line p.plan (row_of p.plan.n x)

    file-step : all_lines (lines s) ≡ step_then step (suc line) (λ q. later_lines q (suc (suc line)) (lines t))
    unfolding later_lines
    file-step = p.file ∙ rw parted

    pub passed-stop : (k : Refusal) → Err k ≡ line_answer step → Err (record { refusal = k; line = line + 1 }) ≡ read_of (all_lines (lines s))
    unfolding step_then read_of
    passed-stop k a = rw (file-step, stop-inv step k a, add-one line)

    -- one line more was passed
    pub passed-next : (new : Sofar) → Ok new ≡ line_answer step → 1 + length t ≤ length rest → Passed s new (line + 1) t
    unfolding step_then sofar_of outline_of
    passed-next new a long =
        let w = next-inv step new a in
        let g = later-inv p.plan (row_of p.plan.n x) w.0 w.1 in
        let was : st.outline.crashes ≡ length p.plan.crashes = ap (λ (t : Sofar). t.outline.crashes) p.kept.same in
        let now : new.outline.crashes ≡ length w.0.crashes = ap (λ (t : Sofar). t.outline.crashes) w.2 in
        let one : length w.0.crashes ≤ length p.plan.crashes + 1 = grown-crashes p.plan _ w.0 g in
        record {
          plan = w.0;
          kept = record { good = grown-good p.plan _ w.0 g p.kept.good; same = w.2 };
          file =
              file-step
              ∙ ap (λ (y : Step). step_then y (suc line) (λ q. later_lines q (suc (suc line)) (lines t))) w.1
              ∙ ap (λ (k : ℕ). later_lines w.0 (suc k) (lines t)) (sym (add-one line));
          few = omega (arith, p.few);
          each = omega (arith, p.each);
        }

-- ---- the length

module _ (s : List ℕ) where
  pub file-empty : length s ≡ 0 → Err (record { refusal = BadLength; line = 0 }) ≡ read_of (file_of s)
  unfolding file_of within read_of
  file-empty h = let z : length s < 1 = omega arith in rw (lt-leb 1 (length s) z)

  pub file-long : 65536 < length s → Err (record { refusal = BadLength; line = 0 }) ≡ read_of (file_of s)
  unfolding file_of within read_of
  file-long h = let some : 1 ≤ length s = omega arith in rw (le-leb 1 (length s) some, lt-leb (length s) 65536 h)

  pub file-lines : (length s ≡ 0 → ⊥) → length s ≤ 65536 → file_of s ≡ all_lines (lines s)
  unfolding file_of within
  file-lines h k = let some : 1 ≤ length s = omega arith in rw (le-leb 1 (length s) some, le-leb (length s) 65536 k)

-- the first line of a file of a length that is allowed, where r is the whole file
pub opened-file : (s r x t : List ℕ) → r ≡ s → (lines r ≡ x ∷ lines t) × (1 + length t ≤ length r) → length s ≤ 65536
    → (lines s ≡ x ∷ lines t) × (1 + length t ≤ length s) × (file_of s ≡ all_lines (lines s))
opened-file s r x t e line few =
    let long : 1 + length t ≤ length s = omega (arith, ap length e, line.1) in
    (ap lines (sym e) ∙ line.0, long, file-lines s (λ z. omega arith) few)

-- for the file whose length is refused
pub ruleset length_refused = (file-empty, file-long)
