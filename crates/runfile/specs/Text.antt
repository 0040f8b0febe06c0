-- The text of a plan: document 01's 'Run file and log', document 02's #101 for the line Q. Assumes nothing.
use Rattle.std.specs.Prelude.{List, [], ◌∷◌, ◌++◌, ℕ}
use Rattle.text.specs.Field.{field, line_feed}
use Rattle.plans.specs.Plan.{Crash, Delay, Plan}

abbrev pub letter_p : ℕ
letter_p = 80

abbrev pub letter_q : ℕ
letter_q = 81

abbrev pub letter_c : ℕ
letter_c = 67

abbrev pub letter_l : ℕ
letter_l = 76

-- numbers as fields, up to the line's end
unfoldable pub fields_text : List ℕ → List ℕ
fields_text [] = line_feed ∷ []
fields_text (x ∷ xs) = field x ++ fields_text xs

-- a letter and numbers: 'Fields in a fixed order parted by commas, no quoting; each line ends in one line feed'
unfoldable pub line_text : ℕ → List ℕ → List ℕ
line_text letter xs = letter ∷ fields_text xs

-- `P,N,H,W,D,end`
unfoldable pub start_text : Plan → List ℕ
start_text p = line_text letter_p (p.n ∷ p.h ∷ p.w ∷ p.d ∷ p.end ∷ [])

-- `Q` and 'N node numbers parted by commas'; no line where there are none
unfoldable pub ring_text : List ℕ → List ℕ
ring_text [] = []
ring_text (k ∷ ks) = line_text letter_q (k ∷ ks)

-- `C,tick,node`
unfoldable pub crash_text : Crash → List ℕ
crash_text r = line_text letter_c (r.tick ∷ r.node ∷ [])

-- `L,number,delay`
unfoldable pub delay_text : Delay → List ℕ
delay_text r = line_text letter_l (r.number ∷ r.delay ∷ [])

-- the lines of rows, one after another
unfoldable pub rows_text : {A : Type 0} → (A → List ℕ) → List A → List ℕ
rows_text text [] = []
rows_text text (r ∷ rs) = text r ++ rows_text text rs

-- 'one P', 'after P, one line Q'
unfoldable pub head_text : Plan → List ℕ
head_text p = start_text p ++ ring_text p.ring

-- 'then lines C; then lines L'
unfoldable pub plan_text : Plan → List ℕ
plan_text p = head_text p ++ (rows_text crash_text p.crashes ++ rows_text delay_text p.delays)
