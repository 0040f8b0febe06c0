-- Round trips: the file written from what was read of an accepted file is that file, and what is written is accepted and read back as it
-- was. Assumes nothing.
use Prim.Native.Nat.{ℕ, suc}
use native.Mathlib.Omega.{arith}
use native.Mathlib.Decide.{ℕ_discrete}
use mathlib.Core.Path.{◌≡◌, refl, sym, ap, ◌∙◌, subst}
use mathlib.Core.Logic.{◌≢◌}
use mathlib.Core.Bool.{Bool, true, false, cond}
use mathlib.Core.List.{List, [], ◌∷◌, ◌++◌, append_assoc, append-nil}
use lib.Dec.{eqb}
use lib.ListN.{length}
use borrow.Author.Tests.{le-leb}
use Rattle.plans.specs.Plan.{Crash, Delay, Plan, within, start_ranges, crash_range, delay_range, crash_order, delay_order, few_delays, every}
use Rattle.plans.specs.Plan.{plan_test, start_plan, ring_range, with_ring, with_crash, with_delay}
use Rattle.runfile.specs.Text.{line_text, start_text, ring_text, crash_text, delay_text, rows_text, head_text, plan_text}
use Rattle.text.specs.Field.{onto}
use Rattle.limits.specs.declared.Refusal.TheVariants.{BadLength}
use Rattle.runfile.specs.File.{FileAnswer, accepted, turned_down, Step, next, stop, lines, row_of, or_else, fresh, early, start_line, ring_line, crash_line}
use Rattle.runfile.specs.File.{delay_line, first_line, later_line, step_then, later_lines, all_lines, file_of}
use Rattle.plans.proofs.Rows.{every-there, crash-order-start, delay-order-start, few-start}
use Rattle.runfile.proofs.Trip.{start-rows, crash-text, delay-text}
use Rattle.runfile.proofs.Grown.{first-inv, opened-text, opened-good, Grown, by-ring, by-crash, by-delay, no_rows, later-inv, grown-good}
use Rattle.runfile.proofs.Grown.{ring-small, ring-bytes}
use Rattle.plans.proofs.Orders.{ring-facts}
use Rattle.plans.proofs.Tests.{ranges, ranges-of, tests-of, crash-small, delay-small, ranges-good}
use Rattle.runfile.proofs.Written.{Small, start-read, ring-read, crash-read, delay-read, line_first}
use Rattle.runfile.proofs.Writing.{ring-line, ring-none}
use Rattle.runfile.proofs.Size.{plan-size}

-- ---- an accepted file is its plan's text

-- lines put together again
unfoldable joined : List (List ℕ) → List ℕ
joined [] = []
joined (l ∷ ls) = l ++ joined ls

joined-onto : (b : ℕ) (ls : List (List ℕ)) → joined (onto b ls) ≡ b ∷ joined ls
unfolding joined onto
joined-onto b [] = refl
joined-onto b (l ∷ ls) = refl

lines-joined : (s : List ℕ) → joined (lines s) ≡ s
unfolding joined lines
lines-joined [] = refl
lines-joined (b ∷ s) = by (eqb b 10) (lines-joined s)
  where
    by : (t : Bool) → joined (lines s) ≡ s → joined (cond t ((b ∷ []) ∷ lines s) (onto b (lines s))) ≡ b ∷ s
    by true e = ap (λ (l : List ℕ). b ∷ l) e
    by false e = joined-onto b (lines s) ∙ ap (λ (l : List ℕ). b ∷ l) e

pub rows_append : {A : Type 0} (text : A → List ℕ) (xs ys : List A) → rows_text text (xs ++ ys) ≡ rows_text text xs ++ rows_text text ys
unfolding rows_text
rows_append text [] ys = refl
rows_append text (x ∷ xs) ys =
    ap (λ (l : List ℕ). text x ++ l) (rows_append text xs ys) ∙ sym (append_assoc (text x) (rows_text text xs) (rows_text text ys))

pub rows_snoc : {A : Type 0} (text : A → List ℕ) (xs : List A) (r : A) → rows_text text (xs ++ (r ∷ [])) ≡ rows_text text xs ++ text r
unfolding rows_text
rows_snoc text xs r = rows_append text xs (r ∷ []) ∙ ap (λ (l : List ℕ). rows_text text xs ++ l) (append-nil (text r))

-- an accepted line adds its bytes to the plan's text
grown-text : (p : Plan) (l : List ℕ) (q : Plan) → Grown p (row_of p.n l) q → plan_test p ≡ true → plan_text q ≡ plan_text p ++ l
unfolding plan_text head_text with_ring with_crash with_delay start_text ring_text rows_text
grown-text p l q (by-ring ks a) g =
    let b = ring-bytes p l q ks a g in
    let size : length ks ≢ 0 = λ z. absurd (omega (arith, b.0, (ranges p g).n-low)) in
    ap plan_text a.plan
    ∙ rw (ring-line ks size, ← b.1, a.no-ring, a.no-crashes, a.no-delays)
    (simp (append_assoc, append-nil))
grown-text p l q (by-crash r a) g =
    let s = crash-small p r (ranges-good p g) a.range in
    ap plan_text a.plan
    ∙ rw (a.first, rows_snoc crash_text p.crashes r, crash-text p.n l r a.row (omega arith) (omega arith))
    (simp (append_assoc, append-nil))
grown-text p l q (by-delay r a) g =
    let s = delay-small p r (ranges-good p g) a.range in
    ap plan_text a.plan
    ∙ rw (rows_snoc delay_text p.delays r, delay-text p.n l r a.row (omega arith) (omega arith))
    (simp append_assoc)

-- a step that led to an accepted file
step-inv : (x : Step) (line : ℕ) (f : Plan → FileAnswer) (q : Plan) → step_then x line f ≡ accepted q
    → (p : Plan) × (x ≡ next p) × (f p ≡ accepted q)
unfolding step_then
step-inv (next p) line f q e = (p, refl, e)
step-inv (stop k) line f q e = let z : ◌≡◌ {A = ℕ} 0 1 = cc in absurd (omega arith)

-- what the lines after p lead to
record Leads (p : Plan) (ls : List (List ℕ)) (q : Plan) : Type 0 where
  text : plan_text q ≡ plan_text p ++ joined ls
  good : plan_test q ≡ true

later-leads : (p : Plan) (line : ℕ) (ls : List (List ℕ)) (q : Plan) → plan_test p ≡ true → later_lines p line ls ≡ accepted q → Leads p ls q
unfolding later_lines joined
later-leads p line [] q g e =
    let same : p ≡ q = cc in
    record { text = ap plan_text (sym same) ∙ sym (append-nil (plan_text p)); good = ap plan_test (sym same) ∙ g }
later-leads p line (l ∷ ls) q g e =
    let w = step-inv (later_line p (row_of p.n l)) line _ q e in
    let x = later-inv p (row_of p.n l) w.0 w.1 in
    let r = later-leads w.0 (suc line) ls q (grown-good p l w.0 x g) w.2 in
    record {
      text = r.text ∙ ap (λ (t : List ℕ). t ++ joined ls) (grown-text p l w.0 x g) ∙ append_assoc (plan_text p) l (joined ls);
      good = r.good;
    }

-- what an accepted file says of its plan
record Holds (s : List ℕ) (q : Plan) : Type 0 where
  text : plan_text q ≡ s
  good : plan_test q ≡ true

all_hold : (ls : List (List ℕ)) (q : Plan) → all_lines ls ≡ accepted q → Holds (joined ls) q
unfolding all_lines joined plan_text head_text ring_text rows_text
all_hold [] q e = let z : ◌≡◌ {A = ℕ} 0 1 = cc in absurd (omega arith)
all_hold (l ∷ ls) q e =
    let w = step-inv (first_line (row_of 0 l)) 1 _ q e in
    let o = first-inv (row_of 0 l) w.0 w.1 in
    let rows = start-rows 0 l w.0 o.row in
    let r = later-leads w.0 2 ls q (opened-good l w.0 o) w.2 in
    let plan : plan_text w.0 ≡ l = rw (rows.0, rows.1, rows.2) (simp append-nil (sym (opened-text l w.0 o))) in
    record { text = r.text ∙ ap (λ (t : List ℕ). t ++ joined ls) plan; good = r.good }

file-holds : (s : List ℕ) (q : Plan) → file_of s ≡ accepted q → Holds s q
unfolding file_of
file-holds s q e = by (within 1 65536 (length s)) e
  where
    by : (t : Bool) → cond t (all_lines (lines s)) (turned_down BadLength 0) ≡ accepted q → Holds s q
    by true e = subst (λ (t : List ℕ). Holds t q) (lines-joined s) (all_hold (lines s) q e)
    by false e = let z : ◌≡◌ {A = ℕ} 0 1 = cc in absurd (omega arith)

-- ---- a plan's text is read as the plan

-- the plan of p's P line, with these numbers of a Q line and these rows
abbrev part : Plan → List ℕ → List Crash → List Delay → Plan
part p ks cs ds = record { n = p.n; h = p.h; w = p.w; d = p.d; end = p.end; ring = ks; crashes = cs; delays = ds }

ring-read-next : (p : Plan) → plan_test p ≡ true → length p.ring ≢ 0
    → later_line (part p [] [] []) (row_of p.n (line_text 81 p.ring)) ≡ next (part p p.ring [] [])
unfolding later_line ring_line fresh or_else with_ring ring_range
ring-read-next p g size =
    let f = ring-facts p (tests-of p g).ring size in
    rw (ring-read p.n p.ring f.size (ring-small p p.ring (ranges-good p g) f.range), f.range, f.once)

crash-taken : (p : Plan) (done : List Crash) (r : Crash) (rest : List Crash) → plan_test p ≡ true → p.crashes ≡ done ++ (r ∷ rest)
    → later_line (part p p.ring done []) (row_of p.n (crash_text r)) ≡ next (part p p.ring (done ++ (r ∷ [])) [])
unfolding later_line crash_line early or_else with_crash crash_range
crash-taken p done r rest g e =
    let t = tests-of p g in
    let range : crash_range p r ≡ true = every-there (crash_range p) done r rest (ap (every (crash_range p)) (sym e) ∙ t.crashes) in
    let whole : (done ++ (r ∷ [])) ++ rest ≡ p.crashes = append_assoc done (r ∷ []) rest ∙ sym e in
    let order : crash_order (done ++ (r ∷ [])) ≡ true = crash-order-start (done ++ (r ∷ [])) rest (ap crash_order whole ∙ t.crash-order) in
    let small = crash-small p r (ranges-good p g) range in
    rw (crash-read p.n r (omega arith) (omega arith), range, order)

delay-taken : (p : Plan) (done : List Delay) (r : Delay) (rest : List Delay) → plan_test p ≡ true → p.delays ≡ done ++ (r ∷ rest)
    → later_line (part p p.ring p.crashes done) (row_of p.n (delay_text r)) ≡ next (part p p.ring p.crashes (done ++ (r ∷ [])))
unfolding later_line delay_line or_else with_delay delay_range
delay-taken p done r rest g e =
    let t = tests-of p g in
    let range : delay_range p r ≡ true = every-there (delay_range p) done r rest (ap (every (delay_range p)) (sym e) ∙ t.delays) in
    let whole : (done ++ (r ∷ [])) ++ rest ≡ p.delays = append_assoc done (r ∷ []) rest ∙ sym e in
    let order : delay_order (done ++ (r ∷ [])) ≡ true = delay-order-start (done ++ (r ∷ [])) rest (ap delay_order whole ∙ t.delay-order) in
    let few : few_delays (done ++ (r ∷ [])) ≡ true = few-start (done ++ (r ∷ [])) rest (ap few_delays whole ∙ t.few) in
    let small = delay-small p r (ranges-good p g) range in
    rw (delay-read p.n r (omega arith) (omega arith), range, order, few)

-- a row's text is a line
crash-line : (p : Plan) (r : Crash) (s : List ℕ) → start_ranges p ≡ true → crash_range p r ≡ true
    → lines (crash_text r ++ s) ≡ crash_text r ∷ lines s
unfolding crash_text Small
crash-line p r s g e = let small = crash-small p r g e in line_first 67 (r.tick ∷ r.node ∷ []) s (λ z. omega arith) (omega arith, (omega arith, tt))

delay-line : (p : Plan) (r : Delay) (s : List ℕ) → start_ranges p ≡ true → delay_range p r ≡ true
    → lines (delay_text r ++ s) ≡ delay_text r ∷ lines s
unfolding delay_text Small
delay-line p r s g e = let small = delay-small p r g e in line_first 76 (r.number ∷ r.delay ∷ []) s (λ z. omega arith) (omega arith, (omega arith, tt))

delays-read : (p : Plan) (done rest : List Delay) (line : ℕ) → plan_test p ≡ true → p.delays ≡ done ++ rest
    → later_lines (part p p.ring p.crashes done) line (lines (rows_text delay_text rest)) ≡ accepted p
unfolding later_lines lines rows_text step_then
delays-read p done [] line g e = ap (λ (ds : List Delay). accepted (part p p.ring p.crashes ds)) (sym (e ∙ append-nil done))
delays-read p done (r ∷ rest) line g e =
    let range : delay_range p r ≡ true = every-there (delay_range p) done r rest (ap (every (delay_range p)) (sym e) ∙ (tests-of p g).delays) in
    rw (delay-line p r (rows_text delay_text rest) (ranges-good p g) range, delay-taken p done r rest g e)
    (delays-read p (done ++ (r ∷ [])) rest (suc line) g (e ∙ sym (append_assoc done (r ∷ []) rest)))

crashes-read : (p : Plan) (done rest : List Crash) (line : ℕ) → plan_test p ≡ true → p.crashes ≡ done ++ rest
    → later_lines (part p p.ring done []) line (lines (rows_text crash_text rest ++ rows_text delay_text p.delays)) ≡ accepted p
unfolding later_lines rows_text step_then
crashes-read p done [] line g e =
    let whole : done ≡ p.crashes = sym (e ∙ append-nil done) in
    rw whole (delays-read p [] p.delays line g refl)
crashes-read p done (r ∷ rest) line g e =
    let range : crash_range p r ≡ true = every-there (crash_range p) done r rest (ap (every (crash_range p)) (sym e) ∙ (tests-of p g).crashes) in
    rw (
      append_assoc (crash_text r) (rows_text crash_text rest) (rows_text delay_text p.delays),
      crash-line p r (rows_text crash_text rest ++ rows_text delay_text p.delays) (ranges-good p g) range,
      crash-taken p done r rest g e,
    )
    (crashes-read p (done ++ (r ∷ [])) rest (suc line) g (e ∙ sym (append_assoc done (r ∷ []) rest)))

-- the P line's test, of the plan without its rows
opening-test : (p : Plan) → start_ranges p ≡ true → start_ranges (start_plan p.n p.h p.w p.d p.end) ≡ true
unfolding start_ranges start_plan
opening-test p e = e

start-taken : (p : Plan) → plan_test p ≡ true → first_line (row_of 0 (start_text p)) ≡ next (part p [] [] [])
unfolding first_line start_line or_else start_plan
start-taken p g =
    let b = ranges-of p (ranges-good p g) in
    rw (start-read p (omega (arith, b.n-high)) (omega (arith, b.h-high)) (omega (arith, b.w-high)) (omega (arith, b.d-high)) (omega (arith, b.end-high)))
    (rw (opening-test p (ranges-good p g)))

start-line : (p : Plan) (s : List ℕ) → start_ranges p ≡ true → lines (start_text p ++ s) ≡ start_text p ∷ lines s
unfolding start_text Small
start-line p s g =
    let b = ranges-of p g in
    line_first 80 (p.n ∷ p.h ∷ p.w ∷ p.d ∷ p.end ∷ []) s (λ z. omega arith)
    (omega (arith, b.n-high), (omega (arith, b.h-high), (omega (arith, b.w-high), (omega (arith, b.d-high), (omega (arith, b.end-high), tt)))))

-- the lines after the P line
rows-read : (p : Plan) → plan_test p ≡ true
    → later_lines (part p [] [] []) 2 (lines (ring_text p.ring ++ (rows_text crash_text p.crashes ++ rows_text delay_text p.delays))) ≡ accepted p
unfolding later_lines step_then
rows-read p g = go (ℕ_discrete (length p.ring) 0)
  where
    rows : List ℕ
    rows = rows_text crash_text p.crashes ++ rows_text delay_text p.delays

    go : Dec (length p.ring ≡ 0) → later_lines (part p [] [] []) 2 (lines (ring_text p.ring ++ rows)) ≡ accepted p
    go (yes e) =
        rw (ring-none p.ring e)
        (ap (λ (ks : List ℕ). later_lines (part p ks [] []) 2 (lines rows)) (sym (no_rows p.ring e)) ∙ crashes-read p [] p.crashes 2 g refl)
    go (no e) =
        let small = ring-small p p.ring (ranges-good p g) (ring-facts p (tests-of p g).ring e).range in
        rw (ring-line p.ring e, line_first 81 p.ring rows (λ z. omega arith) small, ring-read-next p g e)
        (crashes-read p [] p.crashes 3 g refl)

-- ---- the theorems

-- a file that is read and written again has the same bytes
pub written_back : (s : List ℕ) (p : Plan) → file_of s ≡ accepted p → plan_text p ≡ s
written_back s p e = (file-holds s p e).text

-- an accepted file's plan passes the test
pub accepted-plan : (s : List ℕ) (p : Plan) → file_of s ≡ accepted p → plan_test p ≡ true
accepted-plan s p e = (file-holds s p e).good

-- what is written is accepted and read back as it was
pub read_back : (p : Plan) → plan_test p ≡ true → file_of (plan_text p) ≡ accepted p
unfolding file_of within all_lines step_then plan_text head_text
read_back p g =
    let size = plan-size p g in
    let rows : List ℕ = rows_text crash_text p.crashes ++ rows_text delay_text p.delays in
    rw (
      le-leb 1 (length (plan_text p)) size.0,
      le-leb (length (plan_text p)) 65536 (omega (arith, size.1)),
      append_assoc (start_text p) (ring_text p.ring) rows,
      start-line p (ring_text p.ring ++ rows) (ranges-good p g),
      start-taken p g,
    )
    (rows-read p g)
