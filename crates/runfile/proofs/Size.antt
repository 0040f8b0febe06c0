-- How long the text of a plan can be. Assumes nothing.
use Prim.Native.Nat.{ℕ, suc, ◌+◌, ◌*◌, ◌^◌, ◌≤◌, ◌<◌, zero-le}
use native.Mathlib.Omega.{arith}
use native.Mathlib.Nat.{mul-suc}
use native.Mathlib.Decide.{ℕ_discrete}
use mathlib.Core.Path.{◌≡◌}
use mathlib.Core.Bool.{Bool, true}
use mathlib.Core.List.{List, [], ◌∷◌}
use lib.Dec.{ltb}
use lib.ListN.{length, length-append}
use borrow.Author.Tests.{leb-true, ltb-true}
use Rattle.text.specs.Field.{field}
use Rattle.text.proofs.NumberLaws.{decimal-length}
use Rattle.plans.specs.Plan.{Crash, Delay, Plan, start_ranges, ring_range, crash_range, delay_range, few_delays, every, plan_test}
use Rattle.runfile.specs.Text.{fields_text, line_text, start_text, ring_text, crash_text, delay_text, rows_text, head_text, plan_text}
use mathlib.Mathlib.Data.Bool.Basic.{and_elim_left, and_elim_right}
use Rattle.runfile.proofs.Writing.{ring-parts, ring-none}
use Rattle.plans.proofs.Few.{crashes-few}
use Rattle.plans.proofs.Orders.{ring-facts}
use Rattle.plans.proofs.Tests.{ranges-of, ranges, tests-of, crash-small, delay-small, ranges-good}

-- ---- lengths

-- a field of a number with at most k + 1 digits
field-size : (k x : ℕ) → x < 10 ^ suc k → length (field x) ≤ suc (suc k)
field-size k x h = omega (arith, decimal-length k x h)

pub pair_size : (letter a b : ℕ) → length (line_text letter (a ∷ b ∷ [])) ≡ length (field a) + length (field b) + 2
unfolding line_text fields_text
pair_size letter a b = simp length-append (omega arith)

crash-size : (p : Plan) (r : Crash) → start_ranges p ≡ true → crash_range p r ≡ true → length (crash_text r) ≤ 13
unfolding crash_text
crash-size p r g e =
    let s = crash-small p r g e in
    omega (arith, pair_size 67 r.tick r.node, field-size 6 r.tick (omega arith), field-size 1 r.node (omega arith))

delay-size : (p : Plan) (r : Delay) → start_ranges p ≡ true → delay_range p r ≡ true → length (delay_text r) ≤ 13
unfolding delay_text
delay-size p r g e =
    let s = delay-small p r g e in
    omega (arith, pair_size 76 r.number r.delay, field-size 5 r.number (omega arith), field-size 2 r.delay (omega arith))

start-size : (p : Plan) → start_ranges p ≡ true → (1 ≤ length (start_text p)) × (length (start_text p) ≤ 28)
unfolding start_text line_text fields_text
start-size p g =
    let b = ranges-of p g in
    let n = field-size 1 p.n (omega (arith, b.n-high)) in
    let h = field-size 3 p.h (omega (arith, b.h-high)) in
    let w = field-size 4 p.w (omega (arith, b.w-high)) in
    let d = field-size 2 p.d (omega (arith, b.d-high)) in
    let end = field-size 6 p.end (omega (arith, b.end-high)) in
    (omega arith, simp length-append (omega (arith, n, h, w, d, end)))

-- rows whose texts have at most k bytes
rows-size : {A : Type 0} (text : A → List ℕ) (test : A → Bool) (k : ℕ) → ((r : A) → test r ≡ true → length (text r) ≤ k) → (rs : List A)
    → every test rs ≡ true → length (rows_text text rs) ≤ k * length rs
unfolding rows_text every
rows-size text test k h [] e = zero-le
rows-size text test k h (r ∷ rs) e =
    let first = h r (and_elim_left (test r) (every test rs) e) in
    let rest = rows-size text test k h rs (and_elim_right (test r) (every test rs) e) in
    simp length-append (omega (arith, first, rest, mul-suc k (length rs)))

-- a Q line: its letter, at most 64 numbers of two digits, its end
ring-size : (p : Plan) → plan_test p ≡ true → length (ring_text p.ring) ≤ 194
unfolding ring_range
ring-size p g = go (ℕ_discrete (length p.ring) 0)
  where
    go : Dec (length p.ring ≡ 0) → length (ring_text p.ring) ≤ 194
    go (yes e) = rw (ring-none p.ring e) (omega arith)
    go (no e) =
        let b = ranges p g in
        let f = ring-facts p (tests-of p g).ring e in
        let each : (k : ℕ) → ltb k p.n ≡ true → length (field k) ≤ 3 = λ k h. field-size 1 k (omega (arith, ltb-true k p.n h, b.n-high)) in
        let rows = rows-size field (λ k. ltb k p.n) 3 each p.ring f.range in
        rw (ring-parts p.ring e) (simp length-append (omega (arith, rows, f.size, b.n-high)))

-- the text of a plan that a file may hold is short
pub plan-size : (p : Plan) → plan_test p ≡ true → (1 ≤ length (plan_text p)) × (length (plan_text p) ≤ 27678)
unfolding plan_text head_text few_delays
plan-size p g =
    let t = tests-of p g in
    let s = ranges-good p g in
    let b = ranges-of p s in
    let c = rows-size crash_text (crash_range p) 13 (λ r. crash-size p r s) p.crashes t.crashes in
    let d = rows-size delay_text (delay_range p) 13 (λ r. delay-size p r s) p.delays t.delays in
    let few : length p.delays ≤ 2048 = leb-true _ _ t.few in
    let z = start-size p s in
    (simp length-append (omega (arith, z.0)), simp length-append (omega (arith, z.1, ring-size p g, crashes-few p g, b.n-high)))
