-- What an accepted line adds to the plan so far: the tests that it passed, and its bytes. Assumes nothing.
use Prim.Native.Nat.{ℕ, ◌+◌, ◌≤◌}
use native.Mathlib.Omega.{arith}
use mathlib.Core.Path.{◌≡◌, refl, sym, ap, ◌∙◌}
use mathlib.Core.Bool.{Bool, true, false, ◌&&◌, and-eq-true_iff}
use mathlib.Core.List.{List, [], ◌∷◌, ◌++◌}
use Rattle.std.specs.Prelude.{Option, None, Some}
use lib.Dec.{eqb}
use lib.ListN.{length, length-append}
use borrow.Author.Tests.{eq-eqb, eqb-true}
use Rattle.plans.specs.Plan.{Crash, Delay, Plan, start_ranges, crash_range, delay_range, crash_order, delay_order, few_delays, every}
use Rattle.plans.specs.Plan.{crash_test, delay_test, plan_test, rising, none_twice, ring_count, ring_range, with_ring, with_crash, with_delay}
use Rattle.ring.specs.Ring.{each_once}
use Rattle.runfile.specs.Text.{line_text, start_text}
use Rattle.limits.specs.declared.Refusal.{Refusal}
use Rattle.runfile.specs.File.{Row, start, ring, crash, delay, row_of, Step, next, or_else, start_line, fresh, ring_line, early, crash_line, delay_line}
use Rattle.runfile.specs.File.{first_line, later_line}
use Rattle.plans.proofs.Orders.{no-ring-taken, ring-node}
use Rattle.plans.proofs.Tests.{ranges-of, ranges-good, ring-good, crash-good, delay-good}
use Rattle.runfile.proofs.Written.{Small, small_all}
use Rattle.runfile.proofs.Trip.{start-text, start-rows, ring-text}

else-inv : (t : Bool) (k : Refusal) (s : Step) (q : Plan) → or_else t k s ≡ next q → (t ≡ true) × (s ≡ next q)
unfolding or_else
else-inv true k s q e = (refl, e)
else-inv false k s q e = let z : ◌≡◌ {A = ℕ} 0 1 = cc in absurd (omega arith)

-- ---- the P line

-- the first line is the P line of the plan q
pub record Opened (x : Option Row) (q : Plan) : Type 0 where
  pub row : x ≡ Some (start q)
  pub ranges : start_ranges q ≡ true

pub first-inv : (x : Option Row) (q : Plan) → first_line x ≡ next q → Opened x q
unfolding first_line start_line
first-inv None q e = let z : ◌≡◌ {A = ℕ} 0 1 = cc in absurd (omega arith)
first-inv (Some (start p)) q e =
    let a = else-inv (start_ranges p) _ _ q e in
    let same : p ≡ q = cc a.1 in
    record { row = ap (λ (r : Plan). Some (start r)) same; ranges = ap start_ranges (sym same) ∙ a.0 }
first-inv (Some (ring ks)) q e = let z : ◌≡◌ {A = ℕ} 0 1 = cc in absurd (omega arith)
first-inv (Some (crash r)) q e = let z : ◌≡◌ {A = ℕ} 0 1 = cc in absurd (omega arith)
first-inv (Some (delay r)) q e = let z : ◌≡◌ {A = ℕ} 0 1 = cc in absurd (omega arith)

-- the P line's bytes
pub opened-text : (l : List ℕ) (q : Plan) → Opened (row_of 0 l) q → l ≡ start_text q
opened-text l q o =
    let r = ranges-of q o.ranges in
    start-text 0 l q o.row (omega arith) (omega arith) (omega arith) (omega arith) (omega arith)

-- a P line opens a plan that a file may hold
pub opened-good : (l : List ℕ) (q : Plan) → Opened (row_of 0 l) q → plan_test q ≡ true
unfolding plan_test crash_test delay_test crash_order delay_order few_delays every rising none_twice each_once
opened-good l q o =
    let r = start-rows 0 l q o.row in
    rw (o.ranges, no-ring-taken q (ap length r.2), r.0, r.1)

-- ---- a later line

-- a Q line adds its numbers
pub record AddsRing (p : Plan) (x : Option Row) (q : Plan) (ks : List ℕ) : Type 0 where
  pub row : x ≡ Some (ring ks)
  pub no-ring : p.ring ≡ []
  pub no-crashes : p.crashes ≡ []
  pub no-delays : p.delays ≡ []
  pub range : ring_range p ks ≡ true
  pub once : each_once ks ≡ true
  pub plan : q ≡ with_ring p ks

-- a C line adds its row
pub record AddsCrash (p : Plan) (x : Option Row) (q : Plan) (r : Crash) : Type 0 where
  pub row : x ≡ Some (crash r)
  pub first : p.delays ≡ []
  pub range : crash_range p r ≡ true
  pub order : crash_order (p.crashes ++ (r ∷ [])) ≡ true
  pub plan : q ≡ with_crash p r

-- an L line adds its row
pub record AddsDelay (p : Plan) (x : Option Row) (q : Plan) (r : Delay) : Type 0 where
  pub row : x ≡ Some (delay r)
  pub range : delay_range p r ≡ true
  pub order : delay_order (p.delays ++ (r ∷ [])) ≡ true
  pub few : few_delays (p.delays ++ (r ∷ [])) ≡ true
  pub plan : q ≡ with_delay p r

pub data Grown (p : Plan) (x : Option Row) (q : Plan) : Type 0 where
  by-ring : (ks : List ℕ) → AddsRing p x q ks → Grown p x q
  by-crash : (r : Crash) → AddsCrash p x q r → Grown p x q
  by-delay : (r : Delay) → AddsDelay p x q r → Grown p x q

pub no_rows : {A : Type 0} (xs : List A) → length xs ≡ 0 → xs ≡ []
no_rows [] e = refl
no_rows (x ∷ xs) e = absurd (omega arith)

pub later-inv : (p : Plan) (x : Option Row) (q : Plan) → later_line p x ≡ next q → Grown p x q
unfolding later_line ring_line crash_line delay_line fresh early with_crash with_delay
later-inv p None q e = let z : ◌≡◌ {A = ℕ} 0 1 = cc in absurd (omega arith)
later-inv p (Some (start s)) q e = let z : ◌≡◌ {A = ℕ} 0 1 = cc in absurd (omega arith)
later-inv p (Some (ring ks)) q e =
    let a = else-inv (fresh p) _ _ q e in
    let b = else-inv (ring_range p ks) _ _ q a.1 in
    let c = else-inv (each_once ks) _ _ q b.1 in
    let same : with_ring p ks ≡ q = cc c.1 in
    let no = (and-eq-true_iff (eqb (length p.ring) 0) (eqb (length p.crashes) 0 && eqb (length p.delays) 0)).0 a.0 in
    let rows = (and-eq-true_iff (eqb (length p.crashes) 0) (eqb (length p.delays) 0)).0 no.1 in
    by-ring ks (record {
      row = refl;
      no-ring = no_rows p.ring (eqb-true _ 0 no.0);
      no-crashes = no_rows p.crashes (eqb-true _ 0 rows.0);
      no-delays = no_rows p.delays (eqb-true _ 0 rows.1);
      range = b.0;
      once = c.0;
      plan = sym same;
    })
later-inv p (Some (crash r)) q e =
    let a = else-inv (early p) _ _ q e in
    let b = else-inv (crash_range p r) _ _ q a.1 in
    let c = else-inv (crash_order (p.crashes ++ (r ∷ []))) _ _ q b.1 in
    let same : with_crash p r ≡ q = cc c.1 in
    by-crash r (record { row = refl; first = no_rows p.delays (eqb-true _ 0 a.0); range = b.0; order = c.0; plan = sym same })
later-inv p (Some (delay r)) q e =
    let a = else-inv (delay_range p r) _ _ q e in
    let b = else-inv (delay_order (p.delays ++ (r ∷ []))) _ _ q a.1 in
    let c = else-inv (few_delays (p.delays ++ (r ∷ []))) _ _ q b.1 in
    let same : with_delay p r ≡ q = cc c.1 in
    by-delay r (record { row = refl; range = a.0; order = b.0; few = c.0; plan = sym same })

-- nodes of a Q line are small numbers
pub ring-small : (p : Plan) (ks : List ℕ) → start_ranges p ≡ true → ring_range p ks ≡ true → Small ks
ring-small p ks g e =
    let b = ranges-of p g in
    small_all ks (λ q l. omega (arith, ring-node p ks e q l, b.n-high))

-- a Q line has as many numbers as nodes, and its bytes
pub ring-bytes : (p : Plan) (l : List ℕ) (q : Plan) (ks : List ℕ) → AddsRing p (row_of p.n l) q ks → plan_test p ≡ true
    → (length ks ≡ p.n) × (l ≡ line_text 81 ks)
ring-bytes p l q ks a g = ring-text p.n l ks a.row (ring-small p ks (ranges-good p g) a.range)

-- a plan that a file may hold stays one
pub grown-good : (p : Plan) (l : List ℕ) (q : Plan) → Grown p (row_of p.n l) q → plan_test p ≡ true → plan_test q ≡ true
unfolding ring_count
grown-good p l q (by-ring ks a) g =
    ap plan_test a.plan ∙ ring-good p ks g (eq-eqb (length ks) p.n (ring-bytes p l q ks a g).0) a.range a.once
grown-good p l q (by-crash r a) g = ap plan_test a.plan ∙ crash-good p r g a.range a.order
grown-good p l q (by-delay r a) g = ap plan_test a.plan ∙ delay-good p r g a.range a.order a.few

-- and keeps its P line
pub grown-start : (p : Plan) (x : Option Row) (q : Plan) → Grown p x q → start_text q ≡ start_text p
unfolding with_ring with_crash with_delay start_text
grown-start p x q (by-ring ks a) = ap start_text a.plan
grown-start p x q (by-crash r a) = ap start_text a.plan
grown-start p x q (by-delay r a) = ap start_text a.plan

-- it has at most one C line more
pub grown-crashes : (p : Plan) (x : Option Row) (q : Plan) → Grown p x q → length q.crashes ≤ length p.crashes + 1
unfolding with_ring with_crash with_delay
grown-crashes p x q (by-ring ks a) = omega (arith, ap (λ (s : Plan). length s.crashes) a.plan)
grown-crashes p x q (by-crash r a) = omega (arith, ap (λ (s : Plan). length s.crashes) a.plan, length-append p.crashes (r ∷ []))
grown-crashes p x q (by-delay r a) = omega (arith, ap (λ (s : Plan). length s.crashes) a.plan)
