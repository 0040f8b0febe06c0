-- The parts of the test of a plan, and the ranges of its P line as facts. Assumes nothing.
use Prim.Native.Nat.{ℕ, ◌+◌, ◌≤◌, ◌<◌}
use native.Mathlib.Omega.{arith}
use mathlib.Core.Path.{◌≡◌, refl}
use mathlib.Core.Bool.{true}
use mathlib.Core.List.{List, [], ◌∷◌, ◌++◌}
use mathlib.Mathlib.Data.Bool.Basic.{and_elim_left, and_elim_right}
use borrow.Author.Tests.{leb-true, eqb-true}
use lib.Dec.{leb}
use lib.ListN.{length, get_or}
use Rattle.limits.specs.Limits.{most_nodes, most_h, most_w, most_d, most_tick, most_number, most_delays}
use Rattle.plans.specs.Plan.{Crash, Delay, Plan, with_crash, with_delay, within, start_ranges, long_enough, crash_range, delay_range, crash_order, delay_order}
use Rattle.plans.specs.Plan.{few_delays, every, ring_test, crash_test, delay_test, plan_test}
use Rattle.plans.specs.Plan.{start_plan, with_ring, order_of, ring_count, ring_range, rising, none_twice}
use Rattle.ring.specs.Ring.{each_once, InOrder}
use Rattle.plans.proofs.Orders.{ring-taken, ring-few, ring-below, order-once}
use Rattle.plans.proofs.Rows.{every-snoc, crash-row, delay-row}

-- ---- the P line

-- the ranges of a P line as facts
pub record Ranges (p : Plan) : Type 0 where
  pub n-low : 1 ≤ p.n
  pub n-high : p.n ≤ most_nodes
  pub h-low : 1 ≤ p.h
  pub h-high : p.h ≤ most_h
  pub w-low : 1 ≤ p.w
  pub w-high : p.w ≤ most_w
  pub d-low : 1 ≤ p.d
  pub d-high : p.d ≤ most_d
  pub end-high : p.end ≤ most_tick

in-low : (low high x : ℕ) → within low high x ≡ true → low ≤ x
unfolding within
in-low low high x e = leb-true low x (and_elim_left (leb low x) (leb x high) e)

in-high : (low high x : ℕ) → within low high x ≡ true → x ≤ high
unfolding within
in-high low high x e = leb-true x high (and_elim_right (leb low x) (leb x high) e)

pub ranges-of : (p : Plan) → start_ranges p ≡ true → Ranges p
unfolding start_ranges
ranges-of p e =
    let e1 = and_elim_right (within 1 most_nodes p.n) _ e in
    let e2 = and_elim_right (within 1 most_h p.h) _ e1 in
    let e3 = and_elim_right (within 1 most_w p.w) _ e2 in
    let e4 = and_elim_right (within 1 most_d p.d) _ e3 in
    record {
      n-low = in-low 1 most_nodes p.n (and_elim_left _ _ e);
      n-high = in-high 1 most_nodes p.n (and_elim_left _ _ e);
      h-low = in-low 1 most_h p.h (and_elim_left _ _ e1);
      h-high = in-high 1 most_h p.h (and_elim_left _ _ e1);
      w-low = in-low 1 most_w p.w (and_elim_left _ _ e2);
      w-high = in-high 1 most_w p.w (and_elim_left _ _ e2);
      d-low = in-low 1 most_d p.d (and_elim_left _ _ e3);
      d-high = in-high 1 most_d p.d (and_elim_left _ _ e3);
      end-high = in-high 0 most_tick p.end e4;
    }

-- W is at least H + D
pub long-enough : (p : Plan) → long_enough p ≡ true → p.h + p.d ≤ p.w
unfolding long_enough
long-enough p e = leb-true _ _ e

-- ---- the whole test

-- the parts of the test of a plan
pub record Tests (p : Plan) : Type 0 where
  pub start : start_ranges p ≡ true
  pub ring : ring_test p ≡ true
  pub crashes : every (crash_range p) p.crashes ≡ true
  pub crash-order : crash_order p.crashes ≡ true
  pub delays : every (delay_range p) p.delays ≡ true
  pub delay-order : delay_order p.delays ≡ true
  pub few : few_delays p.delays ≡ true

pub tests-of : (p : Plan) → plan_test p ≡ true → Tests p
unfolding plan_test crash_test delay_test
tests-of p e =
    let later = and_elim_right (start_ranges p) _ e in
    let rest = and_elim_right (ring_test p) _ later in
    let crashes = and_elim_left (crash_test p) (delay_test p) rest in
    let delays = and_elim_right (crash_test p) (delay_test p) rest in
    let more = and_elim_right (every (delay_range p) p.delays) _ delays in
    record {
      start = and_elim_left (start_ranges p) _ e;
      ring = and_elim_left (ring_test p) _ later;
      crashes = and_elim_left (every (crash_range p) p.crashes) _ crashes;
      crash-order = and_elim_right (every (crash_range p) p.crashes) _ crashes;
      delays = and_elim_left (every (delay_range p) p.delays) _ delays;
      delay-order = and_elim_left _ (few_delays p.delays) more;
      few = and_elim_right (delay_order p.delays) _ more;
    }

of-tests : (p : Plan) → Tests p → plan_test p ≡ true
unfolding plan_test crash_test delay_test
of-tests p t = rw (t.start, t.ring, t.crashes, t.crash-order, t.delays, t.delay-order, t.few)

module _ (p : Plan) (good : plan_test p ≡ true) where
  pub ranges-good : start_ranges p ≡ true
  ranges-good = (tests-of p good).start

  pub ranges : Ranges p
  ranges = ranges-of p ranges-good

  -- the order has each node once
  pub in_order : InOrder p.n (order_of p)
  in_order = order-once p (tests-of p good).ring

  -- the numbers of the Q line: no more than nodes, and each below N
  pub few-ring : length p.ring ≤ p.n
  few-ring = ring-few p (tests-of p good).ring

  pub ring-nodes : (q : ℕ) → q < length p.ring → get_or p.ring q 0 < p.n
  ring-nodes = ring-below p (tests-of p good).ring

  pub few-delays : length p.delays ≤ most_delays
  unfolding few_delays
  few-delays = leb-true _ _ (tests-of p good).few

  -- L rows rise by number
  pub delays-rise : delay_order p.delays ≡ true
  delays-rise = (tests-of p good).delay-order

-- ---- a Q line, and one row more

pub ring-good : (p : Plan) (ks : List ℕ) → plan_test p ≡ true → ring_count p ks ≡ true → ring_range p ks ≡ true → each_once ks ≡ true
    → plan_test (with_ring p ks) ≡ true
unfolding with_ring ring_count ring_range start_ranges crash_range delay_range
ring-good p ks g count range once =
    let t = tests-of p g in
    of-tests (with_ring p ks) (record {
      start = t.start;
      ring = ring-taken (with_ring p ks) (record { size = eqb-true (length ks) p.n count; range = range; once = once });
      crashes = t.crashes;
      crash-order = t.crash-order;
      delays = t.delays;
      delay-order = t.delay-order;
      few = t.few;
    })

pub crash-good : (p : Plan) (r : Crash) → plan_test p ≡ true → crash_range p r ≡ true → crash_order (p.crashes ++ (r ∷ [])) ≡ true
    → plan_test (with_crash p r) ≡ true
unfolding with_crash ring_test ring_count ring_range start_ranges crash_range delay_range
crash-good p r g range order =
    let t = tests-of p g in
    of-tests (with_crash p r) (record {
      start = t.start;
      ring = t.ring;
      crashes = every-snoc (crash_range p) p.crashes r t.crashes range;
      crash-order = order;
      delays = t.delays;
      delay-order = t.delay-order;
      few = t.few;
    })

pub delay-good : (p : Plan) (r : Delay) → plan_test p ≡ true → delay_range p r ≡ true → delay_order (p.delays ++ (r ∷ [])) ≡ true
    → few_delays (p.delays ++ (r ∷ [])) ≡ true → plan_test (with_delay p r) ≡ true
unfolding with_delay ring_test ring_count ring_range start_ranges crash_range delay_range
delay-good p r g range order few =
    let t = tests-of p g in
    of-tests (with_delay p r) (record {
      start = t.start;
      ring = t.ring;
      crashes = t.crashes;
      crash-order = t.crash-order;
      delays = every-snoc (delay_range p) p.delays r t.delays range;
      delay-order = order;
      few = few;
    })

-- ---- no row

pub head-good : (p : Plan) → plan_test p ≡ true → plan_test (with_ring (start_plan p.n p.h p.w p.d p.end) p.ring) ≡ true
unfolding with_ring start_plan ring_test ring_count ring_range start_ranges crash_order delay_order rising none_twice each_once few_delays every
head-good p g =
    let t = tests-of p g in
    of-tests (with_ring (start_plan p.n p.h p.w p.d p.end) p.ring) (record {
      start = t.start;
      ring = t.ring;
      crashes = refl;
      crash-order = refl;
      delays = refl;
      delay-order = refl;
      few = refl;
    })

-- ---- rows of a P line in range

pub crash-small : (p : Plan) (r : Crash) → start_ranges p ≡ true → crash_range p r ≡ true → (r.tick ≤ most_tick) × (r.node < most_nodes)
crash-small p r g e =
    let b = ranges-of p g in
    let k = crash-row p r e in
    (omega (arith, b.end-high, k.0), omega (arith, b.n-high, k.1))

pub delay-small : (p : Plan) (r : Delay) → start_ranges p ≡ true → delay_range p r ≡ true → (r.number ≤ most_number) × (r.delay ≤ most_d)
delay-small p r g e =
    let b = ranges-of p g in
    let k = delay-row p r e in
    (k.number, omega (arith, b.d-high, k.high))
