-- A line's step, told by what is kept: one law for each kind of line. Assumes nothing.
use Prim.Native.Nat.{ℕ, ◌+◌}
use native.Mathlib.Numerals.{add-one}
use mathlib.Core.Path.{◌≡◌, refl, sym, ap}
use mathlib.Core.Bool.{Bool, true, false, cond, not, ◌&&◌}
use mathlib.Core.List.{List}
use Rattle.std.specs.Prelude.{Some, None, Result, Ok, Err}
use lib.Dec.{eqb, leb, ltb}
use lib.ListN.{length}
use Rattle.limits.specs.declared.Refusal.{Refusal}
use Rattle.limits.specs.declared.Refusal.TheVariants.{BadForm, OutOfRange, NotRising, ManyDelays, NotEachOnce}
use Rattle.plans.proofs.Listed.{listed-hits, with-snoc}
use Rattle.ring.specs.Ring.{listed, listing, each_once}
use Rattle.plans.specs.Plan.{within, crash_range, delay_range, ring_range, with_ring, with_crash, with_delay, Plan}
use Rattle.runfile.specs.File.{Step, next, ring, ring_of, or_else, fresh, ring_line, early, crash_line, delay_line, later_line}
use Rattle.runfile.specs.Text.{start_text}
use Rattle.runfile.specs.Reader.{outline_of, sofar_of, Kept, line_answer, follows, numbers_there, numbers_at, ring_refusal}
use Rattle.runfile.specs.declared.Sofar.{Sofar}
use Rattle.runfile.proofs.Order.{crash-order-snoc, crash-floor-snoc, delay-order-snoc, delay-floor-snoc, snoc-length}
use Rattle.runfile.proofs.Rings.{ring-form, there-count}
use Rattle.plans.proofs.Rows.{few-snoc}
use Rattle.plans.proofs.Tests.{tests-of, delays-rise}

-- a step behind a test
answer-or : (passed : Bool) (refusal : Refusal) (step : Step)
    → line_answer (or_else passed refusal step) ≡ cond passed (line_answer step) (Err refusal)
unfolding or_else line_answer
answer-or true refusal step = refl
answer-or false refusal step = refl

-- what is kept with the numbers of a Q line
abbrev pub with-ring : Sofar → Sofar
with-ring st =
    let o = st.outline in
    record {
      outline = record { n = o.n; h = o.h; w = o.w; d = o.d; end = o.end; ring = o.n; crashes = o.crashes; delays = o.delays; rows = o.rows };
      tick = st.tick;
      node = st.node;
      seen = st.seen;
      number = st.number;
    }

-- what the numbers' answer leads to
abbrev pub then-ring : Sofar → Result Unit Refusal → Result Sofar Refusal
then-ring st (Ok u) = Ok (with-ring st)
then-ring st (Err refusal) = Err refusal

-- whether nothing came before, the numbers' range, and each once
ring-there : (a b c range once : Bool) (q : Plan) (st : Sofar) → with-ring st ≡ sofar_of q
    → line_answer (or_else (a && (b && c)) BadForm (or_else range OutOfRange (or_else once NotEachOnce (next q))))
    ≡ cond (a && (b && (c && true))) (then-ring st (cond range (cond once (Ok tt) (Err NotEachOnce)) (Err OutOfRange))) (Err BadForm)
unfolding or_else line_answer
ring-there true true true true true q st e = ap (λ (s : Sofar). Ok s) (sym e)
ring-there true true true true false q st e = refl
ring-there true true true false once q st e = refl
ring-there true true false range once q st e = refl
ring-there true false c range once q st e = refl
ring-there false b c range once q st e = refl

-- and where the numbers are not there
ring-gone : (a b c : Bool) (x : Result Sofar Refusal) → Err BadForm ≡ cond (a && (b && (c && false))) x (Err BadForm)
ring-gone true true true x = refl
ring-gone true true false x = refl
ring-gone true false c x = refl
ring-gone false b c x = refl

module _ (p : Plan) (st : Sofar) (kept : Kept p st) where
  -- a Q line
  pub ring-told : (l : List ℕ) → line_answer (later_line p (ring_of p.n l))
      ≡ cond
      (eqb st.outline.ring 0 && (eqb st.outline.crashes 0 && (eqb st.outline.delays 0 && numbers_there st.outline.n l 1)))
      (then-ring st (ring_refusal st.outline.n (numbers_at st.outline.n l 1)))
      (Err BadForm)
  unfolding ring_line fresh ring_range with_ring line_answer sofar_of outline_of start_text later_line ring_refusal
  ring-told l = rw (ring-form p.n l, kept.same) (by (numbers_there p.n l 1) refl)
    where
      by : (t : Bool) → numbers_there p.n l 1 ≡ t
          → line_answer (later_line p (cond t (Some (ring (numbers_at p.n l 1))) None))
          ≡ cond (eqb (length p.ring) 0 && (eqb (length p.crashes) 0 && (eqb (length p.delays) 0 && t)))
          (then-ring (sofar_of p) (ring_refusal p.n (numbers_at p.n l 1)))
          (Err BadForm)
      by true there =
          let same : with-ring (sofar_of p) ≡ sofar_of (with_ring p (numbers_at p.n l 1)) = rw (there-count p.n l 1 there) in
          let ks : List ℕ = numbers_at p.n l 1 in
          ring-there (eqb (length p.ring) 0) (eqb (length p.crashes) 0) (eqb (length p.delays) 0) (ring_range p ks) (each_once ks) (with_ring p ks)
          (sofar_of p) same
      by false there = ring-gone (eqb (length p.ring) 0) (eqb (length p.crashes) 0) (eqb (length p.delays) 0) _

  -- what is kept with a C line
  abbrev with-crash : ℕ → ℕ → Sofar
  with-crash tick node =
      let o = st.outline in
      record {
        outline = record { n = o.n; h = o.h; w = o.w; d = o.d; end = o.end; ring = o.ring; crashes = o.crashes + 1; delays = o.delays; rows = o.rows };
        tick = tick;
        node = node + 1;
        seen = listing st.seen node;
        number = st.number;
      }

  -- a C line
  pub crash-told : (tick node : ℕ) → line_answer (crash_line p (record { tick = tick; node = node }))
      ≡ cond (eqb st.outline.delays 0)
      (cond (leb tick st.outline.end && ltb node st.outline.n)
      (cond (follows st.tick st.node tick node && not (listed st.seen node)) (Ok (with-crash tick node)) (Err NotRising))
      (Err OutOfRange))
      (Err BadForm)
  unfolding crash_line early crash_range with_crash line_answer sofar_of outline_of start_text
  crash-told tick node =
      rw (
        answer-or,
        answer-or,
        answer-or,
        crash-order-snoc p.crashes tick node (tests-of p kept.good).crash-order,
        kept.same,
        snoc-length p.crashes (record { tick = tick; node = node }),
        crash-floor-snoc p.crashes tick node,
        with-snoc p.crashes 0 (record { tick = tick; node = node }),
        listed-hits p.crashes node,
        add-one node,
      )

  -- what is kept with an L line
  abbrev with-delay : ℕ → Sofar
  with-delay number =
      let o = st.outline in
      record {
        outline = record { n = o.n; h = o.h; w = o.w; d = o.d; end = o.end; ring = o.ring; crashes = o.crashes; delays = o.delays + 1; rows = o.rows };
        tick = st.tick;
        node = st.node;
        seen = st.seen;
        number = number + 1;
      }

  -- an L line
  pub delay-told : (number delay : ℕ) → line_answer (delay_line p (record { number = number; delay = delay }))
      ≡ cond (leb number 999999 && within 1 st.outline.d delay)
      (cond (leb st.number number) (cond (ltb st.outline.delays 2048) (Ok (with-delay number)) (Err ManyDelays)) (Err NotRising))
      (Err OutOfRange)
  unfolding delay_line delay_range with_delay line_answer sofar_of outline_of start_text
  delay-told number delay =
      rw (
        answer-or,
        answer-or,
        answer-or,
        delay-order-snoc p.delays (record { number = number; delay = delay }) (delays-rise p kept.good),
        few-snoc p.delays (record { number = number; delay = delay }),
        kept.same,
        snoc-length p.delays (record { number = number; delay = delay }),
        delay-floor-snoc p.delays (record { number = number; delay = delay }),
        add-one number,
      )
