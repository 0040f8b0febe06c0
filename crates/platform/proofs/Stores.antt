-- What opening, step, run and the writer make of a store that holds a sound state of a plan that a run file may hold. Assumes nothing.
use mathlib.Core.Path.{◌≡◌, refl, sym, ap, ◌∙◌, subst}
use mathlib.Core.Logic.{◌≢◌}
use mathlib.Core.Bool.{Bool, true, false, cond, ◌&&◌}
use mathlib.Core.List.{List}
use Prim.Native.Nat.{ℕ, ◌≤◌, ◌<◌}
use native.Mathlib.Omega.{arith}
use borrow.Author.Tests.{eqb-true, leb-true, le-leb, le-ltb}
use lib.Dec.{eqb, leb, ltb}
use lib.ListN.{length, get_or}
use Rattle.text.specs.Put.{put}
use Rattle.plans.specs.Plan.{Plan, plan_test}
use Rattle.runfile.specs.Text.{plan_text}
use mathlib.Mathlib.Data.Bool.Basic.{and_elim_left as and_first, and_elim_right as and_second}
use Rattle.plans.proofs.Tests.{Ranges, ranges}
use Rattle.limits.specs.Limits.{most_next, log_room, store_size, file_room}
use Rattle.model.specs.Platform.{State, Outcome, did, ended, refused, try, left, steps, run_answer, event_count, spent, finished, overfull, called, Ending}
use Rattle.plans.specs.Plain.{Plain}
use Rattle.model.specs.Range.{Sound, sound_test, store_test}
use Rattle.model.proofs.RangesKept.{steps-range}
use Rattle.model.proofs.NextNumber.{next-bound}
use Rattle.model.proofs.Tests.{test-range}
use Rattle.plans.proofs.Facts.{plan-plain}
use Rattle.store.specs.Columns.{room_test, unused_test}
use Rattle.store.specs.Store.{columns, encode, plan_in, state_in, store_in_range}
use Rattle.store.specs.Inside.{Fits, Held}
use Rattle.store.proofs.Store.{plan-encode, state-encode, held-read}
use Rattle.store.proofs.Fitting.{Room, sound-fits}
use Rattle.std.specs.Prelude.{Ok, Err}
use Rattle.limits.specs.declared.Refusal.TheVariants.{BadStore, ShortPart}
use Rattle.limits.specs.Refusals.{number_of, answer_of}
use Rattle.platform.specs.Calls.{AfterStep, AfterRun, step_outcome, step, ran, run_state, run}
use Rattle.platform.specs.Calls.{write_file, run_refusal, events_done}
use Rattle.platform.specs.CallLists.{Call, a_step, a_run, sized, store_after, refusal}
use Rattle.platform.proofs.Encoded.{in-range-encode}

-- ---- a plan and a state that a store holds

-- a plan that a run file may hold, and a sound state whose next number has room
pub record Holds (p : Plan) (s : State) : Type 0 where
  pub good : plan_test p ≡ true
  pub sound : Sound p s
  pub small : Room s

module _ (p : Plan) (s : State) (h : Holds p s) where
  pub holds-fit : Fits p s
  holds-fit = sound-fits p h.good s h.sound h.small

  pub in-range-of : store_in_range (encode p s) ≡ leb s.next most_next
  in-range-of = in-range-encode p s holds-fit (plan-plain p h.good) h.good h.sound

  pub plan-of : plan_in (encode p s) ≡ p
  plan-of = plan-encode p s holds-fit

  pub state-of : state_in (encode p s) ≡ s
  state-of = state-encode p s holds-fit

-- ---- calls on a store in range, by what it holds

module _ (b : List ℕ) (p : Plan) (s : State) (ok : store_in_range b ≡ true) (plan : plan_in b ≡ p) (state : state_in b ≡ s) where
  pub step_in : (log : List ℕ) → step b log
      ≡ cond (ltb (length log) log_room) (record { answer = Err ShortPart; store = b; log = log }) (step_outcome p s (try p s) b log)
  unfolding step
  step_in log = rw (ok, plan, state)

  pub run_in : (budget : ℕ) → run b budget ≡ run_state p s budget
  unfolding run
  run_in budget = rw (ok, plan, state)

  pub write-in : (out : List ℕ) → file_room ≤ length out
      → write_file b out ≡ record { answer = Ok (length (plan_text p)); out = put out 0 (plan_text p) }
  unfolding write_file
  write-in out room = rw (ok, plan, le-ltb (length out) file_room room)

-- a step's outcome leaves the encoding of the state that it leads to
pub outcome-store : (p : Plan) (s : State) (o : Outcome) (log : List ℕ) → (step_outcome p s o (encode p s) log).store ≡ encode p (left s o)
unfolding step_outcome left
outcome-store p s (did e s') log = refl
outcome-store p s ended log = refl
outcome-store p s refused log = refl

outcome-not-7 : (p : Plan) (s : State) (o : Outcome) (b log : List ℕ) → answer_of (step_outcome p s o b log).answer ≢ number_of BadStore
unfolding step_outcome
outcome-not-7 p s (did e s') b log = λ e. omega arith
outcome-not-7 p s ended b log = λ e. omega arith
outcome-not-7 p s refused b log = λ e. omega arith

-- a run's answer has its events, and a number by its ending alone
pub ran-done : (a : Ending) (k : ℕ) → events_done (ran a k) ≡ k
unfolding ran events_done
ran-done finished k = refl
ran-done spent k = refl
ran-done overfull k = refl

pub ran-number : (a : Ending) (k l : ℕ) → run_refusal (ran a k) ≡ run_refusal (ran a l)
unfolding ran run_refusal
ran-number finished k l = refl
ran-number spent k l = refl
ran-number overfull k l = refl

ran-not-7 : (a : Ending) (k : ℕ) → run_refusal (ran a k) ≢ number_of BadStore
unfolding ran run_refusal
ran-not-7 finished k = λ e. omega arith
ran-not-7 spent k = λ e. omega arith
ran-not-7 overfull k = λ e. omega arith

module _ (p : Plan) (s : State) (h : Holds p s) (cap : s.next ≤ most_next) where
  pub in-range : store_in_range (encode p s) ≡ true
  in-range = in-range-of p s h ∙ le-leb s.next most_next cap

  abbrev stepped : Bool → List ℕ → AfterStep
  stepped short log = cond short (record { answer = Err ShortPart; store = encode p s; log = log }) (step_outcome p s (try p s) (encode p s) log)

  step_of : (log : List ℕ) → step (encode p s) log ≡ stepped (ltb (length log) log_room) log
  step_of log = step_in (encode p s) p s in-range (plan-of p s h) (state-of p s h) log

  run_of : (budget : ℕ) → run (encode p s) budget ≡ run_state p s budget
  run_of budget = run_in (encode p s) p s in-range (plan-of p s h) (state-of p s h) budget

  -- a call leaves the encoding of what the model's call does to the state
  pub call-store : (c : Call) → store_after c (encode p s) ≡ encode p (called p (sized c) s)
  unfolding store_after sized called run_state
  call-store (a_step log) = ap (λ (a : AfterStep). a.store) (step_of log) ∙ go (ltb (length log) log_room)
    where
      go : (short : Bool) → (stepped short log).store ≡ encode p (cond short s (left s (try p s)))
      go true = refl
      go false = outcome-store p s (try p s) log
  call-store (a_run budget) = ap (λ (a : AfterRun). a.store) (run_of budget)

  pub call-not-7 : (c : Call) → refusal c (encode p s) ≢ number_of BadStore
  unfolding refusal run_state
  call-not-7 (a_step log) = subst (λ (a : AfterStep). answer_of a.answer ≢ number_of BadStore) (sym (step_of log)) (go (ltb (length log) log_room))
    where
      go : (short : Bool) → answer_of (stepped short log).answer ≢ number_of BadStore
      go true = λ e. omega arith
      go false = outcome-not-7 p s (try p s) (encode p s) log
  call-not-7 (a_run budget) =
      subst (λ (a : AfterRun). run_refusal a.answer ≢ number_of BadStore) (sym (run_of budget)) (ran-not-7 (run_answer p budget s) (event_count p budget s))

  -- the writer puts the plan's text
  pub writes : (out : List ℕ) → file_room ≤ length out → write_file (encode p s) out ≡ record
      { answer = Ok (length (plan_text p)); out = put out 0 (plan_text p) }
  writes out room = write-in (encode p s) p s in-range (plan-of p s h) (state-of p s h) out room

-- ---- however many events are done on a lent store

-- what a store in range holds
pub record Lends (b : List ℕ) : Type 0 where
  pub held : Held b
  pub holds : Holds (plan_in b) (state_in b)
  pub cap : (state_in b).next ≤ most_next

module _ (b : List ℕ) (byte : (i : ℕ) → get_or b i 0 < 256) (ok : store_in_range b ≡ true) where
  pub lends : Lends b
  unfolding store_in_range store_test plan_in
  lends =
      let p : Plan = plan_in b in
      let s : State = state_in b in
      let rest = and_second (eqb (length b) store_size) _ ok in
      let more = and_second (room_test (columns p s)) _ rest in
      let test = and_first (plan_test p && (sound_test p s && leb s.next most_next)) (unused_test b (columns p s)) more in
      let good : plan_test p ≡ true = and_first (plan_test p) _ test in
      let state = and_second (plan_test p) _ test in
      let cap : s.next ≤ most_next = leb-true s.next most_next (and_second (sound_test p s) _ state) in
      let held : Held b =
      held-read b byte (eqb-true _ _ (and_first (eqb (length b) store_size) _ ok)) (and_first (room_test (columns p s)) _ rest)
      (and_second (plan_test p && (sound_test p s && leb s.next most_next)) _ more) in
      record {
        held = held;
        holds = record { good = good; sound = test-range p (plan-plain p good) s (and_first (sound_test p s) _ state); small = omega arith };
        cap = cap;
      }

module _ (p : Plan) (s : State) (h : Holds p s) (cap : s.next ≤ most_next) where
  -- any number of events leaves a state that the store holds
  pub steps-hold : (k : ℕ) → Holds p (steps p k s)
  steps-hold k =
      let pl : Plain p = plan-plain p h.good in
      let r : Ranges p = ranges p h.good in
      record {
        good = h.good;
        sound = steps-range p pl k s h.sound;
        small = omega (arith, next-bound p pl most_next s h.sound cap k);
      }
