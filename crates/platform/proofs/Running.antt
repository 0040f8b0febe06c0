-- A run of a budget, event by event: what is known while some of the budget is left, and how it ends; first of a state, then of the
-- bytes of a store. Assumes nothing.
use mathlib.Core.Path.{◌≡◌, refl, sym, ap, ◌∙◌}
use mathlib.Core.List.{List}
use mathlib.Core.Option.{Option, none, some}
use Prim.Native.Nat.{ℕ, suc, ◌+◌, ◌-◌, ◌≤◌, ◌<◌}
use native.Mathlib.Omega.{arith}
use Rattle.std.specs.Prelude.{Some, None, Result, Ok, Err}
use Rattle.limits.specs.declared.Refusal.{Refusal}
use Rattle.limits.specs.declared.Refusal.TheVariants.{TooMany as OverMany}
use Rattle.plans.specs.Plan.{Plan}
use Rattle.model.specs.Platform.{State, Entry, Outcome, did, ended, refused, next_event, try, left, steps, event_count, run_answer}
use Rattle.model.proofs.Calls.{stuck, answer-try, count-try, answer-end}
use Rattle.model.specs.declared.Deed.{Deed}
use Rattle.store.specs.Store.{encode, plan_in, state_in}
use Rattle.event.specs.declared.Next.{Next}
use Rattle.event.specs.Event.{happened, next_of, next_outcome, next_answer, store_left}
use Rattle.event.specs.Ready.{Ready}
use Rattle.event.proofs.Readiness.{left-ready, left-holds}
use Rattle.platform.specs.declared.Ran.{Ran}
use Rattle.platform.specs.declared.Ran.TheVariants.{Done, Spent}
use Rattle.platform.specs.declared.RunRefusal.{RunRefusal}
use Rattle.platform.specs.Calls.{ran, AfterRun, run_state, run_next, remains, budget_answer}

-- of a run of `budget` from `first`, `done` events are done, and led to s: what is left of the budget does the rest
pub record Ongoing (p : Plan) (first : State) (budget done : ℕ) (s : State) : Type 0 where
  pub within : done ≤ budget
  pub ends : steps p budget first ≡ steps p (budget - done) s
  pub answer : run_answer p budget first ≡ run_answer p (budget - done) s
  pub count : event_count p budget first ≡ done + event_count p (budget - done) s

module _ (p : Plan) where
  -- one try of several
  one-try : (k : ℕ) (s : State) {o : Outcome} → try p s ≡ o → steps p (suc k) s ≡ steps p k (left s o)
  unfolding steps
  one-try k s e = ap (λ (o : Outcome). steps p k (left s o)) e

  pub starts : (first : State) (budget : ℕ) → Ongoing p first budget 0 first
  starts first budget =
      let all : budget - 0 ≡ budget = omega arith in
      record { within = omega arith; ends = rw all; answer = rw all; count = rw all (omega arith) }

  module _ (first : State) (budget : ℕ) (s : State) where
    -- what the run comes to, where it ends in s with the answer a
    abbrev pub EndsIn : Result Ran RunRefusal → Type 0
    EndsIn a = (a ≡ ran (run_answer p budget first) (event_count p budget first)) × (steps p budget first ≡ s)

    module _ {done : ℕ} (h : Ongoing p first budget done s) where
      module _ (more : done < budget) where
        -- after the next event
        abbrev k : ℕ
        k = budget - (done + 1)

        left_over : budget - done ≡ suc k
        left_over = omega arith

        -- one event more
        pub goes-on : (e : Entry) (s' : State) → try p s ≡ did e s' → Ongoing p first budget (done + 1) s'
        unfolding left
        goes-on e s' o = record {
          within = omega arith;
          ends = (rw left_over at h.ends) ∙ one-try k s o;
          answer = (rw left_over at h.answer) ∙ answer-try p k s o;
          count = omega (arith, rw left_over at h.count, count-try p k s o);
        }

        -- no event is left, or the next is refused: the run ends here
        none-more : event_count p (suc k) s ≡ 0 → event_count p budget first ≡ done
        none-more e = omega (arith, rw left_over at h.count)

        pub ends-done : try p s ≡ ended → EndsIn (Ok (Done done))
        unfolding left ran
        ends-done o = (
          rw ((rw left_over at h.answer) ∙ answer-try p k s o, none-more (count-try p k s o)),
          (rw left_over at h.ends) ∙ one-try k s o ∙ stuck p k s (ap (left s) o),
        )

        pub ends-refused : try p s ≡ refused → EndsIn (Err (record { refusal = OverMany; events = done }))
        unfolding left ran
        ends-refused o = (
          rw ((rw left_over at h.answer) ∙ answer-try p k s o, none-more (count-try p k s o)),
          (rw left_over at h.ends) ∙ one-try k s o ∙ stuck p k s (ap (left s) o),
        )

      -- the budget is used up
      pub used : budget ≤ done → EndsIn (Ok (remains (next_event p s) budget))
      unfolding steps event_count ran remains
      used full = go (next_event p s) refl
        where
          nothing : budget - done ≡ 0
          nothing = omega arith

          all : event_count p budget first ≡ budget
          all = omega (arith, rw nothing at h.count, h.within)

          go : (o : Option Entry) → next_event p s ≡ o → EndsIn (Ok (remains o budget))
          go none o = (rw ((rw nothing at h.answer) ∙ answer-end p s o, all), rw nothing at h.ends)
          go (some e) o = (rw ((rw nothing at h.answer) ∙ answer-end p s o, all), rw nothing at h.ends)

-- ---- on the bytes of a store

-- of a run of `budget` from the store `first`, `done` events are done, and led to the store b
pub record Runs (first : List ℕ) (budget done : ℕ) (b : List ℕ) : Type 0 where
  pub ready : Ready b
  pub plan : plan_in b ≡ plan_in first
  pub ongoing : Ongoing (plan_in first) (state_in first) budget done (state_in b)

-- a run's answer and what it leaves of the store are what a definition says
pub record Ends (r : AfterRun) (a : Result Ran RunRefusal) (b : List ℕ) : Type 0 where
  pub value : a ≡ r.answer
  pub store_after : b ≡ r.store

-- what the code's answer of a try says of the outcome
module _ (p : Plan) (s : State) where
  did-outcome : (o : Outcome) {a : Deed} → Ok (Some a) ≡ happened p s o → (e : Entry) × (s' : State) × (o ≡ did e s')
  unfolding happened
  did-outcome (did e s') h = (e, s', refl)
  did-outcome ended h = absurd (cc h)
  did-outcome refused h = absurd (cc h)

  ended-outcome : (o : Outcome) → Ok None ≡ happened p s o → o ≡ ended
  unfolding happened
  ended-outcome (did e s') h = absurd (cc h)
  ended-outcome ended h = refl
  ended-outcome refused h = absurd (cc h)

  refused-outcome : (o : Outcome) {r : Refusal} → Err r ≡ happened p s o → (o ≡ refused) × (r ≡ OverMany)
  unfolding happened
  refused-outcome (did e s') h = absurd (cc h)
  refused-outcome ended h = absurd (cc h)
  refused-outcome refused h = (refl, cc h)

-- and its answer of a search, of the next event
pub some-remains : (o : Option Entry) (budget : ℕ) {n : Next} → Some n ≡ next_of o → Spent budget ≡ remains o budget
unfolding next_of remains
some-remains none budget e = absurd (cc e)
some-remains (some e) budget h = refl

pub none-remains : (o : Option Entry) (budget : ℕ) → None ≡ next_of o → Done budget ≡ remains o budget
unfolding next_of remains
none-remains none budget e = refl
none-remains (some e) budget h = absurd (cc h)

module _ (first : List ℕ) (budget : ℕ) where
  pub run-starts : Ready first → Runs first budget 0 first
  run-starts r = record { ready = r; plan = refl; ongoing = starts (plan_in first) (state_in first) budget }

  module _ (done : ℕ) (b : List ℕ) (h : Runs first budget done b) where
    abbrev next : Outcome
    next = next_outcome b

    -- a try of the plan that b holds is one of the first plan
    first-try : {o : Outcome} → next ≡ o → try (plan_in first) (state_in b) ≡ o
    first-try e = ap (λ (p : Plan). try p (state_in b)) (sym h.plan) ∙ e

    -- the run ends with the state of b
    stops : {a : Result Ran RunRefusal} {b' : List ℕ} → EndsIn (plan_in first) (state_in first) budget (state_in b) a
        → b' ≡ encode (plan_in b) (state_in b) → Ends (run_next first budget) a b'
    unfolding run_state
    stops w st = record { value = w.0; store_after = st ∙ rw (h.plan, w.1) }

    module _ (more : done < budget) {b' : List ℕ} (st : b' ≡ store_left b) where
      pub run-goes-on : {a : Deed} → Ok (Some a) ≡ next_answer b → Runs first budget (done + 1) b'
      unfolding left
      run-goes-on told =
          let o = did-outcome (plan_in b) (state_in b) next told in
          let w = left-holds b b' h.ready st in
          let state : state_in b' ≡ o.1 = w.1 ∙ ap (left (state_in b)) o.2 in
          record {
            ready = left-ready b b' h.ready st;
            plan = w.0 ∙ h.plan;
            ongoing = rw state (goes-on (plan_in first) (state_in first) budget (state_in b) h.ongoing more o.0 o.1 (first-try o.2));
          }

      pub run-ended : Ok None ≡ next_answer b → Ends (run_next first budget) (Ok (Done done)) b'
      unfolding left
      run-ended none_left =
          let o : next ≡ ended = ended-outcome (plan_in b) (state_in b) next none_left in
          stops (ends-done (plan_in first) (state_in first) budget (state_in b) h.ongoing more (first-try o)) (st ∙ rw o)

      pub run-refused : {r : Refusal} → Err r ≡ next_answer b → Ends (run_next first budget) (Err (record { refusal = r; events = done })) b'
      unfolding left
      run-refused {r} many =
          let o = refused-outcome (plan_in b) (state_in b) next many in
          rw o.1 (stops (ends-refused (plan_in first) (state_in first) budget (state_in b) h.ongoing more (first-try o.0)) (st ∙ rw o.0))

    -- the budget is used up
    pub run-used : budget ≤ done → {a : Ran} → a ≡ budget_answer b budget → Ends (run_next first budget) (Ok a) b
    run-used full e =
        let same : remains (next_event (plan_in b) (state_in b)) budget ≡ remains (next_event (plan_in first) (state_in b)) budget =
        ap (λ (p : Plan). remains (next_event p (state_in b)) budget) h.plan in
        rw (e ∙ same) (stops (used (plan_in first) (state_in first) budget (state_in b) h.ongoing full) h.ready.held.canonical)
