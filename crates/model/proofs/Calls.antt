-- Any list of calls leaves the state after the first e events, and e comes from the calls alone; how a run's answer goes on, and what it
-- says of what is left. Assumes nothing.
use mathlib.Core.Path.{◌≡◌, refl, sym, ap, ◌∙◌}
use mathlib.Core.Bool.{Bool, true, false, cond}
use mathlib.Core.List.{List, [], ◌∷◌, ◌++◌}
use mathlib.Core.Option.{Option, none, some}
use mathlib.Core.Logic.{◌≢◌}
use Prim.Native.Nat.{ℕ, zero, suc, ◌+◌, ◌≤◌, ◌<◌}
use native.Mathlib.Nat.{zero-add}
use native.Mathlib.Omega.{arith}
use lib.Dec.{ltb}
use Rattle.model.specs.Platform.{State, Entry, Outcome, did, ended, refused, next_event, apply, fits, tried, try, left, steps}
use Rattle.model.specs.Platform.{event_count, Ending, spent, finished, overfull, run_answer}
use Rattle.model.specs.Platform.{after, start, step, run, asks, asked, events, called, calls, SizedCall}
use Rattle.plans.specs.Plan.{Plan}
use Rattle.limits.specs.Limits.{log_room}

module _ (p : Plan) where
  -- where no event is done, none ever is
  pub stuck : (k : ℕ) (s : State) → left s (try p s) ≡ s → steps p k s ≡ s
  unfolding steps
  stuck zero s e = refl
  stuck (suc k) s e = rw e (stuck k s e)

  pub steps-add : (a b : ℕ) (s : State) → steps p (a + b) s ≡ steps p b (steps p a s)
  unfolding steps
  steps-add zero b s = rw zero-add
  steps-add (suc a) b s = let e : suc a + b ≡ suc (a + b) = omega arith in rw e (steps-add a b (left s (try p s)))

  -- ---- one try more than k, by the outcome of the first

  abbrev pub count_after : ℕ → Outcome → ℕ
  count_after k (did e s') = suc (event_count p k s')
  count_after k ended = 0
  count_after k refused = 0

  abbrev pub answer_after : ℕ → Outcome → Ending
  answer_after k (did e s') = run_answer p k s'
  answer_after k ended = finished
  answer_after k refused = overfull

  pub count-try : (k : ℕ) (s : State) {o : Outcome} → try p s ≡ o → event_count p (suc k) s ≡ count_after k o
  unfolding event_count
  count-try k s {o} e = same (try p s) ∙ ap (count_after k) e
    where
      same : (o : Outcome) → elim o [ did e s' ↦ suc (event_count p k s') | ended ↦ zero | refused ↦ zero ] ≡ count_after k o
      same (did e s') = refl
      same ended = refl
      same refused = refl

  pub answer-try : (k : ℕ) (s : State) {o : Outcome} → try p s ≡ o → run_answer p (suc k) s ≡ answer_after k o
  unfolding run_answer
  answer-try k s {o} e = same (try p s) ∙ ap (answer_after k) e
    where
      same : (o : Outcome) → elim o [ did e s' ↦ run_answer p k s' | ended ↦ finished | refused ↦ overfull ] ≡ answer_after k o
      same (did e s') = refl
      same ended = refl
      same refused = refl

  -- ---- the events

  -- k tries do as many events as are counted
  pub counted : (k : ℕ) (s : State) → steps p k s ≡ steps p (event_count p k s) s
  unfolding steps event_count left
  counted zero s = refl
  counted (suc k) s = go (try p s) refl (λ s'. counted k s')
    where
      go : (o : Outcome) → try p s ≡ o → ((s' : State) → steps p k s' ≡ steps p (event_count p k s') s')
          → steps p k (left s o) ≡ steps p (elim o [ did e s' ↦ suc (event_count p k s') | ended ↦ zero | refused ↦ zero ]) s
      go (did e s') q ih = ih s' ∙ ap (λ (o : Outcome). steps p (event_count p k s') (left s o)) (sym q)
      go ended q ih = stuck k s (ap (left s) q)
      go refused q ih = stuck k s (ap (left s) q)

  pub count-le : (k : ℕ) (s : State) → event_count p k s ≤ k
  unfolding event_count
  count-le zero s = omega arith
  count-le (suc k) s = go (try p s) (λ s'. count-le k s')
    where
      go : (o : Outcome) → ((s' : State) → event_count p k s' ≤ k)
          → elim o [ did e s' ↦ suc (event_count p k s') | ended ↦ zero | refused ↦ zero ] ≤ suc k
      go (did e s') ih = omega (arith, ih s')
      go ended ih = omega arith
      go refused ih = omega arith

  -- where none is left, or the next is refused, none is counted
  none_left : (k : ℕ) (s : State) → try p s ≡ ended → event_count p k s ≡ zero
  unfolding event_count
  none_left zero s q = refl
  none_left (suc k) s q = count-try k s q

  none-fits : (k : ℕ) (s : State) → try p s ≡ refused → event_count p k s ≡ zero
  unfolding event_count
  none-fits zero s q = refl
  none-fits (suc k) s q = count-try k s q

  -- events add up over calls
  pub count_add : (a b : ℕ) (s : State) → event_count p (a + b) s ≡ event_count p a s + event_count p b (steps p a s)
  unfolding event_count steps left
  count_add zero b s = rw (zero-add b, zero-add)
  count_add (suc a) b s = let e : suc a + b ≡ suc (a + b) = omega arith in rw e (go (try p s) refl (λ s'. count_add a b s'))
    where
      go : (o : Outcome) → try p s ≡ o → ((s' : State) → event_count p (a + b) s' ≡ event_count p a s' + event_count p b (steps p a s'))
          → elim o [ did e s' ↦ suc (event_count p (a + b) s') | ended ↦ zero | refused ↦ zero ]
          ≡ elim o [ did e s' ↦ suc (event_count p a s') | ended ↦ zero | refused ↦ zero ] + event_count p b (steps p a (left s o))
      go (did e s') q ih = omega (arith, ih s')
      go ended q ih = rw (stuck a s (ap (left s) q)) (omega (arith, none_left b s q))
      go refused q ih = rw (stuck a s (ap (left s) q)) (omega (arith, none-fits b s q))

  called-steps : (c : SizedCall) (s : State) → called p c s ≡ steps p (asks c) s
  unfolding called asks steps
  called-steps (run budget) s = refl
  called-steps (step room) s = go (ltb room log_room)
    where
      go : (b : Bool) → cond b s (left s (try p s)) ≡ steps p (cond b 0 1) s
      go true = refl
      go false = refl

  calls-steps : (cs : List SizedCall) (s : State) → calls p cs s ≡ steps p (asked cs) s
  unfolding calls asked steps
  calls-steps [] s = refl
  calls-steps (c ∷ cs) s = ap (calls p cs) (called-steps c s) ∙ calls-steps cs (steps p (asks c) s) ∙ sym (steps-add (asks c) (asked cs) s)

  -- the events done are the first e
  pub calls-after : (cs : List SizedCall) → calls p cs (start p) ≡ after p (events p cs)
  unfolding after events
  calls-after cs = calls-steps cs (start p) ∙ counted (asked cs) (start p)

  asked-then : (cs : List SizedCall) (c : SizedCall) → asked (cs ++ (c ∷ [])) ≡ asked cs + asks c
  unfolding asked
  asked-then [] c = omega arith
  asked-then (b ∷ cs) c = omega (arith, asked-then cs c)

  -- e is the sum of what each call does: one more call adds the events that it does from where the others left off
  pub events-then : (cs : List SizedCall) (c : SizedCall) → events p (cs ++ (c ∷ [])) ≡ events p cs + event_count p (asks c) (calls p cs (start p))
  unfolding events
  events-then cs c = rw (asked-then cs c, calls-steps cs (start p)) (count_add (asked cs) (asks c) (start p))

  -- ---- a run's answer

  -- a budget of 0, by whether an event is left
  abbrev pub answer_at_end : Option Entry → Ending
  answer_at_end none = finished
  answer_at_end (some e) = spent

  pub answer-end : (s : State) {o : Option Entry} → next_event p s ≡ o → run_answer p 0 s ≡ answer_at_end o
  unfolding run_answer
  answer-end s {o} e = same (next_event p s) ∙ ap answer_at_end e
    where
      same : (o : Option Entry) → elim o [ none ↦ finished | some e ↦ spent ] ≡ answer_at_end o
      same none = refl
      same (some e) = refl

  -- a try finds none where none is left
  ended-none : (s : State) → try p s ≡ ended → next_event p s ≡ none
  unfolding try tried
  ended-none s q = go (next_event p s) q
    where
      go : (o : Option Entry) → tried p s o ≡ ended → o ≡ none
      go none q = refl
      go (some e) q = absurd (some-done (fits (apply p s e.tick e.event)) q)
        where
          some-done : (b : Bool) → cond b (did e (apply p s e.tick e.event)) refused ≡ ended → ⊥
          some-done true q = let z : ◌≡◌ {A = ℕ} 0 1 = cc q in omega arith
          some-done false q = let z : ◌≡◌ {A = ℕ} 0 1 = cc q in omega arith

  -- a run that goes on: its answer is that of the rest
  pub answer-add : (a b : ℕ) (s : State) → 0 < b → run_answer p (a + b) s ≡ run_answer p b (steps p a s)
  unfolding steps left
  answer-add a zero s h = absurd (omega arith)
  answer-add zero (suc b) s h = rw zero-add
  answer-add (suc a) (suc b) s h =
      let e : suc a + suc b ≡ suc (a + suc b) = omega arith in rw e (go (try p s) refl (λ s'. answer-add a (suc b) s' h))
    where
      go : (o : Outcome) → try p s ≡ o → ((s' : State) → run_answer p (a + suc b) s' ≡ run_answer p (suc b) (steps p a s'))
          → run_answer p (suc (a + suc b)) s ≡ run_answer p (suc b) (steps p a (left s (try p s)))
      go (did e s') q ih = answer-try (a + suc b) s q ∙ rw q (ih s')
      go ended q ih = answer-try (a + suc b) s q ∙ rw (stuck (suc a) s (ap (left s) q)) (sym (answer-try b s q))
      go refused q ih = answer-try (a + suc b) s q ∙ rw (stuck (suc a) s (ap (left s) q)) (sym (answer-try b s q))

  -- spent: the budget's events are done and another remains
  pub spent-full : (k : ℕ) (s : State) → run_answer p k s ≡ spent → (event_count p k s ≡ k) × (next_event p (steps p k s) ≢ none)
  unfolding event_count steps left
  spent-full zero s h = (refl, λ e. let z : ◌≡◌ {A = ℕ} 0 1 = cc (sym (answer-end s e) ∙ h) in omega arith)
  spent-full (suc k) s h = go (try p s) refl (λ s'. spent-full k s')
    where
      go : (o : Outcome) → try p s ≡ o
          → ((s' : State) → run_answer p k s' ≡ spent → (event_count p k s' ≡ k) × (next_event p (steps p k s') ≢ none))
          → (event_count p (suc k) s ≡ suc k) × (next_event p (steps p k (left s (try p s))) ≢ none)
      go (did e s') q ih = let r = ih s' (sym (answer-try k s q) ∙ h) in (count-try k s q ∙ ap suc r.0, rw q r.1)
      go ended q ih = let z : ◌≡◌ {A = ℕ} 0 1 = cc (sym (answer-try k s q) ∙ h) in absurd (omega arith)
      go refused q ih = let z : ◌≡◌ {A = ℕ} 0 1 = cc (sym (answer-try k s q) ∙ h) in absurd (omega arith)

  -- finished: none is left
  pub finished-none : (k : ℕ) (s : State) → run_answer p k s ≡ finished → next_event p (steps p k s) ≡ none
  unfolding steps left
  finished-none zero s h = go (next_event p s) refl
    where
      go : (o : Option Entry) → next_event p s ≡ o → o ≡ none
      go none q = refl
      go (some e) q = let z : ◌≡◌ {A = ℕ} 0 1 = cc (sym (answer-end s q) ∙ h) in absurd (omega arith)
  finished-none (suc k) s h = go (try p s) refl (λ s'. finished-none k s')
    where
      go : (o : Outcome) → try p s ≡ o → ((s' : State) → run_answer p k s' ≡ finished → next_event p (steps p k s') ≡ none)
          → next_event p (steps p k (left s (try p s))) ≡ none
      go (did e s') q ih = rw q (ih s' (sym (answer-try k s q) ∙ h))
      go ended q ih = rw (stuck (suc k) s (ap (left s) q)) (ended-none s q)
      go refused q ih = let z : ◌≡◌ {A = ℕ} 0 1 = cc (sym (answer-try k s q) ∙ h) in absurd (omega arith)
