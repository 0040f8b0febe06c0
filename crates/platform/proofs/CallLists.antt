-- What any list of calls leaves of a store that was opened from an accepted file, and what one call leaves of a lent store in range.
-- Assumes nothing.
use mathlib.Core.Path.{◌≡◌, refl, sym, ap, ◌∙◌, subst}
use mathlib.Core.Bool.{Bool, true, false, cond}
use mathlib.Core.List.{List, [], ◌∷◌, map}
use Prim.Native.Nat.{ℕ, ◌+◌, ◌≤◌, ◌<◌}
use native.Mathlib.Omega.{arith}
use lib.Dec.{leb, ltb}
use lib.ListN.{get_or}
use Rattle.plans.specs.Plan.{Plan, plan_test}
use Rattle.limits.specs.Limits.{most_next, log_room}
use Rattle.model.specs.Platform.{State, step as step_of, run as run_of, start, try, left, steps, after, called, calls, SizedCall}
use Rattle.plans.specs.Plain.{Plain}
use Rattle.plans.proofs.Facts.{plan-plain}
use Rattle.model.proofs.Calls.{steps-add, calls-after}
use Rattle.model.proofs.Theorems.{ranges}
use Rattle.store.specs.Store.{encode, plan_in, state_in, store_in_range}
use Rattle.limits.specs.declared.Refusal.TheVariants.{BadStore}
use Rattle.limits.specs.Refusals.{number_of}
use Rattle.platform.specs.CallLists.{sized, store_after, store_after_all, NoneAnswers, events_of, Kept, Call}
use Rattle.platform.proofs.Stores.{Holds, plan-of, state-of, in-range-of, call-store, call-not-7, Lends, lends, steps-hold}

-- a call does some number of events
called-steps : (p : Plan) (c : SizedCall) (s : State) → (k : ℕ) × (called p c s ≡ steps p k s)
unfolding called steps
called-steps p (run_of budget) s = (budget, refl)
called-steps p (step_of room) s = go (ltb room log_room)
  where
    go : (b : Bool) → (k : ℕ) × (cond b s (left s (try p s)) ≡ steps p k s)
    go true = (0, refl)
    go false = (1, refl)

module _ (p : Plan) (good : plan_test p ≡ true) where
  abbrev plain : Plain p
  plain = plan-plain p good

  -- every state that the file leads to is one that the store holds, below the cap
  pub after_small : (e : ℕ) → (after p e).next ≤ most_next
  after_small e = ((ranges p plain).reached e).cap

  pub after_holds : (e : ℕ) → Holds p (after p e)
  after_holds e = record { good = good; sound = ((ranges p plain).reached e).sound; small = omega (arith, after_small e) }

  -- a call leads from such a state to such a state
  called-after : (c : SizedCall) (e : ℕ) → (k : ℕ) × (called p c (after p e) ≡ after p k)
  unfolding after
  called-after c e = let w = called-steps p c (after p e) in (e + w.0, w.1 ∙ sym (steps-add p e w.0 (start p)))

  -- so one call on a store that the file leads to leaves such a store
  pub call-leads : (c : Call) (e : ℕ) → (k : ℕ) × (store_after c (encode p (after p e)) ≡ encode p (after p k))
  call-leads c e =
      let w = called-after (sized c) e in
      (w.0, call-store p (after p e) (after_holds e) (after_small e) c ∙ ap (encode p) w.1)

  -- any list of calls leaves the encoding of what the model's calls do to the state
  calls-store : (cs : List Call) (e : ℕ) → store_after_all cs (encode p (after p e)) ≡ encode p (calls p (map sized cs) (after p e))
  unfolding store_after_all calls
  calls-store [] e = refl
  calls-store (c ∷ cs) e =
      let w = called-after (sized c) e in
      let one : store_after c (encode p (after p e)) ≡ encode p (called p (sized c) (after p e)) =
      call-store p (after p e) (after_holds e) (after_small e) c in
      ap (store_after_all cs) (one ∙ ap (encode p) w.1) ∙ calls-store cs w.0 ∙ ap (λ (s : State). encode p (calls p (map sized cs) s)) (sym w.1)

  pub none-seven : (cs : List Call) (e : ℕ) → NoneAnswers (number_of BadStore) cs (encode p (after p e))
  unfolding NoneAnswers
  none-seven [] e = tt
  none-seven (c ∷ cs) e =
      let w = call-leads c e in
      (call-not-7 p (after p e) (after_holds e) (after_small e) c, subst (NoneAnswers (number_of BadStore) cs) (sym w.1) (none-seven cs w.0))

  pub opened-at : start p ≡ after p 0
  unfolding after steps
  opened-at = refl

  pub events-done : (cs : List Call) → store_after_all cs (encode p (start p)) ≡ encode p (after p (events_of p cs))
  unfolding events_of
  events-done cs =
      ap (λ (s : State). store_after_all cs (encode p s)) opened-at
      ∙ calls-store cs 0
      ∙ ap (encode p) (ap (calls p (map sized cs)) (sym opened-at) ∙ calls-after p (map sized cs))

-- ---- a lent store

kept_by : (store b : List ℕ) (p : Plan) (s : State) → plan_in store ≡ p → Holds p s → b ≡ encode p s → Kept store b
kept_by store b p s plan h e =
    let state : state_in b ≡ s = ap state_in e ∙ state-of p s h in
    record {
      plan = ap plan_in e ∙ plan-of p s h ∙ sym plan;
      in_range = ap store_in_range e ∙ in-range-of p s h ∙ ap (λ (t : State). leb t.next most_next) (sym state);
    }

-- what a call leaves of a store in range has the same plan, and is in range but for the cap on the next number
pub kept : (store : List ℕ) → ((i : ℕ) → get_or store i 0 < 256) → store_in_range store ≡ true → (c : Call) → Kept store (store_after c store)
kept store byte ok c =
    let l : Lends store = lends store byte ok in
    let p : Plan = plan_in store in
    let s : State = state_in store in
    let w = called-steps p (sized c) s in
    kept_by store (store_after c store) p (steps p w.0 s) refl (steps-hold p s l.holds l.cap w.0)
    (ap (store_after c) l.held.canonical ∙ call-store p s l.holds l.cap c ∙ ap (encode p) w.1)
