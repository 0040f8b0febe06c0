-- Which stores are ready for an event, what that gives, and that an event leaves a store ready. Assumes nothing.
use Prim.Native.Nat.{ℕ, ◌+◌, ◌*◌, ◌^◌, ◌≤◌, ◌<◌}
use mathlib.Core.Path.{◌≡◌, refl, sym, ap, ◌∙◌}
use mathlib.Core.Bool.{true, and-eq-true_iff}
use mathlib.Core.List.{List}
use native.Mathlib.Omega.{arith}
use borrow.Author.Tests.{eqb-true}
use lib.Dec.{eqb}
use lib.ListN.{length, get_or}
use Rattle.limits.specs.Limits.{most_tick, most_next, store_size}
use Rattle.plans.specs.Plan.{Plan, plan_test}
use Rattle.model.specs.Platform.{State, start, try, left, steps}
use Rattle.plans.specs.Plain.{Plain}
use Rattle.model.specs.Range.{Sound, InRange, store_test}
use Rattle.plans.proofs.Facts.{plan-plain}
use Rattle.plans.proofs.Facts.{plan-plain}
use Rattle.model.proofs.Tests.{test-store}
use Rattle.model.proofs.RangesKept.{start-range, steps-range}
use Rattle.model.proofs.NextNumber.{per_tick, next-bound}
use Rattle.model.proofs.Calls.{steps-add}
use Rattle.store.specs.Columns.{room_test, unused_test}
use Rattle.store.specs.Store.{columns, encode, plan_in, state_in, store_in_range}
use Rattle.store.specs.Inside.{Sized, Fits, Held}
use Rattle.store.proofs.Store.{plan-encode, state-encode, held-encode, held-read}
use Rattle.event.specs.Event.{next_outcome, store_left}
use Rattle.event.specs.Ready.{Ready}
use Rattle.event.specs.Acting.{Acting}
use Rattle.store.proofs.Fitting.{sound-fits}

-- what a store's readers ask for
pub held-sized : (b : List ℕ) → Held b → Sized b
held-sized b h = record { size = h.size; counts = h.fits.counts }

-- ---- what a ready store has

-- the most that the next number of a ready store is
abbrev pub most_reached : ℕ
most_reached = most_next + per_tick * (most_tick + 1)

module _ (b : List ℕ) (r : Ready b) where
  pub ready-plain : Plain (plan_in b)
  ready-plain = plan-plain (plan_in b) r.plan

  pub ready-sound : Sound (plan_in b) (state_in b)
  ready-sound = rw r.is (steps-range (plan_in b) ready-plain r.tries r.from r.in_range.sound)

  pub ready-next : (state_in b).next ≤ most_reached
  ready-next =
      rw r.is (bound (next-bound (plan_in b) ready-plain most_next r.from r.in_range.sound r.in_range.cap r.tries)
      ready-plain.end≤)
    where
      bound : {a c : ℕ} → a ≤ most_next + per_tick * (c + 1) → c ≤ most_tick → a ≤ most_reached
      bound h e = omega arith

  -- what the list of its crashed nodes asks for
  pub ready-crashes : Sized b × ((plan_test (plan_in b) ≡ true) × ((state_in b).done ≤ length (plan_in b).crashes))
  ready-crashes = (held-sized b r.held, (r.plan, ready-sound.done))

  -- what the parts of an event ask for
  pub ready-acting : Acting b
  ready-acting = record { held = r.held; plan = r.plan; done = ready-sound.done; emitter = λ j h. (ready-sound.fields j h).emitter }

-- what follows for an acting store
module _ (b : List ℕ) (a : Acting b) where
  pub acting-plain : Plain (plan_in b)
  acting-plain = plan-plain (plan_in b) a.plan

  pub acting-crashes : Sized b × ((plan_test (plan_in b) ≡ true) × ((state_in b).done ≤ length (plan_in b).crashes))
  acting-crashes = (held-sized b a.held, (a.plan, a.done))

-- ---- which stores are ready

module _ (p : Plan) (good : plan_test p ≡ true) (s : State) (r : InRange p s) where
  abbrev plain : Plain p
  plain = plan-plain p good

  -- what k tries leave of a state in range fits the store
  pub steps-fit : (k : ℕ) → Fits p (steps p k s)
  steps-fit k =
      sound-fits p good (steps p k s) (steps-range p plain k s r.sound)
      (room (next-bound p plain most_next s r.sound r.cap k) plain.end≤)
    where
      room : {a c : ℕ} → a ≤ most_next + per_tick * (c + 1) → c ≤ most_tick → a < 256 ^ 8
      room h e = omega arith

  -- and is ready
  pub steps-ready : (k : ℕ) → Ready (encode p (steps p k s))
  steps-ready k =
      let f : Fits p (steps p k s) = steps-fit k in
      let pe : plan_in (encode p (steps p k s)) ≡ p = plan-encode p (steps p k s) f in
      let se : state_in (encode p (steps p k s)) ≡ steps p k s = state-encode p (steps p k s) f in
      record { held = held-encode p (steps p k s) f; plan = rw pe good; from = s; in_range = rw pe r; tries = k; is = rw (pe, se) }

-- a store just opened
pub opened-ready : (p : Plan) → plan_test p ≡ true → Ready (encode p (start p))
unfolding steps start
opened-ready p good = steps-ready p good (start p) (record { sound = start-range p (plan-plain p good); cap = omega arith }) 0

-- a store that passes number 7
pub tested-ready : (b : List ℕ) → ((i : ℕ) → get_or b i 0 < 256) → store_in_range b ≡ true → Ready b
unfolding store_in_range store_test steps
tested-ready b byte h =
    let l = (and-eq-true_iff (eqb (length b) store_size) _).0 h in
    let c = (and-eq-true_iff (room_test (columns (plan_in b) (state_in b))) _).0 l.1 in
    let t = (and-eq-true_iff (store_test (plan_in b) (state_in b)) (unused_test b (columns (plan_in b) (state_in b)))).0 c.1 in
    let v : Held b = held-read b byte (eqb-true (length b) store_size l.0) c.0 t.1 in
    record {
      held = v;
      plan = ((and-eq-true_iff (plan_test (plan_in b)) _).0 t.0).0;
      from = state_in b;
      in_range = (test-store (plan_in b) (state_in b) t.0).1;
      tries = 0;
      is = refl;
    }

-- what an event leaves
pub left-ready : (b b' : List ℕ) → Ready b → b' ≡ store_left b → Ready b'
unfolding steps
left-ready b b' r e = rw (e, next) (steps-ready (plan_in b) r.plan r.from r.in_range (r.tries + 1))
  where
    next : left (state_in b) (next_outcome b) ≡ steps (plan_in b) (r.tries + 1) r.from
    next = ap (λ (s : State). left s (try (plan_in b) s)) r.is ∙ sym (steps-add (plan_in b) r.tries 1 r.from)

-- and what it leaves holds the same plan and the state after it
pub left-holds : (b b' : List ℕ) → Ready b → b' ≡ store_left b → (plan_in b' ≡ plan_in b) × (state_in b' ≡ left (state_in b) (next_outcome b))
unfolding steps
left-holds b b' r e = rw e (plan-encode (plan_in b) _ fits, state-encode (plan_in b) _ fits)
  where
    next : left (state_in b) (next_outcome b) ≡ steps (plan_in b) (r.tries + 1) r.from
    next = ap (λ (s : State). left s (try (plan_in b) s)) r.is ∙ sym (steps-add (plan_in b) r.tries 1 r.from)

    fits : Fits (plan_in b) (left (state_in b) (next_outcome b))
    fits = rw next (steps-fit (plan_in b) r.plan r.from r.in_range (r.tries + 1))
