-- A store with the first of its messages in flight, or with none. Assumes nothing.
use Prim.Native.Nat.{ℕ, zero, suc, ◌+◌, ◌<◌}
use mathlib.Core.Path.{◌≡◌, refl, ap, ap₂, subst, ◌∙◌}
use mathlib.Core.List.{List, [], ◌∷◌}
use native.Mathlib.Omega.{arith}
use lib.ListN.{length, take, length-take}
use lib.Seq.{take_all}
use Rattle.plans.specs.Plan.{Plan}
use Rattle.model.specs.Platform.{InFlight, State, without}
use Rattle.store.specs.Store.{encode, plan_in, state_in}
use Rattle.store.specs.Inside.{Fits, Held, with_flight, without_message}
use Rattle.store.proofs.Store.{plan-encode, state-encode, held-encode}
use Rattle.store.proofs.States.{take-fits}
use Rattle.course.specs.Apart.{bare}

-- ---- a state with other messages

pub flight-again : (s : State) → with_flight s s.flight ≡ s
unfolding with_flight
flight-again s = refl

pub flight-of : (s : State) (ms : List InFlight) → (with_flight s ms).flight ≡ ms
unfolding with_flight
flight-of s ms = refl

pub one_more : (s : State) (ms ns : List InFlight) → with_flight (with_flight s ms) ns ≡ with_flight s ns
unfolding with_flight
one_more s ms ns = refl

less_one : (s : State) (ms : List InFlight) (k : ℕ) → without_message (with_flight s ms) k ≡ with_flight s (without k ms)
unfolding without_message with_flight
less_one s ms k = refl

without-last : (k : ℕ) (ms : List InFlight) → k < length ms → without k (take (suc k) ms) ≡ take k ms
unfolding without
without-last k [] h = absurd (omega arith)
without-last zero (m ∷ ms) h = refl
without-last (suc k) (m ∷ ms) h = ap (λ (l : List InFlight). m ∷ l) (without-last k ms (omega arith))

-- ---- the first k of the messages fit where all do

module _ (p : Plan) (s : State) (f : Fits p s) where
  abbrev first : ℕ → State
  first k = with_flight s (take k s.flight)

  -- j are left out
  pub first_fits : (j k : ℕ) → k + j ≡ length s.flight → Fits p (first k)
  first_fits zero k e = rw (take_all k s.flight (omega arith), flight-again s) f
  first_fits (suc j) k e =
      let n : length (take (suc k) s.flight) ≡ suc k = omega (arith, length-take (suc k) s.flight) in
      let l : k < length (first (suc k)).flight = rw (flight-of s (take (suc k) s.flight)) (omega (arith, n)) in
      subst (Fits p) (less_one s (take (suc k) s.flight) k ∙ ap (with_flight s) (without-last k s.flight (omega arith)))
      (take-fits p (first (suc k)) (first_fits j (suc k) (omega arith)) k l)

  bare-fits : Fits p (with_flight s [])
  bare-fits = first_fits (length s.flight) 0 (omega arith)

  pub bare-encode : bare (encode p s) ≡ encode p (with_flight s [])
  unfolding bare
  bare-encode = ap₂ (λ (r : Plan) (z : State). encode r (with_flight z [])) (plan-encode p s f) (state-encode p s f)

-- ---- a store without its messages

module _ (b : List ℕ) (h : Held b) where
  none-fits : Fits (plan_in b) (with_flight (state_in b) [])
  none-fits = bare-fits (plan_in b) (state_in b) h.fits

  pub bare-held : Held (bare b)
  unfolding bare
  bare-held = held-encode (plan_in b) (with_flight (state_in b) []) none-fits

  pub bare-plan : plan_in (bare b) ≡ plan_in b
  unfolding bare
  bare-plan = plan-encode (plan_in b) (with_flight (state_in b) []) none-fits

  pub bare-state : state_in (bare b) ≡ with_flight (state_in b) []
  unfolding bare
  bare-state = state-encode (plan_in b) (with_flight (state_in b) []) none-fits
