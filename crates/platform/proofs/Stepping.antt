-- What became of a try, as a step answers it and writes it. Assumes nothing.
use mathlib.Core.Path.{◌≡◌, refl, sym, ap, ◌∙◌}
use mathlib.Core.List.{List}
use Prim.Native.Nat.{ℕ}
use native.Mathlib.Omega.{arith}
use lib.ListN.{length}
use Rattle.text.specs.Put.{Put}
use Rattle.logline.specs.declared.Line.{Line}
use Rattle.logline.specs.Line.{line_text}
use Rattle.model.specs.declared.Deed.{Deed}
use Rattle.plans.specs.Plan.{Plan}
use Rattle.model.specs.Platform.{State, Outcome, did, ended, refused, left}
use Rattle.model.specs.Lines.{last_line, deed_of, own_line, deed_lines, lines_text}
use Rattle.store.specs.Store.{encode, plan_in, state_in}
use Rattle.event.specs.Event.{happened, next_outcome, next_answer, store_left}
use Rattle.event.specs.Ready.{Ready}
use Rattle.platform.specs.declared.Stepped.{Stepped}
use Rattle.platform.specs.declared.Stepped.TheVariants.{Did, Done}
use Rattle.std.specs.Prelude.{Some, None, Result, Ok, Err}
use Rattle.limits.specs.declared.Refusal.{Refusal}
use Rattle.limits.specs.declared.Refusal.TheVariants.{TooMany as OverMany}
use Rattle.platform.specs.Calls.{AfterStep, step_outcome, step_next}

-- a step's answer and what it leaves of the store and the log part are what a definition says
abbrev pub Steps : AfterStep → Result Stepped Refusal → List ℕ → List ℕ → Type 0
Steps r a b log = (a ≡ r.answer) × ((b ≡ r.store) × (log ≡ r.log))

module _ (p : Plan) (s : State) (b log : List ℕ) {b' : List ℕ} where
  did-is : (o : Outcome) {a : Deed} {n : ℕ} {log' : List ℕ} → Ok (Some a) ≡ happened p s o → b' ≡ encode p (left s o)
      → Put log 0 (lines_text (deed_lines a)) n log' → Steps (step_outcome p s o b log) (Ok (Did (own_line a) n)) b' log'
  unfolding happened step_outcome left
  did-is (did e s') {a} {n} h st w =
      let same : a ≡ deed_of p s s' e.tick e.event = cc h in
      let size : n ≡ length (lines_text (deed_lines a)) = omega (arith, w.next) in
      rw (← same, ← size) (refl, (st, w.bytes))
  did-is ended h st w = absurd (cc h)
  did-is refused h st w = absurd (cc h)

  ended_is : (o : Outcome) {l : Line} {n : ℕ} {log' : List ℕ} → b ≡ encode p s → Ok None ≡ happened p s o → b' ≡ encode p (left s o)
      → l ≡ last_line p s
      → Put log 0 (line_text l) n log' → Steps (step_outcome p s o b log) (Ok (Done l n)) b' log'
  unfolding happened step_outcome left
  ended_is (did e s') is h st same w = absurd (cc h)
  ended_is ended {l} {n} is h st same w =
      let size : n ≡ length (line_text l) = omega (arith, w.next) in
      rw (← same, ← size) (refl, (st ∙ sym is, w.bytes))
  ended_is refused is h st same w = absurd (cc h)

  refused-is : (o : Outcome) {r : Refusal} → b ≡ encode p s → Err r ≡ happened p s o → b' ≡ encode p (left s o)
      → Steps (step_outcome p s o b log) (Err r) b' log
  unfolding happened step_outcome left
  refused-is (did e s') is h st = absurd (cc h)
  refused-is ended is h st = absurd (cc h)
  refused-is refused {r} is h st = let same : r ≡ OverMany = cc h in (ap Err same, (st ∙ sym is, refl))

-- ---- of what a ready store holds

module _ (b log : List ℕ) (r : Ready b) {b' : List ℕ} (st : b' ≡ store_left b) where
  pub step-did : {a : Deed} {n : ℕ} {log' : List ℕ} → Ok (Some a) ≡ next_answer b → Put log 0 (lines_text (deed_lines a)) n log'
      → Steps (step_next b log) (Ok (Did (own_line a) n)) b' log'
  step-did h w = did-is (plan_in b) (state_in b) b log (next_outcome b) h st w

  pub step-ended : {l : Line} {n : ℕ} {log' : List ℕ} → Ok None ≡ next_answer b → l ≡ last_line (plan_in b) (state_in b)
      → Put log 0 (line_text l) n log' → Steps (step_next b log) (Ok (Done l n)) b' log'
  step-ended h same w = ended_is (plan_in b) (state_in b) b log (next_outcome b) r.held.canonical h st same w

  pub step-refused : {r : Refusal} → Err r ≡ next_answer b → Steps (step_next b log) (Err r) b' log
  step-refused h = refused-is (plan_in b) (state_in b) b log (next_outcome b) r.held.canonical h st
