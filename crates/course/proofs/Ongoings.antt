-- Looks one after another up to the next event, and the beginning of a run. Assumes nothing.
use Prim.Native.Nat.{ℕ, ◌+◌, ◌-◌, ◌≤◌, ◌<◌}
use mathlib.Core.Path.{◌≡◌, sym, ap₂, subst, ◌∙◌}
use mathlib.Core.List.{List}
use mathlib.Core.Option.{none}
use native.Mathlib.Omega.{arith}
use Rattle.std.specs.Prelude.{Some, None, Ok, Err}
use Rattle.std.specs.List.{copy_within}
use Rattle.limits.specs.declared.Refusal.{Refusal}
use Rattle.limits.specs.Limits.{most_sent}
use Rattle.store.specs.declared.Flight.{Flight}
use Rattle.store.specs.Store.{plan_in, state_in}
use Rattle.event.specs.Ready.{Ready}
use Rattle.event.proofs.Readiness.{ready-sound}
use Rattle.event.proofs.Doing.{ended-answer}
use Rattle.event.proofs.LineRoom.{last_of}
use Rattle.logline.specs.declared.Line.{Line}
use Rattle.model.specs.declared.Deed.{Deed}
use Rattle.plans.specs.Plan.{Plan}
use Rattle.model.specs.Platform.{survivors, crashed_list, next_event}
use Rattle.model.specs.Lines.{line, last_letter, last_line}
use Rattle.queue.specs.Rows.{places}
use Rattle.queue.proofs.Queues.{holds-moved, holds-count}
use Rattle.course.specs.declared.Progress.{Progress}
use Rattle.course.specs.declared.Step.{Step}
use Rattle.course.specs.declared.Step.TheVariants.{Did, Waits, Ended}
use Rattle.course.specs.Apart.{Apart}
use Rattle.course.specs.Progress.{Underway, SteppedAs, Agrees}
use Rattle.course.proofs.Parting.{apart-plan, apart-done}

pub room_moved : (b : List ℕ) (q q' : List Flight) (c : Progress) (whole : List ℕ) → Underway b q c whole → q' ≡ copy_within q c.start c.end 0
    → Underway b q' (record { start = 0; end = c.end - c.start; dead = c.dead; bound = c.bound; x = c.x }) whole
    × (c.end - c.start + most_sent ≤ places)
room_moved b q q' c whole k m = (
  record {
    ready = k.ready;
    apart = record { held = k.apart.held; is = k.apart.is; holds = holds-moved q q' c.start c.end (state_in whole).flight k.apart.holds m };
    dead = k.dead;
    timers = k.timers;
  },
  omega (arith, (ready-sound whole k.ready).few, holds-count q c.start c.end (state_in whole).flight k.apart.holds),
)

-- what a look comes to, from c to d
module _ (whole : List ℕ) (c : Progress) (b' : List ℕ) (q' : List Flight) (d : Progress) where
  pub look-did : (e : Step) (l : Deed) → SteppedAs whole c (Ok e) b' q' d → e ≡ Did l → Agrees whole (Ok (Some l)) b' q' d
  unfolding SteppedAs
  look-did e l s h = let f = subst (λ (z : Step). SteppedAs whole c (Ok z) b' q' d) h s in record { answer = f.0; underway = f.1 }

  pub look-waits : (e : Step) → SteppedAs whole c (Ok e) b' q' d → e ≡ Waits
      → (c.bound ≤ (plan_in whole).end) × (c.bound < d.bound) × (d.end ≡ c.end) × Underway b' q' d whole
  unfolding SteppedAs
  look-waits e s h = subst (λ (z : Step). SteppedAs whole c (Ok z) b' q' d) h s

  look_none : (e : Step) → SteppedAs whole c (Ok e) b' q' d → e ≡ Ended
      → (next_event (plan_in whole) (state_in whole) ≡ none) × (d ≡ c) × Underway b' q' d whole
  unfolding SteppedAs
  look_none e s h = subst (λ (z : Step). SteppedAs whole c (Ok z) b' q' d) h s

  pub look-ended : (e : Step) → SteppedAs whole c (Ok e) b' q' d → e ≡ Ended → Agrees whole (Ok None) b' q' d
  look-ended e s h =
      let n = look_none e s h in
      let f = ended-answer (plan_in whole) (state_in whole) whole n.2.apart.held.canonical n.0 in
      record { answer = f.0; underway = subst (Underway b' q' d) f.1 n.2 }

  pub look-refused : (r : Refusal) → SteppedAs whole c (Err r) b' q' d → Agrees whole (Err r) b' q' d
  unfolding SteppedAs
  look-refused r s = record { answer = s.0; underway = subst (Underway b' q' d) s.1 s.3 }

-- ---- the last line, as of the whole store

pub last-whole : {b : List ℕ} {q : List Flight} {c : Progress} {whole : List ℕ} → Underway b q c whole → (l : Line)
    → l ≡ line (last_letter (plan_in b)) (plan_in b).end (survivors (plan_in b) (state_in b).done) (c.end - c.start)
    (crashed_list (plan_in b) (state_in b).done)
    → l ≡ last_line (plan_in whole) (state_in whole)
last-whole {b} {q} {c} {whole} k l e =
    last_of whole (c.end - c.start) (sym (holds-count q c.start c.end (state_in whole).flight k.apart.holds)) l
    (e ∙ ap₂ (λ (p : Plan) (n : ℕ). line (last_letter p) p.end (survivors p n) (c.end - c.start) (crashed_list p n)) (apart-plan k.apart)
    (apart-done k.apart))

-- ---- a run begins, and ends

pub run-begins : (b b' : List ℕ) (q' : List Flight) (n dead : ℕ) → Ready b → dead ≡ crashed_list (plan_in b) (state_in b).done → Apart b' q' 0 n b
    → Underway b' q' (record { start = 0; end = n; dead = dead; bound = 0; x = 0 }) b
run-begins b b' q' n dead r de a = record {
  ready = r;
  apart = a;
  dead = de;
  timers = record { watch = λ j v k. omega arith; heartbeat = λ j v k. omega arith; passed = λ j k. absurd (omega arith) };
}
