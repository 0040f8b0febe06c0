-- A run whose messages stand in a queue, event by event: it answers and leaves what a run by the search does. Assumes nothing.
use mathlib.Core.Path.{◌≡◌, refl, sym, ◌∙◌, subst}
use mathlib.Core.List.{List}
use Prim.Native.Nat.{ℕ, ◌+◌, ◌<◌}
use Rattle.std.specs.Prelude.{Option, Some, None, Result, Ok, Err}
use Rattle.limits.specs.declared.Refusal.{Refusal}
use Rattle.model.specs.declared.Deed.{Deed}
use Rattle.store.specs.declared.Flight.{Flight}
use Rattle.event.specs.Event.{store_left}
use Rattle.event.specs.Ready.{Ready}
use Rattle.course.specs.declared.Progress.{Progress}
use Rattle.course.specs.Progress.{Underway, Agrees}
use Rattle.platform.specs.declared.Ran.TheVariants.{Done}
use Rattle.platform.specs.Calls.{run_next}
use Rattle.platform.proofs.Running.{Runs, Ends, run-starts, run-goes-on, run-ended, run-refused}

-- of a run of `budget` from the store `first`, `done` events are done, and led to the whole store that b and the queue stand for
pub record RunsOn (first : List ℕ) (budget done : ℕ) (b : List ℕ) (q : List Flight) (c : Progress) : Type 0 where
  pub whole : List ℕ
  pub underway : Underway b q c whole
  pub runs : Runs first budget done whole

pub queued-starts : (first b : List ℕ) (q : List Flight) (budget : ℕ) (c : Progress) → Ready first → Underway b q c first
    → RunsOn first budget 0 b q c
queued-starts first b q budget c r k = record { whole = first; underway = k; runs = run-starts first budget r }

module _ {first : List ℕ} {budget done : ℕ} {b : List ℕ} {q : List Flight} {c : Progress} (w : RunsOn first budget done b q c)
    (more : done < budget) {r : Result (Option Deed) Refusal} {b' : List ℕ} {q' : List Flight} {c' : Progress}
    (next : (whole : List ℕ) → Underway b q c whole → Agrees whole r b' q' c') where
  -- the whole store after the next event
  abbrev pub after : List ℕ
  after = store_left w.whole

  told : Agrees w.whole r b' q' c'
  told = next w.whole w.underway

  pub queued-on : Underway b' q' c' after
  queued-on = told.underway

  pub queued-did : {d : Deed} → r ≡ Ok (Some d) → RunsOn first budget (done + 1) b' q' c'
  queued-did e = record {
    whole = after;
    underway = queued-on;
    runs = run-goes-on first budget done w.whole w.runs more refl (sym e ∙ told.answer);
  }

  pub queued-ended : r ≡ Ok None → {s : List ℕ} → s ≡ after → Ends (run_next first budget) (Ok (Done done)) s
  queued-ended e st = run-ended first budget done w.whole w.runs more st (sym e ∙ told.answer)

  pub queued-refused : {refusal : Refusal} → r ≡ Err refusal → {s : List ℕ} → s ≡ after
      → Ends (run_next first budget) (Err (record { refusal = refusal; events = done })) s
  queued-refused e st = run-refused first budget done w.whole w.runs more st (sym e ∙ told.answer)

-- the messages are back in the store
pub queued-back : {first : List ℕ} {budget done : ℕ} {b : List ℕ} {q : List Flight} {c : Progress} (w : RunsOn first budget done b q c) {s : List ℕ}
    → ((whole : List ℕ) → Underway b q c whole → s ≡ whole) → Runs first budget done s
queued-back {first} {budget} {done} w back = subst (Runs first budget done) (sym (back w.whole w.underway)) w.runs
