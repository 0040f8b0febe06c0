-- `platform::advance::run_queued` meets its contract. Assumes nothing.
use mathlib.Core.List.{List}
use mathlib.Core.Path.{◌≡◌}
use Prim.Native.Nat.{ℕ}
use lib.ListN.{length}
use Rattle.course.specs.Progress.{Underway}
use Rattle.platform.proofs.Queued.{RunsOn}
use Rattle.platform.proofs.advance.run_queued.Given as goal

abbrev pub invariant-loop-events : goal.invariant-loop-events
invariant-loop-events l =
    (length l.store ≡ length l.initial.store) × (length l.q ≡ length l.initial.q)
    × ((first : List ℕ) → Underway l.initial.store l.initial.q l.initial.c first → RunsOn first l.budget l.events l.store l.q l.c)
