-- `course::turn::send_all` meets its contract. Assumes nothing.
use Prim.Native.Nat.{ℕ}
use mathlib.Core.Path.{◌≡◌}
use mathlib.Core.List.{List}
use lib.ListN.{length}
use Rattle.event.specs.Event.{Turns}
use Rattle.course.specs.Apart.{Apart}
use Rattle.course.proofs.Parting.{Sent}
use Rattle.course.proofs.turn.send_all.Given as goal

abbrev pub invariant-loop-i : goal.invariant-loop-i
invariant-loop-i l =
    (length l.b ≡ length l.initial.b)
    × (length l.q ≡ length l.initial.q)
    × ((whole : List ℕ) → Apart l.initial.b l.initial.q l.start l.end whole → Turns whole l.t l.x l.fn.u
    → Sent whole l.t l.x l.fn.u l.start l.end l.i l.b l.q)
