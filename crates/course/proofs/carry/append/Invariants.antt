-- `course::carry::append` meets its contract. Assumes nothing.
use Prim.Native.Nat.{ℕ}
use mathlib.Core.Path.{◌≡◌}
use mathlib.Core.List.{List}
use lib.ListN.{length}
use Rattle.course.specs.Carry.{Emptied}
use Rattle.course.proofs.Carrying.{Prefix}
use Rattle.course.proofs.carry.append.Given as goal

abbrev pub invariant-loop-m : goal.invariant-loop-m
invariant-loop-m l = (length l.b ≡ length l.initial.b) × ((whole : List ℕ) → Emptied l.initial.b l.flying whole → Prefix whole l.m-index l.b)
