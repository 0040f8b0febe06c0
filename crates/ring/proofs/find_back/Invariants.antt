-- `ring::find_back` meets its contract. Assumes nothing.
use mathlib.Core.Path.{◌≡◌}
use Prim.Native.Nat.{◌+◌}
use lib.ListN.{length, take}
use Rattle.ring.specs.Ring.{round, first_unlisted, back}
use Rattle.ring.proofs.Searches.{after}
use mathlib.Core.List.{reverse}
use Rattle.ring.proofs.find_back.Given as goal

-- so many were passed, and s places are left
abbrev pub invariant-loop-s : goal.invariant-loop-s
invariant-loop-s l =
    (l.passed + l.s ≡ length l.order) × (back l.order l.d l.p ≡ after l.passed (first_unlisted l.d (reverse (take l.s (round l.order l.p)))))
