-- `ring::find_ahead` meets its contract. Assumes nothing.
use mathlib.Core.Path.{◌≡◌}
use lib.ListN.{get_or, drop}
use Rattle.ring.specs.Ring.{none, unlisted, round, ahead}
use Rattle.ring.proofs.find_ahead.Given as goal

abbrev pub invariant-loop-s : goal.invariant-loop-s
invariant-loop-s l = ahead l.order l.d l.p l.k ≡ get_or (unlisted l.d (drop l.s (round l.order l.p))) l.left none
