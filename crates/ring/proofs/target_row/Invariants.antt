-- `ring::target_row` meets its contract. Assumes nothing.
use mathlib.Core.Path.{◌≡◌}
use Prim.Native.Nat.{◌^◌}
use Rattle.ring.specs.Ring.{none, ahead}
use Rattle.ring.proofs.Rows.{filled}
use Rattle.ring.proofs.target_row.Given as goal

abbrev pub invariant-loop-j : goal.invariant-loop-j
invariant-loop-j l = l.target-items ≡ filled (λ i. ahead l.order l.d l.p (2 ^ i)) none l.last l.j
