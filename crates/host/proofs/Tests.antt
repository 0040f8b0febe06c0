-- A timer, the ring in number order, and what counts of a message. Assumes nothing.
use mathlib.Core.Path.{◌≡◌, ap, ◌∙◌}
use mathlib.Core.Bool.{false, cond}
use mathlib.Core.List.{List}
use Prim.Native.Nat.{ℕ, ◌+◌, ◌≤◌}
use native.Mathlib.Numerals.{add-one}
use native.Mathlib.Omega.{arith}
use borrow.Author.Tests.{lt-ltb}
use lib.Dec.{eqb, leb}
use lib.ListN.{take}
use Rattle.ring.proofs.Rows.{take-numbers}
use Rattle.limits.specs.Limits.{most_nodes}
use Rattle.ring.specs.Ring.{numbers}
use Rattle.node.specs.Node.{R}
use Rattle.node.specs.Range.{Known}
use Rattle.node.proofs.Moves.{subject-counts}
use Rattle.host.specs.declared.Record.{Record}
use Rattle.host.specs.Call.{delivered, due_by}

-- ---- a timer

pub due-off : (tick timer : ℕ) → timer ≡ 0 → due_by tick timer ≡ false
unfolding due_by
due-off tick timer e = rw e

pub due-on : (tick timer : ℕ) → (timer ≡ 0 → ⊥) → due_by tick timer ≡ leb timer (tick + 1)
unfolding due_by
due-on tick timer h = rw (lt-ltb 0 timer (omega arith), add-one tick)

-- ---- the ring in number order

module _ (all : List ℕ) (n : ℕ) (e : all ≡ numbers 0 most_nodes) (h : n ≤ most_nodes) where
  pub ring-order : take n all ≡ numbers 0 n
  ring-order = ap (take n) e ∙ take-numbers n most_nodes 0 h

pub ruleset number_ring = (ring-order)

-- ---- a message

-- only a report's subject counts
pub delivered-subject : (r : Record) (tick kind sender subject list : ℕ) → Known kind
    → delivered r tick kind sender (cond (eqb kind R) subject 0) list ≡ delivered r tick kind sender subject list
unfolding delivered
delivered-subject r tick kind sender subject list k =
    subject-counts (numbers 0 r.nodes) r.w tick r.number kind sender subject list r.node k
