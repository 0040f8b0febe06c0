-- A plan has at most as many crash rows as nodes. Assumes nothing.
use Prim.Native.Nat.{ℕ, ◌≤◌, ◌<◌}
use mathlib.Core.Path.{◌≡◌}
use mathlib.Core.Bool.{true}
use mathlib.Mathlib.Data.Bool.Basic.{and_elim_right}
use lib.ListN.{length, get_or}
use Rattle.ring.proofs.Once.{once-few}
use Rattle.plans.specs.Plan.{Plan, crash_range, nodes_of, none_twice, crash_order, rising, later, plan_test}
use Rattle.plans.specs.Plain.{no_crash}
use Rattle.plans.proofs.Rows.{every-at, crash-row, length-nodes, nodes-below}
use Rattle.plans.proofs.Tests.{tests-of}

pub crashes-few : (p : Plan) → plan_test p ≡ true → length p.crashes ≤ p.n
unfolding crash_order none_twice
crashes-few p g =
    let t = tests-of p g in
    let node : (i : ℕ) → i < length p.crashes → (get_or p.crashes i no_crash).node < p.n =
    λ i l. (crash-row p (get_or p.crashes i no_crash) (every-at (crash_range p) p.crashes i no_crash t.crashes l)).1 in
    rw (← length-nodes p.crashes)
    (once-few p.n (nodes_of p.crashes) (nodes-below p.n p.crashes no_crash node)
    (and_elim_right (rising later p.crashes) (none_twice p.crashes) t.crash-order))
