-- `store::nodes::open_nodes` meets its contract. The loop's invariant: the first i nodes are opened. Assumes nothing.
use mathlib.Core.Path.{◌≡◌}
use mathlib.Core.List.{List}
use Prim.Native.Nat.{ℕ, ◌-◌, ◌≤◌}
use lib.ListN.{length}
use Rattle.limits.specs.Limits.{most_nodes}
use Rattle.ring.specs.Ring.{numbers}
use Rattle.store.specs.Store.{encode, plan_in}
use Rattle.store.specs.Filling.{Unopened}
use Rattle.store.proofs.Opening.{up_to}
use Rattle.store.proofs.nodes.open_nodes.Given as goal

-- the first i nodes are opened
pub record Inv (s₀ all : List ℕ) (n h w : ℕ) (s : List ℕ) (i : ℕ) : Type 0 where
  pub plan : Unopened s₀
  pub every : all ≡ numbers 0 most_nodes
  pub nodes : n ≡ (plan_in s₀).n
  pub period : h ≡ (plan_in s₀).h
  pub time : w ≡ (plan_in s₀).w
  pub most : n ≤ most_nodes
  pub few : i ≤ n
  pub is : s ≡ encode (plan_in s₀) (up_to (plan_in s₀) i)
  pub size : length s ≡ length s₀

abbrev pub invariant-loop-i : goal.invariant-loop-i
invariant-loop-i l = Inv l.initial.s l.all l.n l.h l.w l.s l.i

abbrev pub decreases-loop-i : goal.decreases-loop-i
decreases-loop-i l = l.n - l.i
