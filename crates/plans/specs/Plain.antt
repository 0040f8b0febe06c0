-- A plan in range, as facts: what the theorems need of it. Assumes nothing.
use Rattle.std.specs.Prelude.{◌≢◌, ℕ, ◌≤◌, ◌<◌, length, get_or}
use mathlib.Core.List.{Memᴰ}
use Rattle.limits.specs.Limits.{most_nodes, most_tick}
use Rattle.ring.specs.Ring.{InOrder}
use Rattle.plans.specs.Plan.{Crash, Delay, Plan, order_of}

abbrev pub no_crash : Crash
no_crash = record { tick = 0; node = 0 }

-- the C line at a place
abbrev pub row_at : Plan → ℕ → Crash
row_at p i = get_or p.crashes i no_crash

-- a plan in range, as far as the theorems need it: P line, C lines that rise with no node twice, delays of 1 to D, and an order that
-- has each node once. Whether W is at least H + D is apart; the upper ends of H, W and D and the numbers of L lines play no part
pub record Plain (p : Plan) : Type 0 where
  pub n≥ : 1 ≤ p.n
  pub n≤ : p.n ≤ most_nodes
  pub h≥ : 1 ≤ p.h
  pub w≥ : 1 ≤ p.w
  pub d≥ : 1 ≤ p.d
  pub end≤ : p.end ≤ most_tick
  pub order : InOrder p.n (order_of p)
  pub node : (i : ℕ) → i < length p.crashes → (row_at p i).node < p.n
  pub tick : (i : ℕ) → i < length p.crashes → (row_at p i).tick ≤ p.end
  pub rising : (i j : ℕ) → i < j → j < length p.crashes → (row_at p i).tick ≤ (row_at p j).tick
  pub once : (i j : ℕ) → i < j → j < length p.crashes → (row_at p i).node ≢ (row_at p j).node
  pub delay : (r : Delay) → Memᴰ r p.delays → (1 ≤ r.delay) × (r.delay ≤ p.d)
