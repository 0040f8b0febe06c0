-- What a plan and a state may hold: the ranges that document 01 sets for a store, and the bounds of the layouts. First as facts with
-- names, then as computed tests for number 7. The ranges of a node are in crate node. Assumes nothing.
use Rattle.std.specs.Prelude.{◌≡◌, ◌≢◌, Bool, true, cond, not, ◌&&◌, ℕ, suc, ◌+◌, ◌≤◌, ◌<◌, eqb, leb, ltb, length, drop}
use mathlib.Core.List.{List, [], ◌∷◌, Memᴰ}
use Rattle.node.specs.declared.Node.{Node}
use Rattle.limits.specs.Limits.{most_in_flight, most_next}
use Rattle.plans.specs.Plan.{Crash, Plan, plan_test}
use Rattle.plans.specs.Plain.{row_at, Plain}
use Rattle.node.specs.Range.{NodeRange, LiveRange, Known, Carried, node_test, live_test, timers_test, kind_test, carried_test}
use Rattle.model.specs.Platform.{InFlight, State, alive, node_of}

-- ---- a plan

-- the plan of an 'E run', as far as the theorems need it: in range, and W at least H + D
pub record EndsInE (p : Plan) : Type 0 where
  pub plain : Plain p
  pub long : p.h + p.d ≤ p.w

-- ---- a state

-- a message in flight, where t is the last event's tick
pub record FlightRange (p : Plan) (t : ℕ) (m : InFlight) : Type 0 where
  pub kind : Known m.kind
  pub from : m.from < p.n
  pub to : m.to < p.n
  pub subject : m.subject < p.n
  pub apart : m.from ≢ m.to
  pub due : m.due ≤ t + p.d
  pub list : Carried p.n m.kind m.list

-- message numbers rise from lo on and are below hi
unfoldable pub Rises : ℕ → ℕ → List InFlight → Type 0
Rises lo hi [] = lo ≤ hi
Rises lo hi (m ∷ ms) = (lo ≤ m.number) × Rises (suc m.number) hi ms

-- each undone crash is at c or later, each message due at m or later, each live node's timer at t or later
pub record NotBefore (p : Plan) (s : State) (c m t : ℕ) : Type 0 where
  pub crash : (i : ℕ) → s.done ≤ i → i < length p.crashes → c ≤ (row_at p i).tick
  pub message : (g : InFlight) → Memᴰ g s.flight → m ≤ g.due
  pub watch : (j : ℕ) → alive p s.done j ≡ true → (node_of s j).watch ≢ 0 → t < (node_of s j).watch
  pub heartbeat : (j : ℕ) → alive p s.done j ≡ true → (node_of s j).heartbeat ≢ 0 → t < (node_of s j).heartbeat

-- every range but the cap on the next number
pub record Sound (p : Plan) (s : State) : Type 0 where
  pub done : s.done ≤ length p.crashes
  pub last : s.last ≤ p.end
  pub nodes : length s.nodes ≡ p.n
  pub fields : (j : ℕ) → j < p.n → NodeRange p.n p.h p.w s.last (node_of s j)
  pub live : (j : ℕ) → alive p s.done j ≡ true → LiveRange j (node_of s j)
  pub flying : (m : InFlight) → Memᴰ m s.flight → FlightRange p s.last m
  pub rises : Rises 0 s.next s.flight
  pub few : length s.flight ≤ most_in_flight
  pub past : NotBefore p s s.last s.last s.last

pub record InRange (p : Plan) (s : State) : Type 0 where
  pub sound : Sound p s
  pub cap : s.next ≤ most_next

-- ---- the same as computed tests, for number 7

-- node i, which is a: if it is live, it has nothing about itself, and no timer of it is overdue
abbrev pub node_here : Plan → ℕ → ℕ → ℕ → Node → Bool
node_here p done t i a = node_test p.n p.h p.w t a && cond (alive p done i) (live_test i a && timers_test t a) true

-- the nodes from number i on
unfoldable pub nodes_test : Plan → ℕ → ℕ → ℕ → List Node → Bool
nodes_test p done t i [] = true
nodes_test p done t i (a ∷ ns) = node_here p done t i a && nodes_test p done t (suc i) ns

unfoldable pub message_test : Plan → ℕ → InFlight → Bool
message_test p t m =
    kind_test m.kind && (ltb m.from p.n && (ltb m.to p.n && (ltb m.subject p.n
    && (not (eqb m.from m.to) && (leb t m.due && (leb m.due (t + p.d) && carried_test p.n m.kind m.list))))))

-- messages whose numbers rise from lo on and are below hi
unfoldable pub flight_test : Plan → ℕ → ℕ → ℕ → List InFlight → Bool
flight_test p t lo hi [] = leb lo hi
flight_test p t lo hi (m ∷ ms) = leb lo m.number && (message_test p t m && flight_test p t (suc m.number) hi ms)

-- the first undone crash is not before t
unfoldable pub undone_test : ℕ → List Crash → Bool
undone_test t [] = true
undone_test t (r ∷ rs) = leb t r.tick

unfoldable pub sound_test : Plan → State → Bool
sound_test p s =
    leb s.done (length p.crashes) && (leb s.last p.end && (eqb (length s.nodes) p.n
    && (nodes_test p s.done s.last 0 s.nodes && (flight_test p s.last 0 s.next s.flight
    && (leb (length s.flight) most_in_flight && undone_test s.last (drop s.done p.crashes))))))

-- what a store holds is in range: a plan that a run file may hold, and a state in range
unfoldable pub store_test : Plan → State → Bool
store_test p s = plan_test p && (sound_test p s && leb s.next most_next)
