-- How a store is filled: with zeros, then the P line, the Q line, the nodes, the C rows and the L rows, each put where the layout has it,
-- whatever the other bytes are. Assumes nothing.
use Rattle.std.specs.Prelude.{◌≡◌, true, List, [], ◌∷◌, ℕ, ◌+◌, take, replicate}
use Rattle.node.specs.declared.Node.{Node}
use Rattle.plans.specs.Plan.{Plan, start_plan, with_ring, plan_test}
use Rattle.model.specs.Platform.{State, start}
use Rattle.store.specs.Columns.{cell_put, numbers_put, row_put}
use Rattle.store.specs.Store.{encode, plan_in}
use Rattle.store.specs.Store.{node_count, longest_delay, period, time_out, end_tick, crash_count, delay_count, ring_size}
use Rattle.store.specs.Store.{ring_parts, node_parts, crash_parts, delay_parts}

-- ---- what is put

-- N, D, H, W and the end tick
unfoldable pub put_start : List ℕ → ℕ → ℕ → ℕ → ℕ → ℕ → List ℕ
put_start b n h w d end = numbers_put b ((node_count, n) ∷ (longest_delay, d) ∷ (period, h) ∷ (time_out, w) ∷ (end_tick, end) ∷ [])

-- a number of the Q line after the first i, and their count
unfoldable pub put_ring : List ℕ → ℕ → ℕ → List ℕ
put_ring b i k = cell_put (row_put ring_parts b i k) ring_size 0 (i + 1)

unfoldable pub put_node : List ℕ → ℕ → Node → List ℕ
put_node b i a = row_put node_parts b i a

-- a C row after the first i, and their count
unfoldable pub put_crash : List ℕ → ℕ → ℕ → ℕ → List ℕ
put_crash b i tick node = cell_put (row_put crash_parts b i (record { tick = tick; node = node })) crash_count 0 (i + 1)

-- an L row after the first i, and their count
unfoldable pub put_delay : List ℕ → ℕ → ℕ → ℕ → List ℕ
put_delay b i number delay = cell_put (row_put delay_parts b i (record { number = number; delay = delay })) delay_count 0 (i + 1)

-- ---- a store that is filled so far

-- a node of which all bytes are zero
unfoldable pub zero_node : Node
zero_node = record { emitter = 0; observer = 0; watch = 0; heartbeat = 0; list = 0; mark = 0 }

-- no node is opened yet
unfoldable pub unopened : Plan → State
unopened p = record { done = 0; last = 0; next = 0; nodes = replicate p.n zero_node; flight = [] }

-- a plan's P line and the first i numbers of its Q line
unfoldable pub ring_up_to : Plan → ℕ → Plan
ring_up_to p i = with_ring (start_plan p.n p.h p.w p.d p.end) (take i p.ring)

-- the store of these, before its nodes are opened
unfoldable pub begun : Plan → ℕ → List ℕ
begun p i = encode (ring_up_to p i) (unopened p)

-- bytes that hold a plan in range, and no node is opened yet
pub record Unopened (b : List ℕ) : Type 0 where
  pub good : plan_test (plan_in b) ≡ true
  pub is : b ≡ encode (plan_in b) (unopened (plan_in b))

-- a plan's P line and Q line, its first i C rows and its first j L rows
unfoldable pub rows_up_to : Plan → ℕ → ℕ → Plan
rows_up_to p i j = record {
  n = p.n;
  h = p.h;
  w = p.w;
  d = p.d;
  end = p.end;
  ring = p.ring;
  crashes = take i p.crashes;
  delays = take j p.delays;
}

-- the store of these, and of all nodes as they are opened
unfoldable pub filled : Plan → ℕ → ℕ → List ℕ
filled p i j = encode (rows_up_to p i j) (start p)
