-- What demand 3 claims of one state, in the words of the customer's terms and of document 01's 'The platform': which nodes have crashed,
-- that no live node is listed, that every survivor is settled; what requests 106 and 107 of document 02 claim of crashes close together;
-- and the ranges. proofs/Theorems.antt proves it of every state that a file leads to. Assumes nothing.
use Rattle.std.specs.Prelude.{◌≡◌, true, false, ℕ, suc, ◌+◌, ◌-◌, ◌*◌, ◌^◌, ◌≤◌, ◌<◌}
use mathlib.Core.List.{List, Memᴰ}
use Rattle.ring.specs.Ring.{listed, jumps}
use Rattle.model.specs.Platform.{State, Entry, crash_entry, alive, survivors, next_survivor, survivor_before, crashed_list, node_of, pending, steps, after}
use Rattle.plans.specs.Plain.{row_at}
use Rattle.model.specs.Range.{Sound, InRange}
use Rattle.plans.specs.Plan.{Crash, Plan}

-- ---- crashed nodes

-- 'Crashed is each node whose C line's event is among them'; `alive` goes by how many C lines are done
pub record CrashedAmong (p : Plan) (es : List Entry) (k : ℕ) : Type 0 where
  pub row : Crash
  pub planned : Memᴰ row p.crashes
  pub node : row.node ≡ k
  pub among : Memᴰ (crash_entry row) es

-- after these events, the nodes that `alive` calls dead are exactly those
pub record CrashedAre (p : Plan) (es : List Entry) (s : State) : Type 0 where
  pub dead : (k : ℕ) → CrashedAmong p es k → alive p s.done k ≡ false
  pub only : (k : ℕ) → alive p s.done k ≡ false → CrashedAmong p es k

-- ---- safety

-- No node's list, a crashed node's neither, holds a live node.
pub record Safe (p : Plan) (s : State) : Type 0 where
  pub unlisted : (j k : ℕ) → listed (node_of s j).list k ≡ true → alive p s.done k ≡ false

-- ---- settling

-- k is the base-two logarithm of m, rounded up: the least number with m ≤ 2 ^ k, which for none is 0
pub record LogRoundedUp (m k : ℕ) : Type 0 where
  pub enough : m ≤ 2 ^ k
  pub least : (j : ℕ) → m ≤ 2 ^ j → k ≤ j

-- K for m survivors: how many powers of two are below m. It is the logarithm above: `logarithm` in proofs/Theorems.antt
abbrev pub K : ℕ → ℕ
K m = jumps m

-- S = W + (K + 2) × D, for m survivors
unfoldable pub S : Plan → ℕ → ℕ
S p m = p.w + (K m + 2) * p.d

-- the tick until which S is counted from the crash of C line i: its survivors are those of the first i + 1 lines
unfoldable pub settled_by : Plan → ℕ → ℕ
settled_by p i = (row_at p i).tick + S p (survivors p (suc i))

-- Each of the first k crashes came at least S ticks after the one before.
unfoldable pub Spaced : Plan → ℕ → Type 0
Spaced p k = (i : ℕ) → suc i < k → settled_by p i ≤ (row_at p (suc i)).tick

-- No event due before u is left: planned crashes, messages and timers of live nodes, those beyond the end tick too.
unfoldable pub NoneLeftBefore : Plan → State → ℕ → Type 0
NoneLeftBefore p s u = (e : Entry) → Memᴰ e (pending p s) → u ≤ e.tick

-- node j lists exactly the crashed nodes, observes the survivor before it and emits to the next one
pub record SettledAt (p : Plan) (s : State) (j : ℕ) : Type 0 where
  pub list : (node_of s j).list ≡ crashed_list p s.done
  pub emitter : (node_of s j).emitter ≡ survivor_before p s.done j
  pub observer : (node_of s j).observer ≡ next_survivor p s.done j

-- Where i + 1 crashes are done, each at least S ticks after the one before, and S ticks have passed since the last, every
-- survivor is settled.
pub record Settles (p : Plan) (s : State) : Type 0 where
  pub settled : (i : ℕ) → s.done ≡ suc i → Spaced p (suc i) → NoneLeftBefore p s (settled_by p i)
      → (j : ℕ) → j < p.n → alive p s.done j ≡ true → SettledAt p s j

-- ---- request 106: 'many deaths close together', however close

-- c + 2 × W × f + D, where C line i is the last one done: c is its tick, and f, 'nodes crashed in all', is i + 1
unfoldable pub joined_by : Plan → ℕ → ℕ
joined_by p i = (row_at p i).tick + 2 * p.w * suc i + p.d

-- No event due by u is left, as from the end of tick u on.
unfoldable pub NoneLeftBy : Plan → State → ℕ → Type 0
NoneLeftBy p s u = NoneLeftBefore p s (suc u)

-- node j's 'emitter and observer are the neighbouring survivors'
pub record JoinedAt (p : Plan) (s : State) (j : ℕ) : Type 0 where
  pub emitter : (node_of s j).emitter ≡ survivor_before p s.done j
  pub observer : (node_of s j).observer ≡ next_survivor p s.done j

-- Where i + 1 crashes are done, whenever they came, and no event due by that tick is left, every survivor's emitter and observer are
-- the neighbouring survivors.
pub record Joins (p : Plan) (s : State) : Type 0 where
  pub joined : (i : ℕ) → s.done ≡ suc i → NoneLeftBy p s (joined_by p i)
      → (j : ℕ) → j < p.n → alive p s.done j ≡ true → JoinedAt p s j

-- ---- request 107: then the lists 'all equal the crashed nodes'

-- (m − 1) × (H + D) ticks 'after the bound of #106', where C line i is the last one done and m nodes survive
unfoldable pub complete_by : Plan → ℕ → ℕ
complete_by p i = joined_by p i + (survivors p (suc i) - 1) * (p.h + p.d)

-- Where i + 1 crashes are done, whenever they came, and no event due by that tick is left, every survivor lists exactly the crashed nodes.
pub record Completes (p : Plan) (s : State) : Type 0 where
  pub complete : (i : ℕ) → s.done ≡ suc i → NoneLeftBy p s (complete_by p i)
      → (j : ℕ) → j < p.n → alive p s.done j ≡ true → (node_of s j).list ≡ crashed_list p s.done

-- ---- nothing that the rules lead to is out of range, whatever W

pub record NeverOutOfRange (p : Plan) : Type 0 where
  pub reached : (e : ℕ) → InRange p (after p e)
  pub kept : (s : State) → Sound p s → (k : ℕ) → Sound p (steps p k s)
