-- The invariant that every event keeps, part by part. Definitions only: the files that follow prove it kept. Assumes nothing.
use mathlib.Core.Path.{◌≡◌}
use mathlib.Core.Logic.{◌⊎◌, ◌≢◌}
use mathlib.Core.List.{List}
use mathlib.Core.Bool.{true, false}
use Prim.Native.Nat.{ℕ, ◌+◌, ◌≤◌, ◌<◌}
use Rattle.node.specs.Node.{H, O, R}
use Rattle.model.specs.Platform.{InFlight}
use Rattle.model.proofs.Events.{Seen, View, Live, Dead, Lists, Marks, Carries, ◌∈◌, Params}

-- a live node whose heartbeat is on its way to a live node that observes it has that node as its observer
abbrev pub Answered : View → Type 0
Answered s =
    (m : InFlight) → m ∈ s.flight → m.kind ≡ H → Live s m.from → Live s m.to
    → (s.node m.to).emitter ≡ m.from → m.from ≢ m.to → (s.node m.from).observer ≡ m.to

module _ (p : Params) where
  -- b observes a, or has listed it
  abbrev pub Tied : View → ℕ → ℕ → Type 0
  Tied s b a = ((s.node b).emitter ≡ a) ⊎ (Lists s b a)

  -- k is crashed, and nothing of it is in flight any more
  pub record Gone (s : View) (k : ℕ) : Type 0 where
    pub dead : Dead s k
    pub long : p.c k + p.D ≤ s.last

  -- why the watch of j, due at w, will not expire on its emitter i while i lives; n is i's state. A heartbeat of i is on its way; or i
  -- will send one in time; or it will, once it has the O of j that is on its way; or i has crashed, and long enough before w
  pub data Covered (l : List InFlight) (j i w : ℕ) (n : Seen) : Type 0 where
    by_heartbeat : (m : InFlight) → m ∈ l → m.kind ≡ H → m.from ≡ i → m.to ≡ j → m.due ≤ w → Covered l j i w n
    by_timer : n.alive ≡ true → n.observer ≡ j → n.heartbeat + p.D ≤ w → Covered l j i w n
    by_observer : n.alive ≡ true → (m : InFlight) → m ∈ l → m.kind ≡ O → m.from ≡ j → m.to ≡ i → m.due + p.D ≤ w
        → Covered l j i w n
    by_crash : n.alive ≡ false → p.c i + p.D ≤ w → Covered l j i w n

  -- the part of the invariant that every event keeps for the same reason
  pub record Base (s : View) : Type 0 where
    -- a node that observes another is a node of the ring, and so is the other
    pub in_n : (j : ℕ) → (s.node j).emitter ≢ j → (j < p.N) × ((s.node j).emitter < p.N)
    -- a crashed node was planned to crash, and not later than now
    pub dead : (k : ℕ) → Dead s k → (p.planned k ≡ true) × (p.c k ≤ s.last)
    -- a node lists every node between its emitter and itself
    pub between : (j k : ℕ) → p.gap j k < p.gap j (s.node j).emitter → Lists s j k
    -- a listed node is crashed, and nothing of it is in flight
    pub listed : (j k : ℕ) → Lists s j k → Gone s k
    -- and so is the subject of a report
    pub reported : (m : InFlight) → m ∈ s.flight → m.kind ≡ R → Gone s m.subject
    -- and so are the nodes of a list that is carried
    pub carried : (m : InFlight) → m ∈ s.flight → m.kind ≡ H → (k : ℕ) → Carries m k → Gone s k
    -- a marked node is listed
    pub marked : (j k : ℕ) → Marks s j k → Lists s j k
    -- no message is due before the last event
    pub m-due : (m : InFlight) → m ∈ s.flight → s.last ≤ m.due
    -- a message is due less than D ticks after its sender's crash
    pub m-from : (m : InFlight) → m ∈ s.flight → p.planned m.from ≡ true → m.due < p.c m.from + p.D
    -- whoever is sent a heartbeat observes the sender, or lists it
    pub m-H : (m : InFlight) → m ∈ s.flight → m.kind ≡ H → Tied s m.to m.from
    -- whoever sends an O observes the receiver, or lists it
    pub m-O : (m : InFlight) → m ∈ s.flight → m.kind ≡ O → Tied s m.from m.to
    -- no message is from its receiver
    pub m-self : (m : InFlight) → m ∈ s.flight → m.from ≢ m.to
    -- reports go from nodes of the ring to nodes of the ring
    pub m-N : (m : InFlight) → m ∈ s.flight → m.kind ≡ R → (m.from < p.N) × (m.to < p.N)
    -- a node's observer observes it, or lists it
    pub observer : (a : ℕ) → Tied s (s.node a).observer a
    -- no planned crash of a live node is before the last event
    pub undone : (k : ℕ) → Live s k → p.planned k ≡ true → s.last ≤ p.c k

  -- of a live node j in the state n
  pub record Timers (last j : ℕ) (n : Seen) : Type 0 where
    -- a node that observes another has both timers on
    pub on : n.emitter ≢ j → (n.watch_on ≡ true) × (n.heartbeat_on ≡ true)
    -- a node whose watch is on observes another
    pub off : n.watch_on ≡ true → n.emitter ≢ j
    -- no timer is before the last event
    pub watch≥ : n.watch_on ≡ true → last ≤ n.watch
    pub heartbeat≥ : n.heartbeat_on ≡ true → last ≤ n.heartbeat
    -- a heartbeat is due within H ticks
    pub heartbeat≤ : n.heartbeat_on ≡ true → n.heartbeat ≤ last + p.H
    -- a node whose heartbeat is on sends to another
    pub to : n.heartbeat_on ≡ true → n.observer ≢ j
    -- a node that observes itself sends to itself
    pub lone : n.emitter ≡ j → n.observer ≡ j

  -- THE INVARIANT
  pub record Inv (s : View) : Type 0 where
    pub base : Base s
    pub timers : (j : ℕ) → Live s j → Timers s.last j (s.node j)
    pub answered : Answered s
    -- every watch of a live node on another is covered
    pub covered : (j i : ℕ) → Live s j → (s.node j).emitter ≡ i → i ≢ j → Covered s.flight j i (s.node j).watch (s.node i)
