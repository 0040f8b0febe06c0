-- Definitions for the proof of demand 3: a state as the proof sees it, and each kind of event as a relation between two such states.
-- Assumes nothing.
use mathlib.Core.Path.{◌≡◌}
use mathlib.Core.Logic.{◌⊎◌, ◌≢◌}
use mathlib.Core.List.{List, [], ◌∷◌, Memᴰ}
use mathlib.Core.Bool.{Bool, true, false}
use Prim.Native.Nat.{ℕ, suc, ◌+◌, ◌*◌, ◌^◌, ◌≤◌, ◌<◌}
use Rattle.ring.specs.Ring.{listed}
use Rattle.node.specs.Node.{H, O, R}
use Rattle.model.specs.Platform.{InFlight}
use Rattle.ring.proofs.GoingBack.{iter, First}

-- ---- states

-- a node, its timers as on or off and a tick, its dead list and its mark as tests
pub record Seen : Type 0 where
  pub alive : Bool
  pub emitter : ℕ
  pub observer : ℕ
  pub watch_on : Bool
  pub watch : ℕ
  pub heartbeat_on : Bool
  pub heartbeat : ℕ
  pub list : ℕ → Bool
  pub mark : ℕ → Bool

-- the last event's tick, the nodes, the messages in flight
pub record View : Type 0 where
  pub last : ℕ
  pub node : ℕ → Seen
  pub flight : List InFlight

abbrev pub Live : View → ℕ → Type 0
Live s j = (s.node j).alive ≡ true

abbrev pub Dead : View → ℕ → Type 0
Dead s j = (s.node j).alive ≡ false

-- j lists k
abbrev pub Lists : View → ℕ → ℕ → Type 0
Lists s j k = (s.node j).list k ≡ true

-- j has marked k
abbrev pub Marks : View → ℕ → ℕ → Type 0
Marks s j k = (s.node j).mark k ≡ true

-- the list that m carries has k
abbrev pub Carries : InFlight → ℕ → Type 0
Carries m k = listed m.list k ≡ true

infix 40 ◌∈◌
abbrev pub ◌∈◌ : InFlight → List InFlight → Type 0
m ∈ l = Memᴰ m l

-- ---- what a run file fixes, and the laws of its ring

-- a message that changes nothing: H not from the emitter, R of a marked node or of the receiver
abbrev pub Ignored : View → InFlight → Type 0
Ignored s m =
    ((m.kind ≡ H) × ((s.node m.to).emitter ≢ m.from))
    ⊎ ((m.kind ≡ R) × (Marks s m.to m.subject ⊎ (m.subject ≡ m.to)))

-- c k is the tick of node k's crash, where one is planned; gap j k is how many steps back from j the node k stands, a full round for j
-- itself; cnt is the count of unlisted nodes, ahead l x k the node k unlisted nodes ahead of x
pub record Params : Type 0 where
  pub N : ℕ
  pub H : ℕ
  pub W : ℕ
  pub D : ℕ
  pub planned : ℕ → Bool
  pub c : ℕ → ℕ
  pub planned-N : (k : ℕ) → planned k ≡ true → k < N
  pub gap : ℕ → ℕ → ℕ
  pub gap≥1 : (j k : ℕ) → j < N → k < N → 1 ≤ gap j k
  pub gap≤N : (j k : ℕ) → j < N → k < N → gap j k ≤ N
  pub gap-inj : (j k l : ℕ) → j < N → gap j k ≡ gap j l → k ≡ l
  pub gap-cyc : (j l i : ℕ) → j < N → l < N → j ≢ l → (gap l j < gap l i) ⊎ (gap j l < gap j i)
  pub gap-add : (j i k : ℕ) → j < N → i < N → k < N → gap j i < gap j k → gap j k ≡ gap j i + gap i k
  pub cnt : (ℕ → Bool) → ℕ
  pub ahead : (ℕ → Bool) → ℕ → ℕ → ℕ
  pub hops : (l : ℕ → Bool) (f : ℕ → ℕ) → First gap N l f → (y q : ℕ) → y < N → l y ≡ false → q < N → l q ≡ false
      → (d : ℕ) × (d < cnt l) × (iter f d y ≡ q)
  pub ahead-is : (l : ℕ → Bool) (f : ℕ → ℕ) → First gap N l f → (y k : ℕ) → y < N → l y ≡ false → k < cnt l
      → ahead l (iter f k y) k ≡ y
  pub log : ℕ → ℕ
  pub log_is : (m : ℕ) → m ≤ 2 ^ log m
  pub D≥1 : 1 ≤ D
  pub W≥ : H + D ≤ W

module _ (p : Params) where
  -- ---- what holds when an event is done

  -- messages in flight are due at msg or later, live nodes' timers at t or later, crashes to come at crash or later
  pub record Least (s : View) (t msg crash : ℕ) : Type 0 where
    pub message≥ : (m : InFlight) → m ∈ s.flight → msg ≤ m.due
    pub watch≥ : (j : ℕ) → Live s j → (s.node j).watch_on ≡ true → t ≤ (s.node j).watch
    pub heartbeat≥ : (j : ℕ) → Live s j → (s.node j).heartbeat_on ≡ true → t ≤ (s.node j).heartbeat
    pub crash≥ : (k : ℕ) → Live s k → p.planned k ≡ true → crash ≤ p.c k

  -- nothing is left before a crash, a message or a timer at t: crashes come first in their tick, then messages, then timers
  abbrev pub AtCrash : View → ℕ → Type 0
  AtCrash s t = Least s t t t

  abbrev pub AtMessage : View → ℕ → Type 0
  AtMessage s t = Least s t t (suc t)

  abbrev pub AtTimer : View → ℕ → Type 0
  AtTimer s t = Least s t (suc t) (suc t)

  -- ---- what an event changes

  -- node x becomes n', the messages `gone` leave, the messages `out` are added
  pub record Frame (s s' : View) (t x : ℕ) (n' : Seen) (gone out : List InFlight) : Type 0 where
    pub last' : s'.last ≡ t
    pub here : s'.node x ≡ n'
    pub other : (j : ℕ) → j ≢ x → s'.node j ≡ s.node j
    pub keep : (m : InFlight) → m ∈ s.flight → (m ∈ gone) ⊎ (m ∈ s'.flight)
    pub came : (m : InFlight) → m ∈ s'.flight → (m ∈ s.flight) ⊎ (m ∈ out)
    pub add : (m : InFlight) → m ∈ out → m ∈ s'.flight

  -- a message sent by x at t
  pub record Sent (x t : ℕ) (m : InFlight) : Type 0 where
    pub by : m.from ≡ x
    pub after : t < m.due
    pub within : m.due ≤ t + p.D
    pub self : m.to ≢ x
    pub in_n : m.to < p.N

  -- R of k, sent by x at t to all its forward targets
  pub record Reports (x t k : ℕ) (list' : ℕ → Bool) (l : List InFlight) : Type 0 where
    pub each : (m : InFlight) → m ∈ l → Sent x t m
    pub kinds : (m : InFlight) → m ∈ l → m.kind ≡ R
    pub subject : (m : InFlight) → m ∈ l → m.subject ≡ k
    pub complete : (b : ℕ) → 2 ^ b < p.cnt list' → (m : InFlight) × (m ∈ l) × (m.to ≡ p.ahead list' x (2 ^ b))

  -- e is the first unlisted node going back from i, seen from x
  pub record Back (x i e : ℕ) (list : ℕ → Bool) : Type 0 where
    pub in_n : e < p.N
    pub unlisted : list e ≡ false
    pub past : p.gap x i < p.gap x e
    pub passed : (k : ℕ) → p.gap x i < p.gap x k → p.gap x k < p.gap x e → list k ≡ true

  -- list' is list with k added
  pub record Adds (list list' : ℕ → Bool) (k : ℕ) : Type 0 where
    pub kept : (a : ℕ) → list a ≡ true → list' a ≡ true
    pub is : list' k ≡ true
    pub only : (a : ℕ) → list' a ≡ true → (list a ≡ true) ⊎ (a ≡ k)

  -- ---- the node after its event

  abbrev pub crashed : Seen → Seen
  crashed n =
      record {
        alive = false;
        emitter = n.emitter;
        observer = n.observer;
        watch_on = n.watch_on;
        watch = n.watch;
        heartbeat_on = n.heartbeat_on;
        heartbeat = n.heartbeat;
        list = n.list;
        mark = n.mark;
      }

  -- a heartbeat from the emitter came at t, and its list became l
  abbrev pub beaten : Seen → (ℕ → Bool) → ℕ → Seen
  beaten n l t =
      record {
        alive = true;
        emitter = n.emitter;
        observer = n.observer;
        watch_on = true;
        watch = t + p.W;
        heartbeat_on = n.heartbeat_on;
        heartbeat = n.heartbeat;
        list = l;
        mark = n.mark;
      }

  -- an O of a came at t
  abbrev pub watching : Seen → ℕ → ℕ → Seen
  watching n a t =
      record {
        alive = true;
        emitter = n.emitter;
        observer = a;
        watch_on = n.watch_on;
        watch = n.watch;
        heartbeat_on = true;
        heartbeat = t;
        list = n.list;
        mark = n.mark;
      }

  -- its list became l, its mark k
  abbrev pub listing : Seen → (ℕ → Bool) → (ℕ → Bool) → Seen
  listing n l k =
      record {
        alive = true;
        emitter = n.emitter;
        observer = n.observer;
        watch_on = n.watch_on;
        watch = n.watch;
        heartbeat_on = n.heartbeat_on;
        heartbeat = n.heartbeat;
        list = l;
        mark = k;
      }

  -- it left its emitter at t: the list became l, the mark k, the emitter e
  abbrev pub moving : Seen → (ℕ → Bool) → (ℕ → Bool) → ℕ → ℕ → Seen
  moving n l k e t =
      record {
        alive = true;
        emitter = e;
        observer = n.observer;
        watch_on = true;
        watch = t + 2 * p.W;
        heartbeat_on = n.heartbeat_on;
        heartbeat = n.heartbeat;
        list = l;
        mark = k;
      }

  -- alone
  abbrev pub left : ℕ → (ℕ → Bool) → (ℕ → Bool) → Seen
  left x l k = record { alive = true; emitter = x; observer = x; watch_on = false; watch = 0; heartbeat_on = false; heartbeat = 0; list = l; mark = k }

  -- its heartbeat was sent at t
  abbrev pub sending : Seen → ℕ → Seen
  sending n t =
      record {
        alive = true;
        emitter = n.emitter;
        observer = n.observer;
        watch_on = n.watch_on;
        watch = n.watch;
        heartbeat_on = true;
        heartbeat = t + p.H;
        list = n.list;
        mark = n.mark;
      }

  -- ---- the events

  -- node k crashes at t, as planned
  pub record Crash (s s' : View) (t k : ℕ) : Type 0 where
    pub live : Live s k
    pub plan : p.planned k ≡ true
    pub at : p.c k ≡ t
    pub least : AtCrash s t
    pub frame : Frame s s' t k (crashed (s.node k)) [] []

  -- a message to a crashed node
  pub record Drop (s s' : View) (m : InFlight) : Type 0 where
    pub has : m ∈ s.flight
    pub dead : Dead s m.to
    pub least : AtMessage s m.due
    pub frame : Frame s s' m.due m.to (s.node m.to) (m ∷ []) []

  pub record Idle (s s' : View) (m : InFlight) : Type 0 where
    pub has : m ∈ s.flight
    pub live : Live s m.to
    pub why : Ignored s m
    pub least : AtMessage s m.due
    pub frame : Frame s s' m.due m.to (s.node m.to) (m ∷ []) []

  -- list' is the list of node x with what m carries added, without x and the sender
  pub record Learns (x : ℕ) (m : InFlight) (list list' : ℕ → Bool) : Type 0 where
    pub kept : (a : ℕ) → list a ≡ true → list' a ≡ true
    pub takes : (a : ℕ) → Carries m a → a ≢ x → a ≢ m.from → list' a ≡ true
    pub only : (a : ℕ) → list' a ≡ true → (list a ≡ true) ⊎ (Carries m a × (a ≢ x) × (a ≢ m.from))

  -- a heartbeat from the emitter
  pub record Beat (s s' : View) (m : InFlight) (list' : ℕ → Bool) : Type 0 where
    pub has : m ∈ s.flight
    pub live : Live s m.to
    pub kind : m.kind ≡ H
    pub of : (s.node m.to).emitter ≡ m.from
    pub learns : Learns m.to m (s.node m.to).list list'
    pub least : AtMessage s m.due
    pub frame : Frame s s' m.due m.to (beaten (s.node m.to) list' m.due) (m ∷ []) []

  -- message O
  pub record Watched (s s' : View) (m : InFlight) : Type 0 where
    pub has : m ∈ s.flight
    pub live : Live s m.to
    pub kind : m.kind ≡ O
    pub least : AtMessage s m.due
    pub frame : Frame s s' m.due m.to (watching (s.node m.to) m.from m.due) (m ∷ []) []

  -- a report of a node that is not marked yet and is not the emitter
  pub record Report (s s' : View) (m : InFlight) (list' mark' : ℕ → Bool) (out : List InFlight) : Type 0 where
    pub has : m ∈ s.flight
    pub live : Live s m.to
    pub kind : m.kind ≡ R
    pub adds : Adds (s.node m.to).list list' m.subject
    pub marks : Adds (s.node m.to).mark mark' m.subject
    pub fresh : (s.node m.to).mark m.subject ≡ false
    pub rs : Reports m.to m.due m.subject list' out
    pub least : AtMessage s m.due
    pub frame : Frame s s' m.due m.to (listing (s.node m.to) list' mark') (m ∷ []) out

  -- why x leaves its emitter at t, and the message that is delivered by it: the watch is due, and no message is; or a report of the emitter
  pub data Cause (s : View) (t x : ℕ) : List InFlight → Type 0 where
    by_expiry : (s.node x).watch_on ≡ true → (s.node x).watch ≡ t → ((m : InFlight) → m ∈ s.flight → t < m.due) → Cause s t x []
    by_report : (m : InFlight) → m ∈ s.flight → m.to ≡ x → m.kind ≡ R → m.subject ≡ (s.node x).emitter → m.due ≡ t
        → Cause s t x (m ∷ [])

  -- x leaves its emitter at t, and e is the next
  pub record Leaves (s : View) (t x : ℕ) (gone : List InFlight) (list' : ℕ → Bool) (e : ℕ) : Type 0 where
    pub live : Live s x
    pub cause : Cause s t x gone
    pub apart : (s.node x).emitter ≢ x
    pub adds : Adds (s.node x).list list' (s.node x).emitter
    pub back : Back x (s.node x).emitter e list'
    pub least : AtMessage s t

  -- x moves to e: o is the O, out are the reports
  pub record Moves (s s' : View) (t x : ℕ) (gone : List InFlight) (list' mark' : ℕ → Bool) (e : ℕ) (o : InFlight) (out : List InFlight) : Type 0 where
    pub leaves : Leaves s t x gone list' e
    pub marks : Adds (s.node x).mark mark' (s.node x).emitter
    pub other : e ≢ x
    pub o-by : o.from ≡ x
    pub o-after : t < o.due
    pub o-within : o.due ≤ t + p.D
    pub o-kind : o.kind ≡ O
    pub o-to : o.to ≡ e
    pub rs : Reports x t (s.node x).emitter list' out
    pub frame : Frame s s' t x (moving (s.node x) list' mark' e t) gone (o ∷ out)

  -- x is alone, by its expired watch
  pub record Alone (s s' : View) (t x : ℕ) (list' mark' : ℕ → Bool) : Type 0 where
    pub leaves : Leaves s t x [] list' x
    pub marks : Adds (s.node x).mark mark' (s.node x).emitter
    pub frame : Frame s s' t x (left x list' mark') [] []

  -- the heartbeat of x is due at t: it sends m
  pub record Sends (s s' : View) (t x : ℕ) (m : InFlight) : Type 0 where
    pub live : Live s x
    pub on : (s.node x).heartbeat_on ≡ true
    pub due : (s.node x).heartbeat ≡ t
    pub by : m.from ≡ x
    pub after : t < m.due
    pub within : m.due ≤ t + p.D
    pub kind : m.kind ≡ H
    pub to : m.to ≡ (s.node x).observer
    pub carries : (a : ℕ) → listed m.list a ≡ (s.node x).list a
    pub least : AtTimer s t
    pub frame : Frame s s' t x (sending (s.node x) t) [] (m ∷ [])

  pub data Step (s s' : View) : Type 0 where
    crash : (t k : ℕ) → Crash s s' t k → Step s s'
    drop : (m : InFlight) → Drop s s' m → Step s s'
    idle : (m : InFlight) → Idle s s' m → Step s s'
    beat : (m : InFlight) (list' : ℕ → Bool) → Beat s s' m list' → Step s s'
    watched : (m : InFlight) → Watched s s' m → Step s s'
    report : (m : InFlight) (list' mark' : ℕ → Bool) (out : List InFlight) → Report s s' m list' mark' out → Step s s'
    moves : (t x : ℕ) (gone : List InFlight) (list' mark' : ℕ → Bool) (e : ℕ) (o : InFlight) (out : List InFlight)
        → Moves s s' t x gone list' mark' e o out → Step s s'
    alone : (t x : ℕ) (list' mark' : ℕ → Bool) → Alone s s' t x list' mark' → Step s s'
    sends : (t x : ℕ) (m : InFlight) → Sends s s' t x m → Step s s'
