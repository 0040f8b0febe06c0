-- What every event does alike keeps the part of the invariant called `Base`. Assumes nothing.
use mathlib.Core.Path.{◌≡◌, refl, sym, ◌∙◌}
use mathlib.Core.Logic.{◌⊎◌, inl, inr, ◌≢◌}
use mathlib.Core.Bool.{Bool, true, false, true≢false}
use Prim.Native.Nat.{ℕ, ◌+◌, ◌≤◌, ◌<◌}
use native.Mathlib.Omega.{arith}
use Rattle.node.specs.Node.{H, O, R}
use Rattle.model.specs.Platform.{InFlight}
use Rattle.model.proofs.Events.{View, Live, Dead, Lists, Marks, Carries, ◌∈◌, Params}
use Rattle.model.proofs.Invariant.{Tied, Gone, Base}

pub not-true : (b : Bool) → (b ≡ true → ⊥) → b ≡ false
not-true true h = absurd (h refl)
not-true false h = refl

pub live-not-dead : {b : Bool} → b ≡ true → b ≡ false → ⊥
live-not-dead a d = true≢false (sym a ∙ d)

module _ (p : Params) where
  pub record Moved (s s' : View) (j : ℕ) : Type 0 where
    pub in_n : (j < p.N) × ((s'.node j).emitter < p.N)
    pub left : Lists s' j (s.node j).emitter
    pub between : (k : ℕ) → p.gap j k < p.gap j (s'.node j).emitter → Lists s' j k

  -- crashed so long before t that nothing of it is in flight
  pub record GoneBy (s : View) (t k : ℕ) : Type 0 where
    pub dead : Dead s k
    pub long : p.c k + p.D ≤ t

  pub record NewMessage (s s' : View) (t : ℕ) (m : InFlight) : Type 0 where
    pub due : t ≤ m.due
    pub from : p.planned m.from ≡ true → m.due < p.c m.from + p.D
    pub heartbeat : m.kind ≡ H → Tied p s m.to m.from
    pub self : m.from ≢ m.to
    pub observer : m.kind ≡ O → Tied p s' m.from m.to
    pub report : m.kind ≡ R → GoneBy s t m.subject
    pub N : m.kind ≡ R → (m.from < p.N) × (m.to < p.N)
    pub carried : m.kind ≡ H → (k : ℕ) → Carries m k → GoneBy s t k

  -- what every event does alike
  pub record Alike (s s' : View) (t : ℕ) : Type 0 where
    pub last' : s'.last ≡ t
    pub t≥ : s.last ≤ t
    pub alive : (k : ℕ) → Live s' k → Live s k
    pub died : (k : ℕ) → Dead s' k → Dead s k ⊎ ((p.planned k ≡ true) × (p.c k ≤ t))
    pub list : (j k : ℕ) → Lists s j k → Lists s' j k
    pub list' : (j k : ℕ) → Lists s' j k → Lists s j k ⊎ GoneBy s t k
    pub mark : (j k : ℕ) → Marks s' j k → Marks s j k ⊎ Lists s' j k
    pub emitter : (j : ℕ) → ((s'.node j).emitter ≡ (s.node j).emitter) ⊎ Moved s s' j
    pub observer : (a : ℕ)
        → ((s'.node a).observer ≡ (s.node a).observer) ⊎ (Tied p s (s'.node a).observer a ⊎ Tied p s' (s'.node a).observer a)
    pub came : (m : InFlight) → m ∈ s'.flight → (m ∈ s.flight) ⊎ NewMessage s s' t m
    pub message≥ : (m : InFlight) → m ∈ s.flight → t ≤ m.due
    pub crash≥ : (k : ℕ) → Live s k → p.planned k ≡ true → t ≤ p.c k

  module _ (s s' : View) (t : ℕ) (f : Alike s s' t) where
    dead-mono : (k : ℕ) → Dead s k → Dead s' k
    dead-mono k d = not-true (s'.node k).alive (λ a. live-not-dead (f.alive k a) d)

    pub gone-mono : (k : ℕ) → Gone p s k → Gone p s' k
    gone-mono k g = record { dead = dead-mono k g.dead; long = rw f.last' (omega (arith, g.long, f.t≥)) }

    pub reached-mono : (b a : ℕ) → Tied p s b a → Tied p s' b a
    reached-mono b a (inr l) = inr (f.list b a l)
    reached-mono b a (inl e) = go (f.emitter b)
      where
        go : ((s'.node b).emitter ≡ (s.node b).emitter) ⊎ Moved s s' b → Tied p s' b a
        go (inl same) = inl (same ∙ e)
        go (inr mv) = inr (rw e at mv.left)

    module _ (i : Base p s) where
      in_n : (j : ℕ) → (s'.node j).emitter ≢ j → (j < p.N) × ((s'.node j).emitter < p.N)
      in_n j ne = go (f.emitter j)
        where
          go : ((s'.node j).emitter ≡ (s.node j).emitter) ⊎ Moved s s' j → (j < p.N) × ((s'.node j).emitter < p.N)
          go (inl same) = rw same (i.in_n j (λ e. ne (same ∙ e)))
          go (inr mv) = mv.in_n

      dead : (k : ℕ) → Dead s' k → (p.planned k ≡ true) × (p.c k ≤ s'.last)
      dead k d = go (f.died k d)
        where
          go : Dead s k ⊎ ((p.planned k ≡ true) × (p.c k ≤ t)) → (p.planned k ≡ true) × (p.c k ≤ s'.last)
          go (inl o) = ((i.dead k o).0, rw f.last' (omega (arith, (i.dead k o).1, f.t≥)))
          go (inr n) = rw f.last' n

      between : (j k : ℕ) → p.gap j k < p.gap j (s'.node j).emitter → Lists s' j k
      between j k h = go (f.emitter j)
        where
          go : ((s'.node j).emitter ≡ (s.node j).emitter) ⊎ Moved s s' j → Lists s' j k
          go (inl same) = f.list j k (i.between j k (rw same at h))
          go (inr mv) = mv.between k h

      late : (k : ℕ) → GoneBy s t k → Gone p s' k
      late k g = record { dead = dead-mono k g.dead; long = rw f.last' g.long }

      listed : (j k : ℕ) → Lists s' j k → Gone p s' k
      listed j k l = go (f.list' j k l)
        where
          go : Lists s j k ⊎ GoneBy s t k → Gone p s' k
          go (inl o) = gone-mono k (i.listed j k o)
          go (inr g) = late k g

      marked : (j k : ℕ) → Marks s' j k → Lists s' j k
      marked j k h = go (f.mark j k h)
        where
          go : Marks s j k ⊎ Lists s' j k → Lists s' j k
          go (inl o) = f.list j k (i.marked j k o)
          go (inr l) = l

      observer : (a : ℕ) → Tied p s' (s'.node a).observer a
      observer a = go (f.observer a)
        where
          go : ((s'.node a).observer ≡ (s.node a).observer) ⊎ (Tied p s (s'.node a).observer a ⊎ Tied p s' (s'.node a).observer a)
              → Tied p s' (s'.node a).observer a
          go (inl same) = rw same (reached-mono (s.node a).observer a (i.observer a))
          go (inr (inl g)) = reached-mono (s'.node a).observer a g
          go (inr (inr g)) = g

      record All (m : InFlight) : Type 0 where
        due : t ≤ m.due
        from : p.planned m.from ≡ true → m.due < p.c m.from + p.D
        heartbeat : m.kind ≡ H → Tied p s' m.to m.from
        self : m.from ≢ m.to
        observer : m.kind ≡ O → Tied p s' m.from m.to
        report : m.kind ≡ R → Gone p s' m.subject
        N : m.kind ≡ R → (m.from < p.N) × (m.to < p.N)
        carried : m.kind ≡ H → (k : ℕ) → Carries m k → Gone p s' k

      -- a message of before, or a new one
      msg : (m : InFlight) → (m ∈ s.flight) ⊎ NewMessage s s' t m → All m
      msg m (inr n) = record {
        due = n.due;
        from = n.from;
        heartbeat = λ k. reached-mono m.to m.from (n.heartbeat k);
        self = n.self;
        observer = n.observer;
        report = λ k. late m.subject (n.report k);
        N = n.N;
        carried = λ q k c. late k (n.carried q k c);
      }
      msg m (inl o) = record {
        due = f.message≥ m o;
        from = i.m-from m o;
        heartbeat = λ k. reached-mono m.to m.from (i.m-H m o k);
        self = i.m-self m o;
        observer = λ k. reached-mono m.from m.to (i.m-O m o k);
        report = λ k. gone-mono m.subject (i.reported m o k);
        N = i.m-N m o;
        carried = λ q k c. gone-mono k (i.carried m o q k c);
      }

      all : (m : InFlight) → m ∈ s'.flight → All m
      all m h = msg m (f.came m h)

      pub base' : Base p s'
      base' = record {
        in_n = in_n;
        dead = dead;
        between = between;
        listed = listed;
        reported = λ m h k. (all m h).report k;
        carried = λ m h. (all m h).carried;
        marked = marked;
        m-due = λ m h. rw f.last' (all m h).due;
        m-from = λ m h. (all m h).from;
        m-H = λ m h. (all m h).heartbeat;
        m-O = λ m h. (all m h).observer;
        m-self = λ m h. (all m h).self;
        m-N = λ m h. (all m h).N;
        observer = observer;
        undone = λ k a pl. rw f.last' (f.crash≥ k (f.alive k a) pl);
      }
