-- The phases of a run whose crashes are spaced: calm, a crash unnoticed, its report spreading; and the events that change no emitter,
-- observer or mark. Assumes nothing.
use mathlib.Core.Path.{◌≡◌, refl, ap, sym}
use mathlib.Core.Logic.{◌⊎◌, inl, inr, ◌≢◌}
use mathlib.Core.List.Memᴰ
use mathlib.Core.List.{[], ◌∷◌}
use mathlib.Core.Bool.{Bool, true, not}
use Prim.Native.Nat.{ℕ, ◌+◌, ◌*◌, ◌^◌, ◌≤◌, ◌<◌}
use native.Mathlib.Omega.{arith}
use Rattle.ring.specs.Ring.{listed}
use Rattle.node.specs.Node.{H, O, R}
use Rattle.model.specs.Platform.{InFlight}
use Rattle.model.proofs.Events.{Seen, View, Live, Dead, Lists, Marks, Carries, ◌∈◌, Ignored, Params, Frame, Drop, Idle, Beat, Sends, beaten, sending}
use Rattle.ring.proofs.GoingBack.{iter}
use Rattle.model.proofs.Invariant.{Inv}
use Rattle.model.proofs.EveryEvent.{live-not-dead}
use Rattle.model.proofs.OneNode.{OnEach, each}
use Rattle.model.proofs.WatchKept.{stays, stays0, came0, other-kind}

-- the crashed nodes as a list
abbrev pub crashed_in : View → ℕ → Bool
crashed_in s k = not (s.node k).alive

-- what a quiet event leaves of a node
pub record Core (n n' : Seen) : Type 0 where
  pub alive : n'.alive ≡ n.alive
  pub emitter : n'.emitter ≡ n.emitter
  pub observer : n'.observer ≡ n.observer
  pub mark : n'.mark ≡ n.mark

core_is : {n n' : Seen} → n' ≡ n → Core n n'
core_is e = record { alive = ap (λ n. n.alive) e; emitter = ap (λ n. n.emitter) e; observer = ap (λ n. n.observer) e; mark = ap (λ n. n.mark) e }

-- an H in flight carries k
pub record Told (s : View) (k : ℕ) : Type 0 where
  pub m : InFlight
  pub has : m ∈ s.flight
  pub kind : m.kind ≡ H
  pub carries : Carries m k

-- m carries the list of a node of s
pub record Copied (s : View) (m : InFlight) : Type 0 where
  pub x : ℕ
  pub is : (k : ℕ) → listed m.list k ≡ (s.node x).list k

module _ (p : Params) where
  -- S, for m survivors
  abbrev pub span : ℕ → ℕ
  span m = p.W + (p.log m + 2) * p.D

  -- j survives
  abbrev pub Up : View → ℕ → Type 0
  Up s j = (j < p.N) × Live s j

  -- a message of kind k to y, due by u
  pub record Coming (s : View) (k y u : ℕ) : Type 0 where
    pub m : InFlight
    pub has : m ∈ s.flight
    pub kind : m.kind ≡ k
    pub to : m.to ≡ y
    pub due : m.due ≤ u

  -- survivors list all crashed nodes and observe and send to one another; no O or R is in flight, no watch is set beyond W
  pub record Calm (s : View) : Type 0 where
    pub lists : (j k : ℕ) → Up s j → Dead s k → Lists s j k
    pub emitter : (j : ℕ) → Up s j → Up s (s.node j).emitter
    pub observer : (j : ℕ) → Up s j → Up s (s.node j).observer × ((s.node (s.node j).observer).emitter ≡ j)
    pub kinds : (m : InFlight) → m ∈ s.flight → (m.kind ≢ O) × (m.kind ≢ R)
    pub watch : (j : ℕ) → Up s j → (s.node j).emitter ≢ j → (s.node j).watch ≤ s.last + p.W

  -- z crashed at c; q observes it and does not know yet
  pub record Unnoticed (z c q : ℕ) (s : View) : Type 0 where
    pub up : Up s q
    pub dead : Dead s z
    pub z_n : z < p.N
    pub at : p.c z ≡ c
    pub of : (s.node q).emitter ≡ z
    pub lists : (j k : ℕ) → Up s j → Dead s k → k ≢ z → Lists s j k
    pub unknown : (j : ℕ) → Lists s j z → ⊥
    pub untold : Told s z → ⊥
    pub emitter : (j : ℕ) → Up s j → j ≢ q → Up s (s.node j).emitter
    pub observer : (j : ℕ) → Up s j
        → (Up s (s.node j).observer × ((s.node (s.node j).observer).emitter ≡ j)) ⊎ ((s.node z).emitter ≡ j)
    pub prev : Up s (s.node z).emitter
    pub kinds : (m : InFlight) → m ∈ s.flight → (m.kind ≢ O) × (m.kind ≢ R)
    pub wq : (s.node q).watch + 1 ≤ c + p.W + p.D
    pub watch : (j : ℕ) → Up s j → j ≢ q → (s.node j).emitter ≢ j → (s.node j).watch ≤ s.last + p.W

  -- how q's watch, set to two time-outs at T, comes back under one
  pub data Rests (s : View) (T q r : ℕ) : Type 0 where
    by_observer : Coming s O r (T + p.D) → Rests s T q r
    by_timer : (s.node r).observer ≡ q → (s.node r).heartbeat ≤ T + p.D → Rests s T q r
    by_heartbeat : (m : InFlight) → m ∈ s.flight → m.kind ≡ H → m.from ≡ r → m.to ≡ q → m.due ≤ T + p.D + p.D → Rests s T q r
    rested : (s.node q).watch ≤ s.last + p.W → Rests s T q r

  -- z is known to q since T; f is the live node before, m the count of live nodes
  pub record Spreading (z c T q m : ℕ) (f : ℕ → ℕ) (s : View) : Type 0 where
    pub up : Up s q
    pub dead : Dead s z
    pub knows : Marks s q z
    pub early : T + 1 ≤ c + p.W + p.D
    pub count : p.cnt (crashed_in s) ≡ m
    pub em-is : (j : ℕ) → (s.node j).emitter ≡ f j
    pub two : f q ≢ q
    pub lists : (j k : ℕ) → Up s j → Dead s k → k ≢ z → Lists s j k
    pub emitter : (j : ℕ) → Up s j → Up s (f j)
    pub observer : (j : ℕ) → Up s j → (Up s (s.node j).observer × (f (s.node j).observer ≡ j)) ⊎ ((f q ≡ j) × Coming s O j (T + p.D))
    pub observers : (g : InFlight) → g ∈ s.flight → g.kind ≡ O → (g.from ≡ q) × (g.to ≡ f q) × (g.due ≤ T + p.D)
    pub reports : (g : InFlight) → g ∈ s.flight → g.kind ≡ R → (g.subject ≡ z) × (g.due ≤ T + (p.log m + 1) * p.D)
    pub relay : (x y d j b : ℕ) → Up s x → Marks s x z → iter f d x ≡ q → d < 2 ^ j → Up s y → iter f (2 ^ b) y ≡ x → 2 ^ b < m
        → Marks s y z ⊎ Coming s R y (T + (j + 1) * p.D)
    pub watch : (j : ℕ) → Up s j → j ≢ q → (s.node j).emitter ≢ j → (s.node j).watch ≤ s.last + p.W
    pub wq : Rests s T q (f q)

  -- an event that changes no emitter, observer or mark: what it does to lists, watches, heartbeats and messages
  pub record Quiet (s s' : View) (t : ℕ) : Type 0 where
    pub last' : s'.last ≡ t
    pub t≥ : s.last ≤ t
    pub core : (j : ℕ) → Core (s.node j) (s'.node j)
    pub list : (j k : ℕ) → Lists s j k → Lists s' j k
    pub list' : (j k : ℕ) → Lists s' j k → Lists s j k ⊎ Told s k
    pub came : (m : InFlight) → m ∈ s'.flight → (m ∈ s.flight) ⊎ ((m.kind ≡ H) × Copied s m)
    pub watch : (j : ℕ)
        → ((s'.node j).watch ≡ (s.node j).watch)
        ⊎ (((s'.node j).watch ≡ t + p.W) × (p.planned (s.node j).emitter ≡ true → t < p.c (s.node j).emitter + p.D))
    pub heartbeat : (j : ℕ)
        → ((s'.node j).heartbeat ≡ (s.node j).heartbeat)
        ⊎ ((m : InFlight) × (m ∈ s'.flight) × (m.kind ≡ H) × (m.from ≡ j) × (m.to ≡ (s.node j).observer)
        × (m.due ≤ (s.node j).heartbeat + p.D))
    pub keep_h : (m : InFlight) → m ∈ s.flight → m.kind ≡ H → Live s m.to → (s.node m.to).emitter ≡ m.from
        → (m ∈ s'.flight) ⊎ ((s'.node m.to).watch ≡ t + p.W)
    pub keep_o : (m : InFlight) → m ∈ s.flight → m.kind ≡ O → Live s m.to → m ∈ s'.flight
    pub keep_r : (m : InFlight) → m ∈ s.flight → m.kind ≡ R → Live s m.to → (m ∈ s'.flight) ⊎ Marks s m.to m.subject

  module _ (s s' : View) (i : Inv p s) where
    -- a message that changes no node
    module _ (m : InFlight) (has : m ∈ s.flight) (f : Frame p s s' m.due m.to (s.node m.to) (m ∷ []) []) where
      still : (j : ℕ) → s'.node j ≡ s.node j
      still = each p s s' m.due m.to _ (m ∷ []) [] f (λ j n n'. n' ≡ n) refl (λ j. refl)

      still-quiet : (m.kind ≡ H → Live s m.to → (s.node m.to).emitter ≡ m.from → ⊥) → (m.kind ≡ O → Live s m.to → ⊥)
          → (m.kind ≡ R → Live s m.to → Marks s m.to m.subject) → Quiet s s' m.due
      still-quiet no_h no_o no_r = record {
        last' = f.last';
        t≥ = i.base.m-due m has;
        core = λ j. core_is (still j);
        list = λ j k h. rw (still j) h;
        list' = λ j k h. inl (rw (still j) at h);
        came = λ g h. inl (came0 s.flight g (f.came g h));
        watch = λ j. inl (ap (λ n. n.watch) (still j));
        heartbeat = λ j. inl (ap (λ n. n.heartbeat) (still j));
        keep_h = λ g h k l q. inl (stays s'.flight m g (f.keep g h) (λ r. no_h (rw r at k) (rw r at l) (rw r at q)));
        keep_o = λ g h k l. stays s'.flight m g (f.keep g h) (λ r. no_o (rw r at k) (rw r at l));
        keep_r = λ g h k l. k_r g k l (f.keep g h);
      }
        where
          k_r : (g : InFlight) → g.kind ≡ R → Live s g.to → (g ∈ (m ∷ [])) ⊎ (g ∈ s'.flight)
              → (g ∈ s'.flight) ⊎ Marks s g.to g.subject
          k_r g k l (inr h) = inl h
          k_r g k l (inl h) = inr (let r : g ≡ m = Memᴰ.eq_of_singleton h in rw r (no_r (rw r at k) (rw r at l)))

    pub drop-quiet : (m : InFlight) → Drop p s s' m → Quiet s s' m.due
    drop-quiet m e =
        still-quiet m e.has e.frame (λ k l q. live-not-dead l e.dead) (λ k l. live-not-dead l e.dead) (λ k l. absurd (live-not-dead l e.dead))

    pub idle-quiet : (m : InFlight) → Idle p s s' m → Quiet s s' m.due
    idle-quiet m e = still-quiet m e.has e.frame (no-H e.why) (no-O e.why) (no-R e.why)
      where
        no-H : Ignored s m → m.kind ≡ H → Live s m.to → (s.node m.to).emitter ≡ m.from → ⊥
        no-H (inl w) k l q = w.1 q
        no-H (inr w) k l q = omega (arith, w.0)

        no-O : Ignored s m → m.kind ≡ O → Live s m.to → ⊥
        no-O (inl w) k l = omega (arith, w.0)
        no-O (inr w) k l = omega (arith, w.0)

        self : m.kind ≡ R → Live s m.to → Marks s m.to m.subject ⊎ (m.subject ≡ m.to) → Marks s m.to m.subject
        self k l (inl h) = h
        self k l (inr q) = absurd (live-not-dead l (rw q at (i.base.reported m e.has k).dead))

        no-R : Ignored s m → m.kind ≡ R → Live s m.to → Marks s m.to m.subject
        no-R (inl w) k l = absurd (omega (arith, w.0))
        no-R (inr w) k l = self k l w.1

    pub beat-quiet : (m : InFlight) (list' : ℕ → Bool) → Beat p s s' m list' → Quiet s s' m.due
    beat-quiet m list' e = record {
      last' = e.frame.last';
      t≥ = i.base.m-due m e.has;
      core = all (λ j n n'. Core n n') record { alive = sym e.live; emitter = refl; observer = refl; mark = refl } (λ j. core_is refl);
      list = all (λ j n n'. (k : ℕ) → n.list k ≡ true → n'.list k ≡ true) e.learns.kept (λ j k h. h);
      list' = all (λ j n n'. (k : ℕ) → n'.list k ≡ true → (n.list k ≡ true) ⊎ Told s k) (λ k h. told k (e.learns.only k h)) (λ j k h. inl h);
      came = λ g h. inl (came0 s.flight g (e.frame.came g h));
      watch =
          all
          (λ j n n'. (n'.watch ≡ n.watch) ⊎ ((n'.watch ≡ m.due + p.W) × (p.planned n.emitter ≡ true → m.due < p.c n.emitter + p.D)))
          (inr (refl, rw e.of (i.base.m-from m e.has))) (λ j. inl refl);
      heartbeat = λ j. inl (all (λ j n n'. n'.heartbeat ≡ n.heartbeat) refl (λ j. refl) j);
      keep_h = λ g h k l q. k_h g (e.frame.keep g h);
      keep_o = λ g h k l. stays s'.flight m g (e.frame.keep g h) (other-kind g m O H k e.kind (omega arith));
      keep_r = λ g h k l. inl (stays s'.flight m g (e.frame.keep g h) (other-kind g m R H k e.kind (omega arith)));
    }
      where
        all : OnEach s s' m.to (beaten p (s.node m.to) list' m.due)
        all = each p s s' m.due m.to _ (m ∷ []) [] e.frame

        told : (k : ℕ) → Lists s m.to k ⊎ (Carries m k × (k ≢ m.to) × (k ≢ m.from)) → Lists s m.to k ⊎ Told s k
        told k (inl h) = inl h
        told k (inr h) = inr record { m = m; has = e.has; kind = e.kind; carries = h.0 }

        k_h : (g : InFlight) → (g ∈ (m ∷ [])) ⊎ (g ∈ s'.flight) → (g ∈ s'.flight) ⊎ ((s'.node g.to).watch ≡ m.due + p.W)
        k_h g (inr h) = inl h
        k_h g (inl h) = inr (let r : g ≡ m = Memᴰ.eq_of_singleton h in rw (r, e.frame.here))

    pub sends-quiet : (t x : ℕ) (m : InFlight) → Sends p s s' t x m → Quiet s s' t
    sends-quiet t x m e = record {
      last' = e.frame.last';
      t≥ = omega (arith, (i.timers x e.live).heartbeat≥ e.on, e.due);
      core = all (λ j n n'. Core n n') record { alive = sym e.live; emitter = refl; observer = refl; mark = refl } (λ j. core_is refl);
      list = all (λ j n n'. (k : ℕ) → n.list k ≡ true → n'.list k ≡ true) (λ k h. h) (λ j k h. h);
      list' = all (λ j n n'. (k : ℕ) → n'.list k ≡ true → (n.list k ≡ true) ⊎ Told s k) (λ k h. inl h) (λ j k h. inl h);
      came = λ g h. cm g (e.frame.came g h);
      watch = λ j. inl (all (λ j n n'. n'.watch ≡ n.watch) refl (λ j. refl) j);
      heartbeat =
          all (λ j n n'. (n'.heartbeat ≡ n.heartbeat)
          ⊎ ((g : InFlight) × (g ∈ s'.flight) × (g.kind ≡ H) × (g.from ≡ j) × (g.to ≡ n.observer) × (g.due ≤ n.heartbeat + p.D)))
          (inr (m, e.frame.add m (Memᴰ.head refl), e.kind, e.by, e.to, omega (arith, e.within, e.due))) (λ j. inl refl);
      keep_h = λ g h k l q. inl (stays0 s'.flight g (e.frame.keep g h));
      keep_o = λ g h k l. stays0 s'.flight g (e.frame.keep g h);
      keep_r = λ g h k l. inl (stays0 s'.flight g (e.frame.keep g h));
    }
      where
        all : OnEach s s' x (sending p (s.node x) t)
        all = each p s s' t x _ [] (m ∷ []) e.frame

        cm : (g : InFlight) → (g ∈ s.flight) ⊎ (g ∈ (m ∷ [])) → (g ∈ s.flight) ⊎ ((g.kind ≡ H) × Copied s g)
        cm g (inl h) = inl h
        cm g (inr h) = inr (rw (Memᴰ.eq_of_singleton h) (e.kind, record { x = x; is = e.carries }))
