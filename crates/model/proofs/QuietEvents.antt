-- An event that changes no emitter, observer or mark keeps the phase. Assumes nothing.
use mathlib.Core.Path.{◌≡◌, ap, sym, ◌∙◌, fun_ext}
use mathlib.Core.Logic.{◌⊎◌, inl, inr, ◌≢◌}
use mathlib.Core.Bool.{true, not}
use Prim.Native.Nat.{ℕ, ◌+◌, ◌≤◌, ◌<◌}
use native.Mathlib.Omega.{arith}
use Rattle.node.specs.Node.{H, O, R}
use Rattle.model.specs.Platform.{InFlight}
use Rattle.model.proofs.Events.{View, Live, Dead, Lists, Marks, ◌∈◌, Params}
use Rattle.model.proofs.Invariant.{Inv}
use Rattle.model.proofs.Phases.{Told, Copied, Up, Coming, Calm, Unnoticed, Spreading, Rests, by_observer, by_timer, by_heartbeat, rested, Quiet}

module _ (p : Params) (s s' : View) (t : ℕ) (i : Inv p s) (e : Quiet p s s' t) where
  up' : (j : ℕ) → Up p s' j → Up p s j
  up' j u = (u.0, sym (e.core j).alive ∙ u.1)

  up : (j : ℕ) → Up p s j → Up p s' j
  up j u = (u.0, (e.core j).alive ∙ u.1)

  dead' : (j : ℕ) → Dead s' j → Dead s j
  dead' j d = sym (e.core j).alive ∙ d

  lst : (j k : ℕ) → Lists s j k → Lists s' j k
  lst = e.list

  mrk : (j k : ℕ) → Marks s j k → Marks s' j k
  mrk j k h = rw (e.core j).mark h

  mrk' : (j k : ℕ) → Marks s' j k → Marks s j k
  mrk' j k h = rw (e.core j).mark at h

  em' : (j : ℕ) → (s'.node j).emitter ≢ j → (s.node j).emitter ≢ j
  em' j ne q = ne ((e.core j).emitter ∙ q)

  watch : (j : ℕ) → (s.node j).watch ≤ s.last + p.W → (s'.node j).watch ≤ s'.last + p.W
  watch j h = go (e.watch j)
    where
      go : ((s'.node j).watch ≡ (s.node j).watch)
          ⊎ (((s'.node j).watch ≡ t + p.W) × (p.planned (s.node j).emitter ≡ true → t < p.c (s.node j).emitter + p.D))
          → (s'.node j).watch ≤ s'.last + p.W
      go (inl q) = omega (arith, e.last', e.t≥)
      go (inr q) = omega (arith, e.last', q.0)

  kinds : ((m : InFlight) → m ∈ s.flight → (m.kind ≢ O) × (m.kind ≢ R)) → (m : InFlight) → m ∈ s'.flight
      → (m.kind ≢ O) × (m.kind ≢ R)
  kinds k m h = go (e.came m h)
    where
      go : (m ∈ s.flight) ⊎ ((m.kind ≡ H) × Copied s m) → (m.kind ≢ O) × (m.kind ≢ R)
      go (inl o) = k m o
      go (inr q) = omega (arith, q.0)

  pub calm-quiet : Calm p s → Calm p s'
  calm-quiet c = record {
    lists = λ j k u d. lst j k (c.lists j k (up' j u) (dead' k d));
    emitter = λ j u. rw (e.core j).emitter (up _ (c.emitter j (up' j u)));
    observer = λ j u. rw ((e.core j).observer, (e.core (s.node j).observer).emitter) (up _ (c.observer j (up' j u)).0, (c.observer j (up' j u)).1);
    kinds = kinds c.kinds;
    watch = λ j u ne. watch j (c.watch j (up' j u) (em' j ne));
  }

  module _ (z c q : ℕ) (a : Unnoticed p z c q s) where
    a-wq : (s'.node q).watch + 1 ≤ c + p.W + p.D
    a-wq = go (e.watch q)
      where
        go : ((s'.node q).watch ≡ (s.node q).watch)
            ⊎ (((s'.node q).watch ≡ t + p.W) × (p.planned (s.node q).emitter ≡ true → t < p.c (s.node q).emitter + p.D))
            → (s'.node q).watch + 1 ≤ c + p.W + p.D
        go (inl r) = omega (arith, a.wq)
        go (inr r) =
            let soon : t < p.c z + p.D = (rw a.of at r.1) (i.base.dead z a.dead).0 in
            omega (arith, r.0, a.at)

    a-ob : (j : ℕ) → Up p s j → (Up p s (s.node j).observer × ((s.node (s.node j).observer).emitter ≡ j)) ⊎ ((s.node z).emitter ≡ j)
        → (Up p s' (s.node j).observer × ((s'.node (s.node j).observer).emitter ≡ j)) ⊎ ((s'.node z).emitter ≡ j)
    a-ob j u (inl h) = inl (up _ h.0, (e.core (s.node j).observer).emitter ∙ h.1)
    a-ob j u (inr h) = inr ((e.core z).emitter ∙ h)

    a-unknown : (j : ℕ) → Lists s j z ⊎ Told s z → ⊥
    a-unknown j (inl h) = a.unknown j h
    a-unknown j (inr h) = a.untold h

    -- what is carried anew is the list of a node, which does not know it
    a-untold : (h : Told s' z) → (h.m ∈ s.flight) ⊎ ((h.m.kind ≡ H) × Copied s h.m) → ⊥
    a-untold h (inl o) = a.untold record { m = h.m; has = o; kind = h.kind; carries = h.carries }
    a-untold h (inr n) = a.unknown n.1.x (sym (n.1.is z) ∙ h.carries)

    pub unnoticed-quiet : Unnoticed p z c q s'
    unnoticed-quiet = record {
      up = up q a.up;
      dead = (e.core z).alive ∙ a.dead;
      z_n = a.z_n;
      at = a.at;
      of = (e.core q).emitter ∙ a.of;
      lists = λ j k u d ne. lst j k (a.lists j k (up' j u) (dead' k d) ne);
      unknown = λ j h. a-unknown j (e.list' j z h);
      untold = λ h. a-untold h (e.came h.m h.has);
      emitter = λ j u ne. rw (e.core j).emitter (up _ (a.emitter j (up' j u) ne));
      observer = λ j u. rw (e.core j).observer (a-ob j (up' j u) (a.observer j (up' j u)));
      prev = rw (e.core z).emitter (up _ a.prev);
      kinds = kinds a.kinds;
      wq = a-wq;
      watch = λ j u nq ne. watch j (a.watch j (up' j u) nq (em' j ne));
    }

  module _ (z c T q m : ℕ) (f : ℕ → ℕ) (b : Spreading p z c T q m f s) where
    fly_o : (y u : ℕ) → Live s y → Coming p s O y u → Coming p s' O y u
    fly_o y u l g = record { m = g.m; has = e.keep_o g.m g.has g.kind (rw g.to l); kind = g.kind; to = g.to; due = g.due }

    fly_r : (y u : ℕ) → Live s y → Coming p s R y u → Marks s' y z ⊎ Coming p s' R y u
    fly_r y u l g = go (e.keep_r g.m g.has g.kind (rw g.to l))
      where
        go : (g.m ∈ s'.flight) ⊎ Marks s g.m.to g.m.subject → Marks s' y z ⊎ Coming p s' R y u
        go (inl h) = inr record { m = g.m; has = h; kind = g.kind; to = g.to; due = g.due }
        go (inr h) = inl (mrk y z (rw (g.to, (b.reports g.m g.has g.kind).0) at h))

    b-ob : (j : ℕ) → Up p s j → (Up p s (s.node j).observer × (f (s.node j).observer ≡ j)) ⊎ ((f q ≡ j) × Coming p s O j (T + p.D))
        → (Up p s' (s.node j).observer × (f (s.node j).observer ≡ j)) ⊎ ((f q ≡ j) × Coming p s' O j (T + p.D))
    b-ob j u (inl h) = inl (up _ h.0, h.1)
    b-ob j u (inr h) = inr (h.0, fly_o j _ u.1 h.1)

    b-old : (g : InFlight) (k : ℕ) → g.kind ≡ k → k ≢ H → g ∈ s'.flight → g ∈ s.flight
    b-old g k q n h = go (e.came g h)
      where
        go : (g ∈ s.flight) ⊎ ((g.kind ≡ H) × Copied s g) → g ∈ s.flight
        go (inl o) = o
        go (inr r) = absurd (n (sym q ∙ r.0))

    b-relay : (x y u : ℕ) → Up p s y → Marks s y z ⊎ Coming p s R y u → Marks s' y z ⊎ Coming p s' R y u
    b-relay x y u l (inl h) = inl (mrk y z h)
    b-relay x y u l (inr g) = fly_r y u l.1 g

    b-wq : Rests p s T q (f q) → Rests p s' T q (f q)
    b-wq (by_observer g) = by_observer (fly_o (f q) _ (b.emitter q b.up).1 g)
    b-wq (by_timer o h) = go (e.heartbeat (f q))
      where
        go : ((s'.node (f q)).heartbeat ≡ (s.node (f q)).heartbeat)
            ⊎ ((g : InFlight) × (g ∈ s'.flight) × (g.kind ≡ H) × (g.from ≡ f q) × (g.to ≡ (s.node (f q)).observer)
            × (g.due ≤ (s.node (f q)).heartbeat + p.D))
            → Rests p s' T q (f q)
        go (inl r) = by_timer ((e.core (f q)).observer ∙ o) (omega arith)
        go (inr r) = by_heartbeat r.0 r.1 r.2 r.3 (r.4 ∙ o) (omega (arith, r.5))
    b-wq (by_heartbeat g h k fr to d) = go (e.keep_h g h k (rw to b.up.1) (rw to (b.em-is q ∙ sym fr)))
      where
        go : (g ∈ s'.flight) ⊎ ((s'.node g.to).watch ≡ t + p.W) → Rests p s' T q (f q)
        go (inl o) = by_heartbeat g o k fr to d
        go (inr r) = rested (let r' : (s'.node q).watch ≡ t + p.W = rw to at r in omega (arith, e.last'))
    b-wq (rested h) = rested (watch q h)

    pub spreading-quiet : Spreading p z c T q m f s'
    spreading-quiet = record {
      up = up q b.up;
      dead = (e.core z).alive ∙ b.dead;
      knows = mrk q z b.knows;
      early = b.early;
      count = ap p.cnt (fun_ext (λ k. ap not (e.core k).alive)) ∙ b.count;
      em-is = λ j. (e.core j).emitter ∙ b.em-is j;
      two = b.two;
      lists = λ j k u d ne. lst j k (b.lists j k (up' j u) (dead' k d) ne);
      emitter = λ j u. up _ (b.emitter j (up' j u));
      observer = λ j u. rw (e.core j).observer (b-ob j (up' j u) (b.observer j (up' j u)));
      observers = λ g h k. b.observers g (b-old g O k (omega arith) h) k;
      reports = λ g h k. b.reports g (b-old g R k (omega arith) h) k;
      relay = λ x y d j n ux lx hd dj uy hy bm. b-relay x y _ (up' y uy) (b.relay x y d j n (up' x ux) (mrk' x z lx) hd dj (up' y uy) hy bm);
      watch = λ j u nq ne. watch j (b.watch j (up' j u) nq (em' j ne));
      wq = b-wq b.wq;
    }
