-- While the report spreads: after j rounds of D ticks all within 2 ^ j survivors ahead know; O and R keep the phase; S ticks after the
-- crash all is calm. Assumes nothing.
use mathlib.Core.Path.{◌≡◌, refl, ap, sym, ◌∙◌, fun_ext}
use mathlib.Core.Logic.{◌⊎◌, inl, inr, ◌≢◌}
use mathlib.Core.List.Memᴰ
use mathlib.Core.List.{List, [], ◌∷◌}
use mathlib.Core.Bool.{Bool, true, not}
use Prim.Native.Nat.{ℕ, zero, suc, ◌+◌, ◌*◌, ◌^◌, ◌≤◌, ◌<◌, ◌-◌}
use native.Mathlib.Omega.{arith}
use native.Mathlib.Nat.{mul-le-mul_right}
use native.Mathlib.Decide.{ℕ_discrete, dec_lt}
use Rattle.node.specs.Node.{H, O, R}
use Rattle.model.specs.Platform.{InFlight}
use Rattle.ring.proofs.GoingBack.{iter, First, iter-add}
use Rattle.model.proofs.Events.{View, Live, Dead, Lists, Marks, ◌∈◌, Params, Watched, Report, watching, listing}
use Rattle.model.proofs.Invariant.{Inv}
use Rattle.model.proofs.EveryEvent.{live-not-dead}
use Rattle.model.proofs.OneState.{emitter-beats}
use Rattle.model.proofs.OneNode.{OnEach}
use Rattle.model.proofs.WatchKept.{came0, stays, other-kind}
use Rattle.model.proofs.ObserverDelivered.{observer-all}
use Rattle.model.proofs.ReportDelivered.{report-all, report-alike}
use Rattle.model.proofs.Phases.{span, crashed_in, Up, Coming, Calm, Spreading, Rests, by_observer, by_timer, by_heartbeat, rested}
use Rattle.model.proofs.WatchExpires.{exact, first}

pub iter-up : (p : Params) (s : View) (f : ℕ → ℕ) → ((j : ℕ) → Up p s j → Up p s (f j)) → (d y : ℕ) → Up p s y → Up p s (iter f d y)
iter-up p s f up zero y u = u
iter-up p s f up (suc d) y u = iter-up p s f up d (f y) (up y u)

module _ (p : Params) (s : View) (i : Inv p s) (z c T q m : ℕ) (f : ℕ → ℕ) (b : Spreading p z c T q m f s) where
  first-f : First p.gap p.N (crashed_in s) f
  first-f = rw (sym (fun_ext b.em-is)) (first p s i.base (λ j u. rw (b.em-is j) (b.emitter j u)))

  pub hop : (y : ℕ) → Up p s y → (d : ℕ) × (d < m) × (iter f d y ≡ q)
  hop y u = rw b.count at (p.hops (crashed_in s) f first-f y q u.0 (ap not u.1) b.up.0 (ap not b.up.1))

  module _ (u : ℕ) (pend : (g : InFlight) → g ∈ s.flight → u ≤ g.due) where
    abbrev pub Known : ℕ → Type 0
    Known j = (y d : ℕ) → Up p s y → iter f d y ≡ q → d < 2 ^ j → d < m → Marks s y z

    round : (j : ℕ) → T + suc j * p.D < u → Known j → Known (suc j)
    round j tu ih y d uy hd dj dm = go (dec_lt d (2 ^ j))
      where
        x : ℕ
        x = iter f (2 ^ j) y

        ux : Up p s x
        ux = iter-up p s f b.emitter (2 ^ j) y uy

        last : Marks s y z ⊎ Coming p s R y (T + (j + 1) * p.D) → Marks s y z
        last (inl h) = h
        last (inr g) = absurd (omega (arith, pend g.m g.has, g.due))

        go : Dec (d < 2 ^ j) → Marks s y z
        go (yes h) = ih y d uy hd h dm
        go (no n) =
            let split : 2 ^ j + (d - 2 ^ j) ≡ d = omega arith in
            let hx : iter f (d - 2 ^ j) x ≡ q = sym (iter-add f (2 ^ j) (d - 2 ^ j) y) ∙ rw split hd in
            last (b.relay x y (d - 2 ^ j) j j ux (ih x (d - 2 ^ j) ux hx (omega arith) (omega arith)) hx (omega arith) uy refl (omega arith))

    -- after the time of j rounds the nodes within 2 ^ j of q know
    pub rounds : (j : ℕ) → T + j * p.D < u → Known j
    rounds zero tu = base
      where
        base : Known 0
        base y zero uy hd dj dm = rw hd b.knows
        base y (suc d) uy hd dj dm = absurd (omega arith)
    rounds (suc j) tu = round j tu (rounds j (omega arith))

  -- nothing is left before u, and u is late enough
  pub settled : (u : ℕ) → c + span p m ≤ u → ((g : InFlight) → g ∈ s.flight → u ≤ g.due)
      → ((j : ℕ) → Live s j → (s.node j).heartbeat_on ≡ true → u ≤ (s.node j).heartbeat) → Calm p s
  settled u cu pend pendh = record {
    lists = λ j k uj d. ls j k uj d (ℕ_discrete k z);
    emitter = λ j uj. rw (b.em-is j) (b.emitter j uj);
    observer = λ j uj. obs j (b.observer j uj);
    kinds = λ g h. (λ k. omega (arith, pend g h, (b.observers g h k).2, b.early), λ k. omega (arith, pend g h, (b.reports g h k).1, b.early));
    watch = λ j uj ne. ws j uj ne (ℕ_discrete j q);
  }
    where
      ls : (j k : ℕ) → Up p s j → Dead s k → Dec (k ≡ z) → Lists s j k
      ls j k uj d (no n) = b.lists j k uj d n
      ls j k uj d (yes r) =
          let far = hop j uj in
          let near : far.0 < 2 ^ p.log m = omega (arith, far.1, p.log_is m) in
          rw r (i.base.marked j z (rounds u pend (p.log m) (omega (arith, b.early)) j far.0 uj far.2 near far.1))

      obs : (j : ℕ) → (Up p s (s.node j).observer × (f (s.node j).observer ≡ j)) ⊎ ((f q ≡ j) × Coming p s O j (T + p.D))
          → Up p s (s.node j).observer × ((s.node (s.node j).observer).emitter ≡ j)
      obs j (inl h) = (h.0, b.em-is _ ∙ h.1)
      obs j (inr h) = absurd (omega (arith, pend h.1.m h.1.has, h.1.due, b.early))

      -- two live nodes: at least one round
      log≥ : 1 ≤ p.log m
      log≥ = go (p.log m) (p.log_is m) (hop (f q) (b.emitter q b.up))
        where
          go : (k : ℕ) → m ≤ 2 ^ k → (d : ℕ) × (d < m) × (iter f d (f q) ≡ q) → 1 ≤ k
          go (suc k) mk h = omega arith
          go zero mk h = absurd (at0 h.0 h.1 h.2)
            where
              at0 : (d : ℕ) → d < m → iter f d (f q) ≡ q → ⊥
              at0 zero dm r = b.two r
              at0 (suc d) dm r = omega arith

      wq : Rests p s T q (f q) → (s.node q).watch ≤ s.last + p.W
      wq (by_observer g) = absurd (omega (arith, pend g.m g.has, g.due, b.early))
      wq (by_timer o h) =
          absurd (omega (
            arith,
            pendh (f q) (b.emitter q b.up).1 (emitter-beats p s i q (f q) b.up.1 (b.em-is q) b.two (b.emitter q b.up).1),
            b.early,
          ))
      wq (by_heartbeat g h k fr to d) = absurd (omega (arith, pend g h, b.early, mul-le-mul_right p.D log≥))
      wq (rested h) = h

      ws : (j : ℕ) → Up p s j → (s.node j).emitter ≢ j → Dec (j ≡ q) → (s.node j).watch ≤ s.last + p.W
      ws j uj ne (no n) = b.watch j uj n ne
      ws j uj ne (yes r) = rw r (wq b.wq)

  module _ (s' : View) (g : InFlight) (e : Watched p s s' g) where
    w-all : OnEach s s' g.to (watching p (s.node g.to) g.from g.due)
    w-all = observer-all p s s' i g e

    w-alive : (j : ℕ) → (s'.node j).alive ≡ (s.node j).alive
    w-alive = w-all (λ j n n'. n'.alive ≡ n.alive) (sym e.live) (λ j. refl)

    w-em : (j : ℕ) → (s'.node j).emitter ≡ (s.node j).emitter
    w-em = w-all (λ j n n'. n'.emitter ≡ n.emitter) refl (λ j. refl)

    w-w : (j : ℕ) → (s'.node j).watch ≡ (s.node j).watch
    w-w = w-all (λ j n n'. n'.watch ≡ n.watch) refl (λ j. refl)

    w_list : (j : ℕ) → (s'.node j).list ≡ (s.node j).list
    w_list = w-all (λ j n n'. n'.list ≡ n.list) refl (λ j. refl)

    w-mark : (j : ℕ) → (s'.node j).mark ≡ (s.node j).mark
    w-mark = w-all (λ j n n'. n'.mark ≡ n.mark) refl (λ j. refl)

    w-up : (j : ℕ) → Up p s j → Up p s' j
    w-up j u = (u.0, w-alive j ∙ u.1)

    w-up' : (j : ℕ) → Up p s' j → Up p s j
    w-up' j u = (u.0, sym (w-alive j) ∙ u.1)

    w-old : (h : InFlight) → h ∈ s'.flight → h ∈ s.flight
    w-old h x = came0 s.flight h (e.frame.came h x)

    w-fly : (y u : ℕ) → Coming p s R y u → Coming p s' R y u
    w-fly y u h =
        record {
          m = h.m;
          has = stays s'.flight g h.m (e.frame.keep h.m h.has) (other-kind h.m g R O h.kind e.kind (omega arith));
          kind = h.kind;
          to = h.to;
          due = h.due;
        }

    w-relay : (y u : ℕ) → Marks s y z ⊎ Coming p s R y u → Marks s' y z ⊎ Coming p s' R y u
    w-relay y u (inl h) = inl (rw (w-mark y) h)
    w-relay y u (inr h) = inr (w-fly y u h)

    w-ob : (j : ℕ) → Up p s j → Dec (j ≡ g.to)
        → (Up p s' (s'.node j).observer × (f (s'.node j).observer ≡ j)) ⊎ ((f q ≡ j) × Coming p s' O j (T + p.D))
    w-ob j u (yes r) =
        let o : (s'.node j).observer ≡ q = rw (r, e.frame.here) (b.observers g e.has e.kind).0 in
        inl (rw o (w-up q b.up, sym (b.observers g e.has e.kind).1 ∙ sym r))
    w-ob j u (no n) = rw (e.frame.other j n) (go (b.observer j u))
      where
        go : (Up p s (s.node j).observer × (f (s.node j).observer ≡ j)) ⊎ ((f q ≡ j) × Coming p s O j (T + p.D))
            → (Up p s' (s.node j).observer × (f (s.node j).observer ≡ j)) ⊎ ((f q ≡ j) × Coming p s' O j (T + p.D))
        go (inl h) = inl (w-up _ h.0, h.1)
        go (inr h) = absurd (n (sym h.0 ∙ sym (b.observers g e.has e.kind).1))

    pub observer-spreading : Spreading p z c T q m f s'
    observer-spreading = record {
      up = w-up q b.up;
      dead = w-alive z ∙ b.dead;
      knows = rw (w-mark q) b.knows;
      early = b.early;
      count = ap p.cnt (fun_ext (λ k. ap not (w-alive k))) ∙ b.count;
      em-is = λ j. w-em j ∙ b.em-is j;
      two = b.two;
      lists = λ j k u d n. rw (w_list j) (b.lists j k (w-up' j u) (sym (w-alive k) ∙ d) n);
      emitter = λ j u. w-up _ (b.emitter j (w-up' j u));
      observer = λ j u. w-ob j (w-up' j u) (ℕ_discrete j g.to);
      observers = λ h x k. b.observers h (w-old h x) k;
      reports = λ h x k. b.reports h (w-old h x) k;
      relay = λ x y d j n ux lx hd dj uy hy bm. w-relay y _ (b.relay x y d j n (w-up' x ux) (rw (w-mark x) at lx) hd dj (w-up' y uy) hy bm);
      watch = λ j u n ne. rw (w-w j, e.frame.last') (omega (arith, i.base.m-due g e.has, b.watch j (w-up' j u) n (λ r. ne (w-em j ∙ r))));
      wq = by_timer (rw (sym (b.observers g e.has e.kind).1, e.frame.here) (b.observers g e.has e.kind).0)
          (rw (sym (b.observers g e.has e.kind).1, e.frame.here) (b.observers g e.has e.kind).2);
    }

  module _ (s' : View) (g : InFlight) (list' mark' : ℕ → Bool) (out : List InFlight) (e : Report p s s' g list' mark' out) where
    r-all : OnEach s s' g.to (listing p (s.node g.to) list' mark')
    r-all = report-all p s s' i g list' mark' out e

    r-alive : (j : ℕ) → (s'.node j).alive ≡ (s.node j).alive
    r-alive = r-all (λ j n n'. n'.alive ≡ n.alive) (sym e.live) (λ j. refl)

    r-em : (j : ℕ) → (s'.node j).emitter ≡ (s.node j).emitter
    r-em = r-all (λ j n n'. n'.emitter ≡ n.emitter) refl (λ j. refl)

    r-ob : (j : ℕ) → (s'.node j).observer ≡ (s.node j).observer
    r-ob = r-all (λ j n n'. n'.observer ≡ n.observer) refl (λ j. refl)

    r-h : (j : ℕ) → (s'.node j).heartbeat ≡ (s.node j).heartbeat
    r-h = r-all (λ j n n'. n'.heartbeat ≡ n.heartbeat) refl (λ j. refl)

    r-w : (j : ℕ) → (s'.node j).watch ≡ (s.node j).watch
    r-w = r-all (λ j n n'. n'.watch ≡ n.watch) refl (λ j. refl)

    r-up : (j : ℕ) → Up p s j → Up p s' j
    r-up j u = (u.0, r-alive j ∙ u.1)

    r-up' : (j : ℕ) → Up p s' j → Up p s j
    r-up' j u = (u.0, sym (r-alive j) ∙ u.1)

    r-lst : (j k : ℕ) → Lists s j k → Lists s' j k
    r-lst = (report-alike p s s' i g list' mark' out e).list

    r-mrk : (j k : ℕ) → Marks s j k → Marks s' j k
    r-mrk = r-all (λ j n n'. (k : ℕ) → n.mark k ≡ true → n'.mark k ≡ true) e.marks.kept (λ j k h. h)

    r-subject : g.subject ≡ z
    r-subject = (b.reports g e.has e.kind).0

    ux : Up p s g.to
    ux = ((i.base.m-N g e.has e.kind).1, e.live)

    knows-x : Marks s' g.to z
    knows-x = rw e.frame.here (rw r-subject at e.marks.is)

    -- x first hears of z: that is within the time of its round
    r-time0 : (d j : ℕ) → iter f d g.to ≡ q → d < 2 ^ j → d < m → g.due ≤ T + j * p.D
    r-time0 d j hd dj dm = go (dec_lt (T + j * p.D) g.due)
      where
        go : Dec (T + j * p.D < g.due) → g.due ≤ T + j * p.D
        go (no n) = omega arith
        go (yes h) = absurd (live-not-dead (rounds g.due e.least.message≥ j h g.to d ux hd dj dm) (rw r-subject at e.fresh))

    r-time : (d j : ℕ) → iter f d g.to ≡ q → d < 2 ^ j → g.due ≤ T + j * p.D
    r-time d j hd dj = go (dec_lt d m)
      where
        go : Dec (d < m) → g.due ≤ T + j * p.D
        go (yes h) = r-time0 d j hd dj h
        go (no n) = r-time0 (hop g.to ux).0 j (hop g.to ux).2 (omega (arith, (hop g.to ux).1)) (hop g.to ux).1

    r_last : g.due ≤ T + p.log m * p.D
    r_last = r-time0 (hop g.to ux).0 (p.log m) (hop g.to ux).2 (omega (arith, (hop g.to ux).1, p.log_is m)) (hop g.to ux).1

    list-is : list' ≡ crashed_in s
    list-is = exact s list' (λ k h. sound k (e.adds.only k h)) full
      where
        sound : (k : ℕ) → Lists s g.to k ⊎ (k ≡ g.subject) → Dead s k
        sound k (inl h) = (i.base.listed g.to k h).dead
        sound k (inr r) = rw (r ∙ r-subject) b.dead

        full : (k : ℕ) → Dead s k → list' k ≡ true
        full k d = go (ℕ_discrete k z)
          where
            go : Dec (k ≡ z) → list' k ≡ true
            go (yes r) = rw (r ∙ sym r-subject) e.adds.is
            go (no n) = e.adds.kept k (b.lists g.to k ux d n)

    r-fly : (y u : ℕ) → Coming p s R y u → Marks s' y z ⊎ Coming p s' R y u
    r-fly y u h = go (e.frame.keep h.m h.has)
      where
        go : (h.m ∈ (g ∷ [])) ⊎ (h.m ∈ s'.flight) → Marks s' y z ⊎ Coming p s' R y u
        go (inr x) = inr record { m = h.m; has = x; kind = h.kind; to = h.to; due = h.due }
        go (inl x) = inl (rw (sym h.to, Memᴰ.eq_of_singleton x) knows-x)

    r-relay : (x y d j n : ℕ) → Dec (x ≡ g.to) → Up p s x → Marks s' x z → iter f d x ≡ q → d < 2 ^ j → Up p s y → iter f (2 ^ n) y ≡ x
        → 2 ^ n < m
        → Marks s' y z ⊎ Coming p s' R y (T + (j + 1) * p.D)
    r-relay x y d j n (no ne) u lx hd dj uy hy bm = go (b.relay x y d j n u (rw (e.frame.other x ne) at lx) hd dj uy hy bm)
      where
        go : Marks s y z ⊎ Coming p s R y (T + (j + 1) * p.D) → Marks s' y z ⊎ Coming p s' R y (T + (j + 1) * p.D)
        go (inl h) = inl (r-mrk y z h)
        go (inr h) = r-fly y _ h
    r-relay x y d j n (yes r) u lx hd dj uy hy bm = inr record {
      m = t.0;
      has = e.frame.add t.0 t.1;
      kind = e.rs.kinds t.0 t.1;
      to = t.2 ∙ tgt;
      due = omega (arith, (e.rs.each t.0 t.1).within, r-time d j (rw r at hd) dj);
    }
      where
        t : (h : InFlight) × (h ∈ out) × (h.to ≡ p.ahead list' g.to (2 ^ n))
        t = let below : 2 ^ n < p.cnt list' = rw (list-is, b.count) bm in e.rs.complete n (omega arith)

        tgt : p.ahead list' g.to (2 ^ n) ≡ y
        tgt = rw (list-is, sym r, sym hy) (p.ahead-is (crashed_in s) f first-f y (2 ^ n) uy.0 (ap not uy.1) (rw b.count bm))

    r-ofly : (y u : ℕ) → Coming p s O y u → Coming p s' O y u
    r-ofly y u h =
        record {
          m = h.m;
          has = stays s'.flight g h.m (e.frame.keep h.m h.has) (other-kind h.m g O R h.kind e.kind (omega arith));
          kind = h.kind;
          to = h.to;
          due = h.due;
        }

    r-obs : (j : ℕ) → (Up p s (s.node j).observer × (f (s.node j).observer ≡ j)) ⊎ ((f q ≡ j) × Coming p s O j (T + p.D))
        → (Up p s' (s.node j).observer × (f (s.node j).observer ≡ j)) ⊎ ((f q ≡ j) × Coming p s' O j (T + p.D))
    r-obs j (inl h) = inl (r-up _ h.0, h.1)
    r-obs j (inr h) = inr (h.0, r-ofly j _ h.1)

    r-rest : Rests p s T q (f q) → Rests p s' T q (f q)
    r-rest (by_observer h) = by_observer (r-ofly (f q) _ h)
    r-rest (by_timer o h) = by_timer (r-ob (f q) ∙ o) (omega (arith, r-h (f q)))
    r-rest (by_heartbeat h x k fr to d) = by_heartbeat h (stays s'.flight g h (e.frame.keep h x) (other-kind h g H R k e.kind (omega arith))) k fr to d
    r-rest (rested h) = rested (omega (arith, r-w q, e.frame.last', i.base.m-due g e.has))

    pub report-spreading : Spreading p z c T q m f s'
    report-spreading = record {
      up = r-up q b.up;
      dead = r-alive z ∙ b.dead;
      knows = r-mrk q z b.knows;
      early = b.early;
      count = ap p.cnt (fun_ext (λ k. ap not (r-alive k))) ∙ b.count;
      em-is = λ j. r-em j ∙ b.em-is j;
      two = b.two;
      lists = λ j k u d n. r-lst j k (b.lists j k (r-up' j u) (sym (r-alive k) ∙ d) n);
      emitter = λ j u. r-up _ (b.emitter j (r-up' j u));
      observer = λ j u. rw (r-ob j) (r-obs j (b.observer j (r-up' j u)));
      observers = λ h x k. fo h k (e.frame.came h x);
      reports = λ h x k. fr h k (e.frame.came h x);
      relay = λ x y d j n ux lx hd dj uy hy bm. r-relay x y d j n (ℕ_discrete x g.to) (r-up' x ux) lx hd dj (r-up' y uy) hy bm;
      watch = λ j u n ne. rw (r-w j, e.frame.last') (omega (arith, i.base.m-due g e.has, b.watch j (r-up' j u) n (λ r. ne (r-em j ∙ r))));
      wq = r-rest b.wq;
    }
      where
        fo : (h : InFlight) → h.kind ≡ O → (h ∈ s.flight) ⊎ (h ∈ out) → (h.from ≡ q) × (h.to ≡ f q) × (h.due ≤ T + p.D)
        fo h k (inl x) = b.observers h x k
        fo h k (inr x) = absurd (omega (arith, e.rs.kinds h x))

        fr : (h : InFlight) → h.kind ≡ R → (h ∈ s.flight) ⊎ (h ∈ out) → (h.subject ≡ z) × (h.due ≤ T + (p.log m + 1) * p.D)
        fr h k (inl x) = b.reports h x k
        fr h k (inr x) = (e.rs.subject h x ∙ r-subject, omega (arith, (e.rs.each h x).within, r_last))
