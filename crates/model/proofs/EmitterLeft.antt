-- An emitter that is left, because the watch expired or by report, crashed D ticks ago or earlier; the node that moves, or is alone, keeps
-- the invariant. Assumes nothing.
use mathlib.Core.Path.{◌≡◌, refl, ap, sym, ◌∙◌}
use mathlib.Core.Logic.{◌⊎◌, inl, inr, ◌≢◌}
use mathlib.Core.List.Memᴰ
use mathlib.Core.List.{List, [], ◌∷◌}
use mathlib.Core.Bool.{Bool, true, false, true≢false}
use Prim.Native.Nat.{ℕ, ◌≤◌, ◌<◌}
use native.Mathlib.Omega.{arith}
use native.Mathlib.Decide.{ℕ_discrete, dec_lt}
use Rattle.node.specs.Node.{H, R}
use Rattle.model.specs.Platform.{InFlight}
use Rattle.model.proofs.Events.{View, Live, Lists, ◌∈◌, Params, Cause, by_expiry, by_report, Leaves, Moves, Alone, moving}
use Rattle.model.proofs.Invariant.{Tied, Inv, Answered, Covered, by_heartbeat, by_timer, by_observer, by_crash}
use Rattle.model.proofs.EveryEvent.{live-not-dead, NewMessage, GoneBy, Alike, base'}
use Rattle.model.proofs.OneState.{live-unlisted, emitter-beats}
use Rattle.model.proofs.OneNode.{OnEach, each, alike, timers, adds-lists}
use Rattle.model.proofs.WatchKept.{stays, stays0, came0, Same, covered-map, same-node}

module _ (p : Params) (s s' : View) (i : Inv p s) where
  module _ (t x : ℕ) (gone : List InFlight) (list' : ℕ → Bool) (y : ℕ) (e : Leaves p s t x gone list' y) where
    abbrev em : ℕ
    em = (s.node x).emitter

    pub leaves-now : s.last ≤ t
    leaves-now = go gone e.cause
      where
        go : (gone : List InFlight) → Cause p s t x gone → s.last ≤ t
        go _ (by_expiry on due none) = omega (arith, (i.timers x e.live).watch≥ on)
        go _ (by_report m h to k about due) = omega (arith, i.base.m-due m h)

    -- the point of the whole: an emitter that is left crashed D ticks ago or earlier
    pub leaves-late : GoneBy p s t em
    leaves-late = go gone e.cause
      where
        silent : (s.node x).watch ≡ t → ((m : InFlight) → m ∈ s.flight → t < m.due)
            → Covered p s.flight x em (s.node x).watch (s.node em) → GoneBy p s t em
        silent due none (by_heartbeat m h k f to u) = absurd (omega (arith, none m h))
        silent due none (by_timer la o u) =
            absurd (omega (arith, p.D≥1, e.least.heartbeat≥ em la (emitter-beats p s i x _ e.live refl e.apart la)))
        silent due none (by_observer la m h k f to u) = absurd (omega (arith, none m h))
        silent due none (by_crash d u) = record { dead = d; long = omega arith }

        go : (gone : List InFlight) → Cause p s t x gone → GoneBy p s t em
        go _ (by_expiry on due none) = silent due none (i.covered x em e.live refl e.apart)
        go _ (by_report m h to k about due) =
            let g = rw about at (i.base.reported m h k) in
            record { dead = g.dead; long = omega (arith, g.long, leaves-now) }

    pub leaves-list' : (a : ℕ) → list' a ≡ true → Lists s x a ⊎ GoneBy p s t a
    leaves-list' a h = go (e.adds.only a h)
      where
        go : Lists s x a ⊎ (a ≡ em) → Lists s x a ⊎ GoneBy p s t a
        go (inl h) = inl h
        go (inr q) = inr (rw q leaves-late)

    pub leaves-dead : (a : ℕ) → list' a ≡ true → Live s a → ⊥
    leaves-dead a h la = go (leaves-list' a h)
      where
        go : Lists s x a ⊎ GoneBy p s t a → ⊥
        go (inl h) = live-unlisted p s i.base x a h la
        go (inr g) = live-not-dead la g.dead

    pub leaves-between : (k : ℕ) → p.gap x k < p.gap x y → list' k ≡ true
    leaves-between k h = go (dec_lt (p.gap x k) (p.gap x em)) (dec_lt (p.gap x em) (p.gap x k))
      where
        go : Dec (p.gap x k < p.gap x em) → Dec (p.gap x em < p.gap x k) → list' k ≡ true
        go (yes u) d = e.adds.kept k (i.base.between x k u)
        go (no n) (yes u) = e.back.passed k u h
        go (no n) (no m) = rw (p.gap-inj x k em (i.base.in_n x e.apart).0 (omega arith)) e.adds.is

    -- nothing that a listed node sent is in flight any more; so the sender of a report is not listed, and a report leaves no node alone
    pub report-not-alone : (m : InFlight) → m ∈ s.flight → m.to ≡ x → m.kind ≡ R → m.due ≡ t → y ≢ x
    report-not-alone m h to k due alone = go (p.gap-cyc m.from x x (i.base.m-N m h k).0 (i.base.in_n x e.apart).0 other)
      where
        other : m.from ≢ x
        other q = i.base.m-self m h (q ∙ sym to)

        gone-by : Lists s x m.from ⊎ GoneBy p s t m.from → ⊥
        gone-by (inl l) =
            let g = i.base.listed x m.from l in
            omega (arith, g.long, leaves-now, i.base.m-from m h (i.base.dead m.from g.dead).0)
        gone-by (inr g) = omega (arith, g.long, i.base.m-from m h (i.base.dead m.from g.dead).0)

        go : (p.gap x m.from < p.gap x x) ⊎ (p.gap m.from x < p.gap m.from x) → ⊥
        go (inl near) = gone-by (leaves-list' m.from (leaves-between m.from (rw alone near)))
        go (inr far) = omega arith

    -- only a report is delivered by it, so every other message stays
    leaves-keeps : (m : InFlight) → m.kind ≢ R → (m ∈ gone) ⊎ (m ∈ s'.flight) → m ∈ s'.flight
    leaves-keeps m nr = go gone e.cause
      where
        go : (gone : List InFlight) → Cause p s t x gone → (m ∈ gone) ⊎ (m ∈ s'.flight) → m ∈ s'.flight
        go _ (by_expiry on due none) h = stays0 s'.flight m h
        go _ (by_report g h to k about due) r = stays s'.flight g m r (λ q. nr (ap (λ v. v.kind) q ∙ k))

  module _ (t x : ℕ) (gone : List InFlight) (list' mark' : ℕ → Bool) (y : ℕ) (o : InFlight) (out : List InFlight)
      (e : Moves p s s' t x gone list' mark' y o out) where
    pub moves-all : OnEach s s' x (moving p (s.node x) list' mark' y t)
    moves-all = each p s s' t x _ gone (o ∷ out) e.frame

    moves-now : s.last ≤ t
    moves-now = leaves-now t x gone list' y e.leaves

    moves-new : (m : InFlight) → (m ≡ o) ⊎ (m ∈ out) → NewMessage p s s' t m
    moves-new m (inl q) = rw q (record {
      due = omega (arith, e.o-after);
      from = λ pl. let pl' : p.planned x ≡ true =
          rw (sym e.o-by) pl in
          omega (arith, e.o-within, e.leaves.least.crash≥ x e.leaves.live pl', ap p.c e.o-by);
      self = λ q. e.other (sym e.o-to ∙ sym q ∙ e.o-by);
      heartbeat = λ k. absurd (omega (arith, e.o-kind));
      observer = λ k. inl (rw (e.o-by, e.frame.here) (sym e.o-to));
      report = λ k. absurd (omega (arith, e.o-kind));
      N = λ k. absurd (omega (arith, e.o-kind));
      carried = λ q. absurd (omega (arith, e.o-kind));
    })
    moves-new m (inr h) = record {
      due = omega (arith, (e.rs.each m h).after);
      from = λ pl. let pl' : p.planned x ≡ true =
          rw (sym (e.rs.each m h).by) pl in
          omega (arith, (e.rs.each m h).within, e.leaves.least.crash≥ x e.leaves.live pl', ap p.c (e.rs.each m h).by);
      self = λ q. (e.rs.each m h).self (sym q ∙ (e.rs.each m h).by);
      heartbeat = λ k. absurd (omega (arith, e.rs.kinds m h));
      observer = λ k. absurd (omega (arith, e.rs.kinds m h));
      report = λ k. rw (e.rs.subject m h) (leaves-late t x gone list' y e.leaves);
      N = λ k. (rw (e.rs.each m h).by (i.base.in_n x e.leaves.apart).0, (e.rs.each m h).in_n);
      carried = λ q. absurd (omega (arith, e.rs.kinds m h));
    }

    pub moves-alike : Alike p s s' t
    moves-alike = alike p s s' t x _ gone (o ∷ out) e.frame e.leaves.least (omega arith) (omega arith) moves-now record {
      alive = λ h. e.leaves.live;
      died = λ h. absurd (true≢false h);
      list = e.leaves.adds.kept;
      list' = leaves-list' t x gone list' y e.leaves;
      mark = adds-lists p _ _ _ _ _ e.leaves.adds e.marks;
      emitter = inr record {
        in_n = rw e.frame.here ((i.base.in_n x e.leaves.apart).0, e.leaves.back.in_n);
        left = rw e.frame.here e.leaves.adds.is;
        between = rw e.frame.here (leaves-between t x gone list' y e.leaves);
      };
      observer = inl refl;
      new = λ m h. moves-new m (Memᴰ.cases_cons h);
    }

    pub moves-sames : (j : ℕ) → Same (s.node j) (s'.node j)
    moves-sames = moves-all (λ j n n'. Same n n') record { alive = sym e.leaves.live; observer = refl; heartbeat = refl } (λ j. same-node _)

    -- the new emitter, live or not
    moves-here : (b : Bool) → (s.node y).alive ≡ b → Covered p s'.flight x y (moving p (s.node x) list' mark' y t).watch (s.node y)
    moves-here true la = by_observer la o (e.frame.add o (Memᴰ.head refl)) e.o-kind e.o-by e.o-to (omega (arith, e.o-within, p.W≥))
    moves-here false da = by_crash da (omega (arith, (i.base.dead y da).1, moves-now, p.W≥))

    moves-covered : (j a : ℕ) → Live s' j → (s'.node j).emitter ≡ a → a ≢ j → Covered p s'.flight j a (s'.node j).watch (s'.node a)
    moves-covered j a lj ej ne = go (ℕ_discrete j x)
      where
        go : Dec (j ≡ x) → Covered p s'.flight j a (s'.node j).watch (s'.node a)
        go (yes q) =
            let ay : a ≡ y = sym ej ∙ rw (q, e.frame.here) in
            rw (ay, e.frame.other y e.other, q, e.frame.here) (moves-here _ refl)
        go (no n) =
            let same : s'.node j ≡ s.node j = e.frame.other j n in
            rw same
            (covered-map p s.flight s'.flight j a _ _ _ _ (i.covered j a (moves-alike.alive j lj) (rw same at ej) ne) (omega arith) (moves-sames a)
            (λ m h k f to. leaves-keeps t x gone list' y e.leaves m (λ q. omega arith) (e.frame.keep m h))
            (λ la m h k f to. leaves-keeps t x gone list' y e.leaves m (λ q. omega arith) (e.frame.keep m h)))

    moves-old : (m : InFlight) → m.kind ≡ H → (m ∈ s.flight) ⊎ (m ∈ (o ∷ out)) → m ∈ s.flight
    moves-old m k (inl h) = h
    moves-old m k (inr h) = absurd (go (Memᴰ.cases_cons h))
      where
        go : (m ≡ o) ⊎ (m ∈ out) → ⊥
        go (inl q) = omega (arith, e.o-kind, ap (λ g. g.kind) q)
        go (inr h) = omega (arith, e.rs.kinds m h)

    -- no H of the new emitter was on its way
    moves-fresh : (m : InFlight) → m ∈ s.flight → m.kind ≡ H → m.to ≡ x → m.from ≡ y → ⊥
    moves-fresh m h k to fr = go (rw (to, fr) at (i.base.m-H m h k))
      where
        go : Tied p s x y → ⊥
        go (inl q) = live-not-dead e.leaves.adds.is (rw (sym q) at e.leaves.back.unlisted)
        go (inr l) = live-not-dead (e.leaves.adds.kept y l) e.leaves.back.unlisted

    moves-back : Answered s'
    moves-back m h k lf lt em ne = (moves-sames m.from).observer ∙ go (ℕ_discrete m.to x)
      where
        m0 : m ∈ s.flight
        m0 = moves-old m k (e.frame.came m h)

        go : Dec (m.to ≡ x) → (s.node m.from).observer ≡ m.to
        go (yes q) = absurd (moves-fresh m m0 k q (sym em ∙ rw (q, e.frame.here)))
        go (no n) = i.answered m m0 k (moves-alike.alive m.from lf) (moves-alike.alive m.to lt) (rw (e.frame.other m.to n) at em) ne

    pub moves-inv : Inv p s'
    moves-inv = record {
      base = base' p s s' t moves-alike i.base;
      timers = timers p s s' t x _ gone (o ∷ out) e.frame e.leaves.least moves-now i (λ l h. record {
        on = λ ne. (refl, ((i.timers x l).on e.leaves.apart).1);
        off = λ o. e.other;
        watch≥ = λ o. omega arith;
        heartbeat≥ = e.leaves.least.heartbeat≥ x l;
        heartbeat≤ = λ o. omega (arith, moves-now, (i.timers x l).heartbeat≤ o);
        to = (i.timers x l).to;
        lone = λ q. absurd (e.other q);
      }) (λ h. e.leaves.live);
      answered = moves-back;
      covered = moves-covered;
    }

  module _ (t x : ℕ) (list' mark' : ℕ → Bool) (e : Alone p s s' t x list' mark') where
    alone-now : s.last ≤ t
    alone-now = leaves-now t x [] list' x e.leaves

    pub alone-N : x < p.N
    alone-N = (i.base.in_n x e.leaves.apart).0

    pub alone-alike : Alike p s s' t
    alone-alike = alike p s s' t x _ [] [] e.frame e.leaves.least (omega arith) (omega arith) alone-now record {
      alive = λ h. e.leaves.live;
      died = λ h. absurd (true≢false h);
      list = e.leaves.adds.kept;
      list' = leaves-list' t x [] list' x e.leaves;
      mark = adds-lists p _ _ _ _ _ e.leaves.adds e.marks;
      emitter = inr record {
        in_n = rw e.frame.here (alone-N, alone-N);
        left = rw e.frame.here e.leaves.adds.is;
        between = rw e.frame.here (leaves-between t x [] list' x e.leaves);
      };
      observer = inr (inr (inl (rw e.frame.here)));
      new = λ m h. absurd (Memᴰ.not-nil h);
    }

    -- the alone node lists every other, so no live node observes it
    pub alone-only : (j : ℕ) → Live s j → (s.node j).emitter ≡ x → j ≢ x → ⊥
    alone-only j lj ej ne = go (p.gap-cyc j x x (i.base.in_n j (λ q. ne (sym q ∙ ej))).0 alone-N ne)
      where
        go : (p.gap x j < p.gap x x) ⊎ (p.gap j x < p.gap j x) → ⊥
        go (inl h) = leaves-dead t x [] list' x e.leaves j (leaves-between t x [] list' x e.leaves j h) lj
        go (inr h) = omega arith

    alone-covered : (j a : ℕ) → Live s' j → (s'.node j).emitter ≡ a → a ≢ j → Covered p s'.flight j a (s'.node j).watch (s'.node a)
    alone-covered j a lj ej ne = go (ℕ_discrete j x) (ℕ_discrete a x)
      where
        go : Dec (j ≡ x) → Dec (a ≡ x) → Covered p s'.flight j a (s'.node j).watch (s'.node a)
        go (yes q) d = absurd (ne (sym ej ∙ rw (q, e.frame.here)))
        go (no n) (yes r) = absurd (alone-only j (alone-alike.alive j lj) (rw (e.frame.other j n) at (ej ∙ r)) n)
        go (no n) (no r) =
            let same : s'.node j ≡ s.node j = e.frame.other j n in
            rw (same, e.frame.other a r)
            (covered-map p s.flight s'.flight j a _ _ _ _ (i.covered j a (alone-alike.alive j lj) (rw same at ej) ne) (omega arith) (same-node _)
            (λ m h k f to. stays0 s'.flight m (e.frame.keep m h))
            (λ la m h k f to. stays0 s'.flight m (e.frame.keep m h)))

    alone-back : Answered s'
    alone-back m h k lf lt em ne = go (ℕ_discrete m.to x) (ℕ_discrete m.from x)
      where
        go : Dec (m.to ≡ x) → Dec (m.from ≡ x) → (s'.node m.from).observer ≡ m.to
        go (yes q) d = absurd (ne (sym em ∙ rw (q, e.frame.here)))
        go (no n) (yes r) = absurd (alone-only m.to (alone-alike.alive m.to lt) (rw (e.frame.other m.to n) at (em ∙ r)) n)
        go (no n) (no r) =
            rw (e.frame.other m.from r)
            (i.answered m (came0 s.flight m (e.frame.came m h)) k (alone-alike.alive m.from lf) (alone-alike.alive m.to lt)
            (rw (e.frame.other m.to n) at em) ne)

    pub alone-inv : Inv p s'
    alone-inv = record {
      base = base' p s s' t alone-alike i.base;
      timers = timers p s s' t x _ [] [] e.frame e.leaves.least alone-now i (λ l h. record {
        on = λ ne. absurd (ne refl);
        off = λ o. absurd (live-not-dead o refl);
        watch≥ = λ o. absurd (live-not-dead o refl);
        heartbeat≥ = λ o. absurd (live-not-dead o refl);
        heartbeat≤ = λ o. absurd (live-not-dead o refl);
        to = λ o. absurd (live-not-dead o refl);
        lone = λ q. refl;
      }) (λ h. e.leaves.live);
      answered = alone-back;
      covered = alone-covered;
    }
