-- A heartbeat sent keeps the invariant. Assumes nothing.
use mathlib.Core.Path.{◌≡◌, refl, ap, sym, ◌∙◌}
use mathlib.Core.Logic.{◌⊎◌, inl, inr, ◌≢◌}
use mathlib.Core.List.Memᴰ
use mathlib.Core.List.{[], ◌∷◌}
use mathlib.Core.Bool.{true, true≢false}
use Prim.Native.Nat.{ℕ, ◌≤◌}
use native.Mathlib.Omega.{arith}
use native.Mathlib.Decide.{ℕ_discrete}
use Rattle.model.specs.Platform.{InFlight}
use Rattle.model.proofs.Events.{Seen, View, Live, ◌∈◌, Params, Sends, sending}
use Rattle.model.proofs.Invariant.{Inv, Gone, Answered, Covered, by_heartbeat, by_timer, by_observer, by_crash}
use Rattle.model.proofs.EveryEvent.{live-not-dead, GoneBy, Alike, base'}
use Rattle.model.proofs.OneNode.{OnEach, each, alike, timers}
use Rattle.model.proofs.WatchKept.{stays0, covered-map, same-node}

module _ (p : Params) (s s' : View) (i : Inv p s) where
  module _ (t x : ℕ) (m : InFlight) (e : Sends p s s' t x m) where
    sends-all : OnEach s s' x (sending p (s.node x) t)
    sends-all = each p s s' t x _ [] (m ∷ []) e.frame

    sends-now : s.last ≤ t
    sends-now = omega (arith, (i.timers x e.live).heartbeat≥ e.on, e.due)

    gone-by : (k : ℕ) → Gone p s k → GoneBy p s t k
    gone-by k g = record { dead = g.dead; long = omega (arith, g.long, sends-now) }

    sends-alike : Alike p s s' t
    sends-alike = alike p s s' t x _ [] (m ∷ []) e.frame e.least (omega arith) (omega arith) sends-now record {
      alive = λ h. e.live;
      died = λ h. absurd (true≢false h);
      list = λ a h. h;
      list' = λ a h. inl h;
      mark = λ a h. inl h;
      emitter = inl refl;
      observer = inl refl;
      new = λ g h. rw (Memᴰ.eq_of_singleton h) (record {
        due = omega (arith, e.after);
        from = λ pl. let pl' : p.planned x ≡ true = rw (sym e.by) pl in omega (arith, e.within, e.least.crash≥ x e.live pl', ap p.c e.by);
        self = λ q. (i.timers x e.live).to e.on (sym e.to ∙ sym q ∙ e.by);
        heartbeat = λ k. rw (e.to, e.by) (i.base.observer x);
        observer = λ k. absurd (omega (arith, e.kind));
        report = λ k. absurd (omega (arith, e.kind));
        N = λ k. absurd (omega (arith, e.kind));
        carried = λ q k c. gone-by k (i.base.listed x k (sym (e.carries k) ∙ c));
      });
    }

    sends-em : (j : ℕ) → (s'.node j).emitter ≡ (s.node j).emitter
    sends-em = sends-all (λ j n n'. n'.emitter ≡ n.emitter) refl (λ j. refl)

    sends-w : (j : ℕ) → (s'.node j).watch ≡ (s.node j).watch
    sends-w = sends-all (λ j n n'. n'.watch ≡ n.watch) refl (λ j. refl)

    sends-ob : (j : ℕ) → (s'.node j).observer ≡ (s.node j).observer
    sends-ob = sends-all (λ j n n'. n'.observer ≡ n.observer) refl (λ j. refl)

    -- the watcher of the node that sends
    sends-turn : (j a w : ℕ) (n : Seen) → a ≡ x → n.alive ≡ true → Covered p s.flight j a w (s.node a) → Covered p s'.flight j a w n
    sends-turn j a w n q la (by_heartbeat g h k f t u) = by_heartbeat g (stays0 s'.flight g (e.frame.keep g h)) k f t u
    sends-turn j a w n q la (by_timer al o u) =
        by_heartbeat m (e.frame.add m (Memᴰ.head refl)) e.kind (e.by ∙ sym q) (e.to ∙ rw (sym q) o)
        (omega (arith, e.within, e.due, ap (λ y. (s.node y).heartbeat) q))
    sends-turn j a w n q la (by_observer al g h k f t u) = by_observer la g (stays0 s'.flight g (e.frame.keep g h)) k f t u
    sends-turn j a w n q la (by_crash d u) = absurd (live-not-dead (rw q e.live) d)

    sends-covered : (j a : ℕ) → Live s' j → (s'.node j).emitter ≡ a → a ≢ j → Covered p s'.flight j a (s'.node j).watch (s'.node a)
    sends-covered j a lj ej ne = rw (sends-w j) (go (ℕ_discrete a x))
      where
        old : Covered p s.flight j a (s.node j).watch (s.node a)
        old = i.covered j a (sends-alike.alive j lj) (sym (sends-em j) ∙ ej) ne

        go : Dec (a ≡ x) → Covered p s'.flight j a (s.node j).watch (s'.node a)
        go (yes q) = sends-turn j a _ _ q (rw (q, e.frame.here)) old
        go (no n) = rw (e.frame.other a n) (covered-map p s.flight s'.flight j a _ _ _ _ old (omega arith) (same-node _)
            (λ g h k f to. stays0 s'.flight g (e.frame.keep g h))
            (λ la g h k f to. stays0 s'.flight g (e.frame.keep g h)))

    sends-back : Answered s'
    sends-back g h k lf lt em ne = sends-ob g.from ∙ go (e.frame.came g h)
      where
        go : (g ∈ s.flight) ⊎ (g ∈ (m ∷ [])) → (s.node g.from).observer ≡ g.to
        go (inl h) = i.answered g h k (sends-alike.alive g.from lf) (sends-alike.alive g.to lt) (sym (sends-em g.to) ∙ em) ne
        go (inr h) = rw (Memᴰ.eq_of_singleton h, e.by) (sym e.to)

    pub sends-inv : Inv p s'
    sends-inv = record {
      base = base' p s s' t sends-alike i.base;
      timers = timers p s s' t x _ [] (m ∷ []) e.frame e.least sends-now i (λ l h. record {
        on = λ ne. (((i.timers x l).on ne).0, refl);
        off = (i.timers x l).off;
        watch≥ = e.least.watch≥ x l;
        heartbeat≥ = λ o. omega arith;
        heartbeat≤ = λ o. omega arith;
        to = λ o. (i.timers x l).to e.on;
        lone = (i.timers x l).lone;
      }) (λ h. e.live);
      answered = sends-back;
      covered = sends-covered;
    }
