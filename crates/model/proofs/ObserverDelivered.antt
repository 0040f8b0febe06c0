-- Message O keeps the invariant. Assumes nothing.
use mathlib.Core.Path.{◌≡◌, refl, ap, sym, ◌∙◌}
use mathlib.Core.Logic.{◌⊎◌, inl, inr, ◌≢◌}
use mathlib.Core.List.Memᴰ
use mathlib.Core.List.{[], ◌∷◌}
use mathlib.Core.Bool.{true, true≢false}
use Prim.Native.Nat.{ℕ, ◌≤◌}
use native.Mathlib.Omega.{arith}
use native.Mathlib.Decide.{ℕ_discrete}
use Rattle.node.specs.Node.{H, O}
use Rattle.model.specs.Platform.{InFlight}
use Rattle.model.proofs.Events.{Seen, View, Live, ◌∈◌, Params, Watched, watching}
use Rattle.model.proofs.Invariant.{Inv, Answered, Covered, by_heartbeat, by_timer, by_observer, by_crash}
use Rattle.model.proofs.EveryEvent.{live-not-dead, Alike, base'}
use Rattle.model.proofs.OneState.{one-observes, none-asks, emitter-beats}
use Rattle.model.proofs.OneNode.{OnEach, each, alike, timers}
use Rattle.model.proofs.WatchKept.{stays, came0, other-kind, covered-map, same-node}

module _ (p : Params) (s s' : View) (i : Inv p s) where
  module _ (m : InFlight) (e : Watched p s s' m) where
    pub observer-all : OnEach s s' m.to (watching p (s.node m.to) m.from m.due)
    observer-all = each p s s' m.due m.to _ (m ∷ []) [] e.frame

    observer-now : s.last ≤ m.due
    observer-now = i.base.m-due m e.has

    pub observer-alike : Alike p s s' m.due
    observer-alike = alike p s s' m.due m.to _ (m ∷ []) [] e.frame e.least (omega arith) (omega arith) observer-now record {
      alive = λ h. e.live;
      died = λ h. absurd (true≢false h);
      list = λ a h. h;
      list' = λ a h. inl h;
      mark = λ a h. inl h;
      emitter = inl refl;
      observer = inr (inl (i.base.m-O m e.has e.kind));
      new = λ m h. absurd (Memᴰ.not-nil h);
    }

    observer-em : (j : ℕ) → (s'.node j).emitter ≡ (s.node j).emitter
    observer-em = observer-all (λ j n n'. n'.emitter ≡ n.emitter) refl (λ j. refl)

    observer-w : (j : ℕ) → (s'.node j).watch ≡ (s.node j).watch
    observer-w = observer-all (λ j n n'. n'.watch ≡ n.watch) refl (λ j. refl)

    -- the sender is the one node that observes the receiver
    observer-from : (j a : ℕ) → a ≡ m.to → Live s j → (s.node j).emitter ≡ a → a ≢ j → m.from ≡ j
    observer-from j a q lj ej ne = one-observes p s i.base j a lj ej ne (rw q e.live) m e.has e.kind (sym q)

    -- w, the watch of j; n, the new state of its emitter a, which got this O of j
    observer-turn : (j a w : ℕ) (n : Seen) → a ≡ m.to → Live s j → (s.node j).emitter ≡ a → a ≢ j → n.alive ≡ true → n.observer ≡ j
        → n.heartbeat ≡ m.due → Covered p s.flight j a w (s.node a) → Covered p s'.flight j a w n
    observer-turn j a w n q lj ej ne la o d (by_heartbeat g h k f t u) =
        by_heartbeat g (stays s'.flight m g (e.frame.keep g h) (other-kind g m H O k e.kind (omega arith))) k f t u
    observer-turn j a w n q lj ej ne la o d (by_timer al x u) = by_timer la o (omega (arith, e.least.heartbeat≥ a al (emitter-beats p s i j a lj ej ne al)))
    observer-turn j a w n q lj ej ne la o d (by_observer al g h k f t u) = go (e.frame.keep g h)
      where
        go : (g ∈ (m ∷ [])) ⊎ (g ∈ s'.flight) → Covered p s'.flight j a w n
        go (inr h) = by_observer la g h k f t u
        go (inl h) = by_timer la o (omega (arith, ap (λ x. x.due) (Memᴰ.eq_of_singleton h)))
    observer-turn j a w n q lj ej ne la o d (by_crash x u) = absurd (live-not-dead (rw q e.live) x)

    observer-covered : (j a : ℕ) → Live s' j → (s'.node j).emitter ≡ a → a ≢ j → Covered p s'.flight j a (s'.node j).watch (s'.node a)
    observer-covered j a lj ej ne = rw (observer-w j) (go (ℕ_discrete a m.to))
      where
        lj0 : Live s j
        lj0 = observer-alike.alive j lj

        ej0 : (s.node j).emitter ≡ a
        ej0 = sym (observer-em j) ∙ ej

        go : Dec (a ≡ m.to) → Covered p s'.flight j a (s.node j).watch (s'.node a)
        go (yes q) =
            observer-turn j a _ _ q lj0 ej0 ne (rw (q, e.frame.here)) (rw (q, e.frame.here) (observer-from j a q lj0 ej0 ne)) (rw (q, e.frame.here))
            (i.covered j a lj0 ej0 ne)
        go (no n) = rw (e.frame.other a n) (covered-map p s.flight s'.flight j a _ _ _ _ (i.covered j a lj0 ej0 ne) (omega arith) (same-node _)
            (λ g h k fr to. stays s'.flight m g (e.frame.keep g h) (other-kind g m H O k e.kind (omega arith)))
            (λ la g h k fr to. stays s'.flight m g (e.frame.keep g h) (λ x. n (sym to ∙ ap (λ y. y.to) x))))

    observer-back : Answered s'
    observer-back g h k lf lt eg ne = go (ℕ_discrete g.from m.to)
      where
        go : Dec (g.from ≡ m.to) → (s'.node g.from).observer ≡ g.to
        go (yes q) = rw (q, e.frame.here) (observer-from g.to g.from q (observer-alike.alive g.to lt) (sym (observer-em g.to) ∙ eg) ne)
        go (no n) =
            rw (e.frame.other g.from n)
            (i.answered g (came0 s.flight g (e.frame.came g h)) k (observer-alike.alive g.from lf) (observer-alike.alive g.to lt)
            (sym (observer-em g.to) ∙ eg) ne)

    pub observer-inv : Inv p s'
    observer-inv = record {
      base = base' p s s' m.due observer-alike i.base;
      timers = timers p s s' m.due m.to _ (m ∷ []) [] e.frame e.least observer-now i (λ l h. record {
        on = λ ne. (((i.timers m.to l).on ne).0, refl);
        off = (i.timers m.to l).off;
        watch≥ = e.least.watch≥ m.to l;
        heartbeat≥ = λ o. omega arith;
        heartbeat≤ = λ o. omega arith;
        to = λ o. i.base.m-self m e.has;
        lone = λ q. absurd (none-asks p s i.base m e.has e.kind e.live q);
      }) (λ h. e.live);
      answered = observer-back;
      covered = observer-covered;
    }
