-- A heartbeat from the emitter keeps the invariant. Assumes nothing.
use mathlib.Core.Path.{◌≡◌, refl, ap, sym, ◌∙◌}
use mathlib.Core.Logic.{◌⊎◌, inl, inr, ◌≢◌}
use mathlib.Core.List.Memᴰ
use mathlib.Core.List.{[], ◌∷◌}
use mathlib.Core.Bool.{Bool, true, false, true≢false}
use Prim.Native.Nat.{ℕ, ◌+◌, ◌≤◌}
use native.Mathlib.Omega.{arith}
use native.Mathlib.Decide.{ℕ_discrete}
use Rattle.node.specs.Node.{H, O}
use Rattle.model.specs.Platform.{InFlight}
use Rattle.model.proofs.Events.{View, Live, Lists, Carries, Params, Beat, beaten}
use Rattle.model.proofs.Invariant.{Inv, Gone, Covered, by_timer, by_crash}
use Rattle.model.proofs.EveryEvent.{GoneBy, Alike, base'}
use Rattle.model.proofs.OneState.{emitter-beats}
use Rattle.model.proofs.OneNode.{OnEach, each, alike, timers}
use Rattle.model.proofs.WatchKept.{stays, came0, other-kind, Same, covered-map, answered-map, same-node}

module _ (p : Params) (s s' : View) (i : Inv p s) where
  module _ (m : InFlight) (list' : ℕ → Bool) (e : Beat p s s' m list') where
    beat-all : OnEach s s' m.to (beaten p (s.node m.to) list' m.due)
    beat-all = each p s s' m.due m.to _ (m ∷ []) [] e.frame

    beat-now : s.last ≤ m.due
    beat-now = i.base.m-due m e.has

    -- what it learns was gone when the heartbeat was sent
    learnt-gone : (a : ℕ) → Lists s m.to a ⊎ (Carries m a × (a ≢ m.to) × (a ≢ m.from)) → Lists s m.to a ⊎ GoneBy p s m.due a
    learnt-gone a (inl h) = inl h
    learnt-gone a (inr h) =
        let g : Gone p s a = i.base.carried m e.has e.kind a h.0 in
        inr record { dead = g.dead; long = omega (arith, g.long, beat-now) }

    beat-alike : Alike p s s' m.due
    beat-alike = alike p s s' m.due m.to _ (m ∷ []) [] e.frame e.least (omega arith) (omega arith) beat-now record {
      alive = λ h. e.live;
      died = λ h. absurd (true≢false h);
      list = e.learns.kept;
      list' = λ a h. learnt-gone a (e.learns.only a h);
      mark = λ a h. inl h;
      emitter = inl refl;
      observer = inl refl;
      new = λ m h. absurd (Memᴰ.not-nil h);
    }

    beat-em : (j : ℕ) → (s'.node j).emitter ≡ (s.node j).emitter
    beat-em = beat-all (λ j n n'. n'.emitter ≡ n.emitter) refl (λ j. refl)

    beat-sames : (j : ℕ) → Same (s.node j) (s'.node j)
    beat-sames = beat-all (λ j n n'. Same n n') record { alive = sym e.live; observer = refl; heartbeat = refl } (λ j. same-node _)

    -- the watcher that got it
    beat-here : (j a : ℕ) → j ≡ m.to → a ≡ m.from → a ≢ j → Live s j → (s.node j).emitter ≡ a → (b : Bool)
        → (s.node a).alive ≡ b
        → Covered p s'.flight j a (m.due + p.W) (s.node a)
    beat-here j a q r ne lj ej true la = by_timer la (rw (q, r) (i.answered m e.has e.kind (rw r at la) e.live e.of (rw (q, r) at ne)))
        (omega (arith, (i.timers a la).heartbeat≤ (emitter-beats p s i j a lj ej ne la), beat-now, p.W≥))
    beat-here j a q r ne lj ej false da = by_crash da (omega (arith, (i.base.dead a da).1, beat-now, p.W≥))

    beat-covered : (j a : ℕ) → Live s' j → (s'.node j).emitter ≡ a → a ≢ j → Covered p s'.flight j a (s'.node j).watch (s'.node a)
    beat-covered j a lj ej ne = go (ℕ_discrete j m.to)
      where
        lj0 : Live s j
        lj0 = beat-alike.alive j lj

        ej0 : (s.node j).emitter ≡ a
        ej0 = sym (beat-em j) ∙ ej

        go : Dec (j ≡ m.to) → Covered p s'.flight j a (s'.node j).watch (s'.node a)
        go (yes q) =
            let w' : (s'.node j).watch ≡ m.due + p.W = rw (q, e.frame.here) in
            rw (w', e.frame.other a (λ x. ne (x ∙ sym q))) (beat-here j a q (sym ej0 ∙ ap (λ x. (s.node x).emitter) q ∙ e.of) ne lj0 ej0 _ refl)
        go (no n) =
            let w' : (s'.node j).watch ≡ (s.node j).watch = rw (e.frame.other j n) in
            rw w' (covered-map p s.flight s'.flight j a _ _ _ _ (i.covered j a lj0 ej0 ne) (omega arith) (beat-sames a)
            (λ g h k fr to. stays s'.flight m g (e.frame.keep g h) (λ x. n (sym to ∙ ap (λ y. y.to) x)))
            (λ la g h k fr to. stays s'.flight m g (e.frame.keep g h) (other-kind g m O H k e.kind (omega arith))))

    pub beat-inv : Inv p s'
    beat-inv = record {
      base = base' p s s' m.due beat-alike i.base;
      timers = timers p s s' m.due m.to _ (m ∷ []) [] e.frame e.least beat-now i (λ l h. record {
        on = λ ne. (refl, ((i.timers m.to l).on ne).1);
        off = λ o q. i.base.m-self m e.has (sym e.of ∙ q);
        watch≥ = λ o. omega arith;
        heartbeat≥ = e.least.heartbeat≥ m.to l;
        heartbeat≤ = λ o. omega (arith, beat-now, (i.timers m.to l).heartbeat≤ o);
        to = (i.timers m.to l).to;
        lone = (i.timers m.to l).lone;
      }) (λ h. e.live);
      answered =
          answered-map p s s' i.answered beat-alike.alive beat-em (λ j. (beat-sames j).observer) (λ g h q. came0 s.flight g (e.frame.came g h));
      covered = beat-covered;
    }
