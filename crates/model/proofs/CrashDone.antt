-- A crash keeps the invariant. Assumes nothing.
use mathlib.Core.Path.{◌≡◌, refl, ap, sym, ◌∙◌}
use mathlib.Core.Logic.{inl, inr, ◌≢◌}
use mathlib.Core.List.Memᴰ
use mathlib.Core.List.{[]}
use mathlib.Core.Bool.{false}
use Prim.Native.Nat.{ℕ, ◌≤◌}
use native.Mathlib.Omega.{arith}
use native.Mathlib.Decide.{ℕ_discrete}
use Rattle.model.proofs.Events.{Seen, View, Live, Params, Crash}
use Rattle.model.proofs.Invariant.{Inv, Covered, by_heartbeat, by_timer, by_observer, by_crash}
use Rattle.model.proofs.EveryEvent.{live-not-dead, Alike, base'}
use Rattle.model.proofs.OneState.{emitter-beats}
use Rattle.model.proofs.OneNode.{each, alike, timers}
use Rattle.model.proofs.WatchKept.{stays0, came0, covered-map, answered-map, same-node}

module _ (p : Params) (s s' : View) (i : Inv p s) where
  module _ (t k : ℕ) (e : Crash p s s' t k) where
    pub crash-now : s.last ≤ t
    crash-now = omega (arith, i.base.undone k e.live e.plan, e.at)

    pub crash-alike : Alike p s s' t
    crash-alike = alike p s s' t k _ [] [] e.frame e.least (omega arith) (omega arith) crash-now record {
      alive = λ h. e.live;
      died = λ h. inr (e.plan, omega (arith, e.at));
      list = λ a h. h;
      list' = λ a h. inl h;
      mark = λ a h. inl h;
      emitter = inl refl;
      observer = inl refl;
      new = λ m h. absurd (Memᴰ.not-nil h);
    }

    crash-turn : (j a w : ℕ) (n : Seen) → a ≡ k → Live s j → (s.node j).emitter ≡ a → a ≢ j → n.alive ≡ false
        → Covered p s.flight j a w (s.node a)
        → Covered p s'.flight j a w n
    crash-turn j a w n q lj ej ne d (by_heartbeat m h k f t u) = by_heartbeat m (stays0 s'.flight m (e.frame.keep m h)) k f t u
    crash-turn j a w n q lj ej ne d (by_timer la o u) =
        by_crash d (omega (arith, ap p.c q, e.at, e.least.heartbeat≥ a la (emitter-beats p s i j a lj ej ne la)))
    crash-turn j a w n q lj ej ne d (by_observer la m h k f t u) = by_crash d (omega (arith, ap p.c q, e.at, e.least.message≥ m h))
    crash-turn j a w n q lj ej ne d (by_crash o u) = by_crash d u

    crash-covered : (j a : ℕ) → Live s' j → (s'.node j).emitter ≡ a → a ≢ j → Covered p s'.flight j a (s'.node j).watch (s'.node a)
    crash-covered j a lj ej ne = rw (ew j) (go (ℕ_discrete a k))
      where
        ew : (j : ℕ) → (s'.node j).watch ≡ (s.node j).watch
        ew = each p s s' t k _ [] [] e.frame (λ j n n'. n'.watch ≡ n.watch) refl (λ j. refl)

        ej0 : (s.node j).emitter ≡ a
        ej0 = sym (each p s s' t k _ [] [] e.frame (λ j n n'. n'.emitter ≡ n.emitter) refl (λ j. refl) j) ∙ ej

        lj0 : Live s j
        lj0 = crash-alike.alive j lj

        go : Dec (a ≡ k) → Covered p s'.flight j a (s.node j).watch (s'.node a)
        go (yes q) = crash-turn j a _ _ q lj0 ej0 ne (rw (q, e.frame.here)) (i.covered j a lj0 ej0 ne)
        go (no n) = rw (e.frame.other a n) (covered-map p s.flight s'.flight j a _ _ _ _ (i.covered j a lj0 ej0 ne) (omega arith) (same-node _)
            (λ m h k f t. stays0 s'.flight m (e.frame.keep m h)) (λ la m h k f t. stays0 s'.flight m (e.frame.keep m h)))

    pub crash-inv : Inv p s'
    crash-inv = record {
      base = base' p s s' t crash-alike i.base;
      timers = timers p s s' t k _ [] [] e.frame e.least crash-now i (λ l h. absurd (live-not-dead h refl)) (λ h. e.live);
      answered = answered-map p s s' i.answered crash-alike.alive
          (each p s s' t k _ [] [] e.frame (λ j n n'. n'.emitter ≡ n.emitter) refl (λ j. refl))
          (each p s s' t k _ [] [] e.frame (λ j n n'. n'.observer ≡ n.observer) refl (λ j. refl))
          (λ m h q. came0 s.flight m (e.frame.came m h));
      covered = crash-covered;
    }
