-- A message that changes no node keeps the invariant: one dropped, a heartbeat that is not from the emitter, a report that says
-- nothing new. Assumes nothing.
use mathlib.Core.Path.{◌≡◌, refl, ap, sym, ◌∙◌}
use mathlib.Core.Logic.{inl, inr, ◌≢◌}
use mathlib.Core.List.Memᴰ
use mathlib.Core.List.{[], ◌∷◌}
use Prim.Native.Nat.{ℕ}
use native.Mathlib.Omega.{arith}
use Rattle.node.specs.Node.{H, O}
use Rattle.model.specs.Platform.{InFlight}
use Rattle.model.proofs.Events.{View, Live, ◌∈◌, Ignored, Params, Frame, AtMessage, Drop, Idle}
use Rattle.model.proofs.Invariant.{Inv, Covered}
use Rattle.model.proofs.EveryEvent.{live-not-dead, Alike, base'}
use Rattle.model.proofs.OneNode.{each, alike, timers}
use Rattle.model.proofs.WatchKept.{stays, came0, covered-map, answered-map, same-node}

module _ (p : Params) (s s' : View) (i : Inv p s) where
  -- a delivery that changes no node: m is neither the H nor the O on which a watch rests
  module _ (m : InFlight) (has : m ∈ s.flight) (le : AtMessage p s m.due)
      (f : Frame p s s' m.due m.to (s.node m.to) (m ∷ []) [])
      (not_h : m.kind ≡ H → Live s m.to → (s.node m.to).emitter ≡ m.from → ⊥)
      (not_o : m.kind ≡ O → Live s m.to → ⊥) where
    still-same : (j : ℕ) → s'.node j ≡ s.node j
    still-same = each p s s' m.due m.to _ (m ∷ []) [] f (λ j n n'. n' ≡ n) refl (λ j. refl)

    still_alike : Alike p s s' m.due
    still_alike = alike p s s' m.due m.to _ (m ∷ []) [] f le (omega arith) (omega arith) (i.base.m-due m has) record {
      alive = λ h. h;
      died = λ h. inl h;
      list = λ a h. h;
      list' = λ a h. inl h;
      mark = λ a h. inl h;
      emitter = inl refl;
      observer = inl refl;
      new = λ m h. absurd (Memᴰ.not-nil h);
    }

    still-covered : (j a : ℕ) → Live s' j → (s'.node j).emitter ≡ a → a ≢ j → Covered p s'.flight j a (s'.node j).watch (s'.node a)
    still-covered j a =
        rw (still-same j, still-same a) (λ lj ej ne. covered-map p s.flight s'.flight j a _ _ _ _ (i.covered j a lj ej ne) (omega arith) (same-node _)
        (λ g h k fr to.
        stays s'.flight m g (f.keep g h) (λ q. not_h (rw q at k) (rw (rw q at to) lj) (rw (rw q at to) (ej ∙ sym fr ∙ ap (λ x. x.from) q))))
        (λ la g h k fr to. stays s'.flight m g (f.keep g h) (λ q. not_o (rw q at k) (rw (rw q at to) la))))

    pub still-inv : Inv p s'
    still-inv = record {
      base = base' p s s' m.due still_alike i.base;
      timers = timers p s s' m.due m.to _ (m ∷ []) [] f le (i.base.m-due m has) i (λ l h. record {
        on = (i.timers m.to l).on;
        off = (i.timers m.to l).off;
        watch≥ = le.watch≥ m.to l;
        heartbeat≥ = le.heartbeat≥ m.to l;
        heartbeat≤ = λ o. omega (arith, i.base.m-due m has, (i.timers m.to l).heartbeat≤ o);
        to = (i.timers m.to l).to;
        lone = (i.timers m.to l).lone;
      }) (λ h. h);
      answered = answered-map p s s' i.answered still_alike.alive (λ j. rw (still-same j)) (λ j. rw (still-same j))
          (λ g h q. came0 s.flight g (f.came g h));
      covered = still-covered;
    }

  pub drop-inv : (m : InFlight) → Drop p s s' m → Inv p s'
  drop-inv m e = still-inv m e.has e.least e.frame (λ k l q. live-not-dead l e.dead) (λ k l. live-not-dead l e.dead)

  pub idle-inv : (m : InFlight) → Idle p s s' m → Inv p s'
  idle-inv m e = still-inv m e.has e.least e.frame (no-H e.why) (no-O e.why)
    where
      no-H : Ignored s m → m.kind ≡ H → Live s m.to → (s.node m.to).emitter ≡ m.from → ⊥
      no-H (inl w) k l q = w.1 q
      no-H (inr w) k l q = omega arith

      no-O : Ignored s m → m.kind ≡ O → Live s m.to → ⊥
      no-O (inl w) k l = omega arith
      no-O (inr w) k l = omega arith
