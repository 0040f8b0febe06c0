-- The invariant holds at opening, and every event keeps it. Assumes nothing.
use mathlib.Core.Path.{◌≡◌, sym, ◌∙◌}
use mathlib.Core.Logic.{inl, ◌≢◌}
use mathlib.Core.List.Memᴰ
use mathlib.Core.List.{[]}
use mathlib.Core.Bool.{true, false}
use Prim.Native.Nat.{ℕ, ◌+◌, ◌≤◌, ◌<◌}
use native.Mathlib.Omega.{arith}
use native.Mathlib.Decide.{ℕ_discrete}
use Rattle.model.specs.Platform.{InFlight}
use Rattle.model.proofs.Events.{View, Live, ◌∈◌, Params, Step, crash, drop, idle, beat, watched, report, moves, alone, sends}
use Rattle.model.proofs.Invariant.{Inv, Timers, by_timer}
use Rattle.model.proofs.EveryEvent.{live-not-dead}
use Rattle.model.proofs.CrashDone.{crash-inv}
use Rattle.model.proofs.MessageIgnored.{drop-inv, idle-inv}
use Rattle.model.proofs.HeartbeatDelivered.{beat-inv}
use Rattle.model.proofs.ObserverDelivered.{observer-inv}
use Rattle.model.proofs.ReportDelivered.{report-inv}
use Rattle.model.proofs.EmitterLeft.{moves-inv, alone-inv}
use Rattle.model.proofs.HeartbeatDue.{sends-inv}

module _ (p : Params) where
  pub step-inv : (s s' : View) → Inv p s → Step p s s' → Inv p s'
  step-inv s s' i (crash t k e) = crash-inv p s s' i t k e
  step-inv s s' i (drop m e) = drop-inv p s s' i m e
  step-inv s s' i (idle m e) = idle-inv p s s' i m e
  step-inv s s' i (beat m list' e) = beat-inv p s s' i m list' e
  step-inv s s' i (watched m e) = observer-inv p s s' i m e
  step-inv s s' i (report m list' mark' out e) = report-inv p s s' i m list' mark' out e
  step-inv s s' i (moves t x gone list' mark' y o out e) = moves-inv p s s' i t x gone list' mark' y o out e
  step-inv s s' i (alone t x list' mark' e) = alone-inv p s s' i t x list' mark' e
  step-inv s s' i (sends t x m e) = sends-inv p s s' i t x m e

  -- the opening: each node observes the one before and sends to the one after
  pub record Opened (s : View) : Type 0 where
    pub last : s.last ≡ 0
    pub flight : s.flight ≡ []
    pub live : (j : ℕ) → Live s j
    pub empty : (j k : ℕ) → (s.node j).list k ≡ false
    pub unmarked : (j k : ℕ) → (s.node j).mark k ≡ false
    pub in_n : (j : ℕ) → (s.node j).emitter ≢ j → (j < p.N) × ((s.node j).emitter < p.N)
    pub before : (j k : ℕ) → p.gap j (s.node j).emitter ≤ p.gap j k
    pub mutual-l : (j : ℕ) → (s.node (s.node j).emitter).observer ≡ j
    pub mutual-r : (j : ℕ) → (s.node (s.node j).observer).emitter ≡ j
    pub watch : (j : ℕ) → (s.node j).emitter ≢ j → ((s.node j).watch_on ≡ true) × ((s.node j).watch ≡ p.W)
    pub heartbeat : (j : ℕ) → (s.node j).emitter ≢ j → ((s.node j).heartbeat_on ≡ true) × ((s.node j).heartbeat ≡ p.H)
    pub off : (j : ℕ) → (s.node j).emitter ≡ j → ((s.node j).watch_on ≡ false) × ((s.node j).heartbeat_on ≡ false)

  pub opened-inv : (s : View) → Opened s → Inv p s
  opened-inv s o = record {
    base = record {
      in_n = o.in_n;
      dead = λ k d. absurd (live-not-dead (o.live k) d);
      between = λ j k h. absurd (omega (arith, o.before j k));
      listed = λ j k l. absurd (live-not-dead l (o.empty j k));
      reported = λ m h. absurd (none m h);
      carried = λ m h. absurd (none m h);
      marked = λ j k l. absurd (live-not-dead l (o.unmarked j k));
      m-due = λ m h. absurd (none m h);
      m-from = λ m h. absurd (none m h);
      m-H = λ m h. absurd (none m h);
      m-O = λ m h. absurd (none m h);
      m-self = λ m h. absurd (none m h);
      m-N = λ m h. absurd (none m h);
      observer = λ a. inl (o.mutual-r a);
      undone = λ k l pl. omega (arith, o.last);
    };
    timers = λ j l. tm j (ℕ_discrete (s.node j).emitter j);
    answered = λ m h. absurd (none m h);
    covered = λ j i l e ne. by_timer (o.live i) (rw (sym e) (o.mutual-l j)) (go j i e ne (ℕ_discrete (s.node i).emitter i));
  }
    where
      none : (m : InFlight) → m ∈ s.flight → ⊥
      none m h = Memᴰ.not-nil (rw o.flight at h)

      go : (j i : ℕ) → (s.node j).emitter ≡ i → i ≢ j → Dec ((s.node i).emitter ≡ i) → (s.node i).heartbeat + p.D ≤ (s.node j).watch
      go j i e ne (no n) = omega (arith, (o.heartbeat i n).1, (o.watch j (λ q. ne (sym e ∙ q))).1, p.W≥)
      go j i e ne (yes q) = absurd (ne (sym (rw q at (o.mutual-l i)) ∙ (rw e at (o.mutual-l j))))

      tm : (j : ℕ) → Dec ((s.node j).emitter ≡ j) → Timers p s.last j (s.node j)
      tm j (no n) = record {
        on = λ ne. ((o.watch j n).0, (o.heartbeat j n).0);
        off = λ q. n;
        watch≥ = λ q. omega (arith, o.last);
        heartbeat≥ = λ q. omega (arith, o.last);
        heartbeat≤ = λ q. omega (arith, (o.heartbeat j n).1, o.last);
        to = λ q r. n (rw r at (o.mutual-r j));
        lone = λ q. absurd (n q);
      }
      tm j (yes q) = record {
        on = λ ne. absurd (ne q);
        off = λ x. absurd (live-not-dead x (o.off j q).0);
        watch≥ = λ x. absurd (live-not-dead x (o.off j q).0);
        heartbeat≥ = λ x. absurd (live-not-dead x (o.off j q).1);
        heartbeat≤ = λ x. absurd (live-not-dead x (o.off j q).1);
        to = λ x. absurd (live-not-dead x (o.off j q).1);
        lone = λ r. rw q at (o.mutual-l j);
      }
