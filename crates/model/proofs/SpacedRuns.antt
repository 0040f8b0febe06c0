-- A run whose crashes are spaced is in one of the phases, and S ticks after a crash every survivor is settled. Assumes nothing.
use mathlib.Core.Path.{◌≡◌, sym, ◌∙◌}
use mathlib.Core.Logic.{◌⊎◌, inl, inr}
use mathlib.Core.List.Memᴰ
use mathlib.Core.List.{List, []}
use mathlib.Core.Bool.{Bool, true}
use Prim.Native.Nat.{ℕ, ◌+◌, ◌≤◌, ◌<◌}
use native.Mathlib.Omega.{arith}
use native.Mathlib.Decide.{ℕ_discrete}
use Rattle.model.specs.Platform.{InFlight}
use Rattle.model.proofs.Events.{View, Live, Dead, Lists, ◌∈◌, Params, Leaves, Crash, Step, crash, drop, idle, beat, watched, report, moves, alone}
use Rattle.model.proofs.Events.{sends}
use Rattle.model.proofs.Invariant.{Inv}
use Rattle.model.proofs.EveryEvent.{live-not-dead}
use Rattle.model.proofs.EmitterLeft.{leaves-late}
use Rattle.model.proofs.InvariantKept.{step-inv, Opened, opened-inv}
use Rattle.model.proofs.Phases.{span, crashed_in, Up, Calm, Unnoticed, Spreading, Quiet, drop-quiet, idle-quiet, beat-quiet, sends-quiet}
use Rattle.model.proofs.QuietEvents.{calm-quiet, unnoticed-quiet, spreading-quiet}
use Rattle.model.proofs.CrashFromCalm.{crash-calm}
use Rattle.model.proofs.WatchExpires.{moves-spreading, alone-calm}
use Rattle.model.proofs.ReportRounds.{settled, observer-spreading, report-spreading}

-- the tick of the last crash done
pub data Last : Type 0 where
  none : Last
  at : ℕ → Last

module _ (p : Params) where
  abbrev pub after : (s s' : View) → Step p s s' → Last → Last
  after s s' (crash t k e) l = at t
  after s s' (drop m e) l = l
  after s s' (idle m e) l = l
  after s s' (beat m a e) l = l
  after s s' (watched m e) l = l
  after s s' (report m a b o e) l = l
  after s s' (moves t x g a b y o r e) l = l
  after s s' (alone t x a b e) l = l
  after s s' (sends t x m e) l = l

  -- where the step is a crash, it comes S ticks or more after the one before
  abbrev pub SpacedStep : (s s' : View) → Step p s s' → Last → Type 0
  SpacedStep s s' (crash t k e) none = Unit {0}
  SpacedStep s s' (crash t k e) (at c) = c + span p (p.cnt (crashed_in s)) ≤ t
  SpacedStep s s' (drop m e) l = Unit {0}
  SpacedStep s s' (idle m e) l = Unit {0}
  SpacedStep s s' (beat m a e) l = Unit {0}
  SpacedStep s s' (watched m e) l = Unit {0}
  SpacedStep s s' (report m a b o e) l = Unit {0}
  SpacedStep s s' (moves t x g a b y o r e) l = Unit {0}
  SpacedStep s s' (alone t x a b e) l = Unit {0}
  SpacedStep s s' (sends t x m e) l = Unit {0}

  pub data Run : View → Last → Type 0 where
    opened : {s : View} → Opened p s → Run s none
    next : {s s' : View} {l : Last} → Run s l → (e : Step p s s') → SpacedStep s s' e l → Run s' (after s s' e l)

  pub data Phase (s : View) : Last → Type 0 where
    calm : {l : Last} → Calm p s → Phase s l
    unnoticed : {c : ℕ} → (z q : ℕ) → Unnoticed p z c q s → Phase s (at c)
    spreading : {c : ℕ} → (z T q m : ℕ) (f : ℕ → ℕ) → Spreading p z c T q m f s → Phase s (at c)

  -- where nothing is left before S ticks after the last crash, all is calm
  pub late-calm : (s : View) (c u : ℕ) → Inv p s → Phase s (at c) → c + span p (p.cnt (crashed_in s)) ≤ u
      → ((g : InFlight) → g ∈ s.flight → u ≤ g.due)
      → ((j : ℕ) → Live s j → (s.node j).watch_on ≡ true → u ≤ (s.node j).watch)
      → ((j : ℕ) → Live s j → (s.node j).heartbeat_on ≡ true → u ≤ (s.node j).heartbeat) → Calm p s
  late-calm s c u i (calm x) cu pm pw ph = x
  late-calm s c u i (unnoticed z q a) cu pm pw ph =
      absurd (omega (arith, a.wq, pw q a.up.1 ((i.timers q a.up.1).on (λ r. live-not-dead a.up.1 (rw (sym r ∙ a.of) a.dead))).0))
  late-calm s c u i (spreading z T q m f b) cu pm pw ph = settled p s i z c T q m f b u (rw b.count at cu) pm ph

  module _ (s s' : View) (i : Inv p s) where
    crashes : (t k : ℕ) → Crash p s s' t k → Calm p s → Phase s' (at t)
    crashes t k e c = go (crash-calm p s s' i t k e c)
      where
        go : Calm p s' ⊎ ((q : ℕ) × Unnoticed p k t q s') → Phase s' (at t)
        go (inl x) = calm x
        go (inr x) = unnoticed k x.0 x.1

    quiet : (t : ℕ) (l : Last) → Quiet p s s' t → Phase s l → Phase s' l
    quiet t l e (calm x) = calm (calm-quiet p s s' t i e x)
    quiet t l e (unnoticed z q a) = unnoticed z q (unnoticed-quiet p s s' t i e z _ q a)
    quiet t l e (spreading z T q m f b) = spreading z T q m f (spreading-quiet p s s' t i e z _ T q m f b)

    -- only a crashed node is left, so only while a crash is unnoticed
    no-leaving : (t x : ℕ) (g : List InFlight) (a : ℕ → Bool) (y : ℕ) → Leaves p s t x g a y
        → ((j : ℕ) → Up p s j → Up p s (s.node j).emitter) → ⊥
    no-leaving t x g a y e up =
        live-not-dead (up x ((i.base.in_n x e.apart).0, e.live)).1 (leaves-late p s s' i t x g a y e).dead

    pub step-phase : (l : Last) (e : Step p s s') → SpacedStep s s' e l → Phase s l → Phase s' (after s s' e l)
    step-phase none (crash t k e) sp (calm x) = crashes t k e x
    step-phase (at c) (crash t k e) sp ph = crashes t k e (late-calm s c t i ph sp e.least.message≥ e.least.watch≥ e.least.heartbeat≥)
    step-phase l (drop m e) sp ph = quiet _ l (drop-quiet p s s' i m e) ph
    step-phase l (idle m e) sp ph = quiet _ l (idle-quiet p s s' i m e) ph
    step-phase l (beat m a e) sp ph = quiet _ l (beat-quiet p s s' i m a e) ph
    step-phase l (sends t x m e) sp ph = quiet _ l (sends-quiet p s s' i t x m e) ph
    step-phase l (watched m e) sp (calm x) = absurd ((x.kinds m e.has).0 e.kind)
    step-phase l (watched m e) sp (unnoticed z q a) = absurd ((a.kinds m e.has).0 e.kind)
    step-phase l (watched m e) sp (spreading z T q n f b) = spreading z T q n f (observer-spreading p s i z _ T q n f b s' m e)
    step-phase l (report m a k o e) sp (calm x) = absurd ((x.kinds m e.has).1 e.kind)
    step-phase l (report m a k o e) sp (unnoticed z q x) = absurd ((x.kinds m e.has).1 e.kind)
    step-phase l (report m a k o e) sp (spreading z T q n f b) = spreading z T q n f (report-spreading p s i z _ T q n f b s' m a k o e)
    step-phase l (moves t x g a k y o r e) sp (calm c) = absurd (no-leaving t x g a y e.leaves c.emitter)
    step-phase l (moves t x g a k y o r e) sp (unnoticed z q h) =
        spreading z t x _ _ (moves-spreading p s s' i (step-inv p s s' i (moves t x g a k y o r e)) z _ q h t x g a k y o r e)
    step-phase l (moves t x g a k y o r e) sp (spreading z T q n f b) = absurd (no-leaving t x g a y e.leaves (λ j u. rw (b.em-is j) (b.emitter j u)))
    step-phase l (alone t x a k e) sp (calm c) = absurd (no-leaving t x [] a x e.leaves c.emitter)
    step-phase l (alone t x a k e) sp (unnoticed z q h) = calm (alone-calm p s s' i (step-inv p s s' i (alone t x a k e)) z _ q h t x a k e)
    step-phase l (alone t x a k e) sp (spreading z T q n f b) = absurd (no-leaving t x [] a x e.leaves (λ j u. rw (b.em-is j) (b.emitter j u)))

  pub opened-calm : (s : View) → Opened p s → Calm p s
  opened-calm s o = record {
    lists = λ j k u d. absurd (live-not-dead (o.live k) d);
    emitter = λ j u. (em_n j u.0 (ℕ_discrete (s.node j).emitter j), o.live _);
    observer = λ j u. ((ob_n j u.0 (ℕ_discrete (s.node j).observer j), o.live _), o.mutual-r j);
    kinds = λ g h. absurd (Memᴰ.not-nil (rw o.flight at h));
    watch = λ j u n. omega (arith, (o.watch j n).1);
  }
    where
      em_n : (j : ℕ) → j < p.N → Dec ((s.node j).emitter ≡ j) → (s.node j).emitter < p.N
      em_n j h (yes r) = rw r h
      em_n j h (no n) = (o.in_n j n).1

      ob_n : (j : ℕ) → j < p.N → Dec ((s.node j).observer ≡ j) → (s.node j).observer < p.N
      ob_n j h (yes r) = rw r h
      ob_n j h (no n) = (o.in_n (s.node j).observer (λ q. n (sym q ∙ o.mutual-r j))).0

  pub run-inv : {s : View} {l : Last} → Run s l → Inv p s
  run-inv (opened {s = s} o) = opened-inv p s o
  run-inv (next {s = s} {s' = s'} r e sp) = step-inv p s s' (run-inv r) e

  pub run-phase : {s : View} {l : Last} → Run s l → Phase s l
  run-phase (opened {s = s} o) = calm (opened-calm s o)
  run-phase (next {s = s} {s' = s'} {l = l} r e sp) = step-phase s s' (run-inv r) l e sp (run-phase r)

  -- j observes the survivor before it and emits to the one after
  pub record JoinedIn (s : View) (j : ℕ) : Type 0 where
    pub observes : Up p s (s.node j).emitter
    pub before : (k : ℕ) → p.gap j k < p.gap j (s.node j).emitter → Dead s k
    pub emits : Up p s (s.node j).observer
    pub ahead : (k : ℕ) → p.gap (s.node j).observer k < p.gap (s.node j).observer j → Dead s k

  -- where both are survivors and the observer observes j: what lies between a node and its emitter is listed, so has crashed
  pub joined_in : (s : View) → Inv p s → (j : ℕ) → Up p s (s.node j).emitter → Up p s (s.node j).observer
      → (s.node (s.node j).observer).emitter ≡ j → JoinedIn s j
  joined_in s i j em ob answers = record {
    observes = em;
    before = λ k h. (i.base.listed j k (i.base.between j k h)).dead;
    emits = ob;
    ahead = λ k h. (i.base.listed _ k (i.base.between (s.node j).observer k (rw answers h))).dead;
  }

  -- j is joined, and lists exactly the crashed nodes
  pub record SettledIn (s : View) (j : ℕ) : Type 0 where
    pub sound : (k : ℕ) → Lists s j k → Dead s k
    pub full : (k : ℕ) → Dead s k → Lists s j k
    pub joined : JoinedIn s j

  -- nothing is left before u
  pub record Passed (s : View) (u : ℕ) : Type 0 where
    pub flight : (g : InFlight) → g ∈ s.flight → u ≤ g.due
    pub watch : (j : ℕ) → Live s j → (s.node j).watch_on ≡ true → u ≤ (s.node j).watch
    pub heartbeat : (j : ℕ) → Live s j → (s.node j).heartbeat_on ≡ true → u ≤ (s.node j).heartbeat

  pub settles : {s : View} {c : ℕ} → Run s (at c) → Passed s (c + span p (p.cnt (crashed_in s))) → (j : ℕ) → Up p s j → SettledIn s j
  settles {s} {c} r ps j u = record {
    sound = λ k h. (i.base.listed j k h).dead;
    full = λ k d. cm.lists j k u d;
    joined = joined_in s i j (cm.emitter j u) (cm.observer j u).0 (cm.observer j u).1;
  }
    where
      i : Inv p s
      i = run-inv r

      cm : Calm p s
      cm = late-calm s c (c + span p (p.cnt (crashed_in s))) i (run-phase r) (omega arith) ps.flight ps.watch ps.heartbeat
