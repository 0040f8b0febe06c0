-- A crash in a calm state leads to the phase in which nobody has noticed it. Assumes nothing.
use mathlib.Core.Path.{◌≡◌, refl, sym, ◌∙◌}
use mathlib.Core.Logic.{◌⊎◌, inl, inr, ◌≢◌}
use mathlib.Core.List.{[]}
use Prim.Native.Nat.{ℕ, ◌<◌}
use native.Mathlib.Omega.{arith}
use native.Mathlib.Decide.{ℕ_discrete}
use Rattle.node.specs.Node.{O, R}
use Rattle.model.specs.Platform.{InFlight}
use Rattle.model.proofs.Events.{View, Live, Dead, ◌∈◌, Params, Crash, crashed}
use Rattle.model.proofs.Invariant.{Inv, Gone}
use Rattle.model.proofs.EveryEvent.{live-not-dead}
use Rattle.model.proofs.OneState.{not-alone, one-watcher, live-unlisted}
use Rattle.model.proofs.OneNode.{OnEach, each}
use Rattle.model.proofs.WatchKept.{came0}
use Rattle.model.proofs.CrashDone.{crash-alike}
use Rattle.model.proofs.Phases.{Told, Up, Calm, Unnoticed}

module _ (p : Params) (s s' : View) (i : Inv p s) where
  module _ (t z : ℕ) (e : Crash p s s' t z) (c : Calm p s) where
    all : OnEach s s' z (crashed p (s.node z))
    all = each p s s' t z _ [] [] e.frame

    em-same : (j : ℕ) → (s'.node j).emitter ≡ (s.node j).emitter
    em-same = all (λ j n n'. n'.emitter ≡ n.emitter) refl (λ j. refl)

    observer-same : (j : ℕ) → (s'.node j).observer ≡ (s.node j).observer
    observer-same = all (λ j n n'. n'.observer ≡ n.observer) refl (λ j. refl)

    w-same : (j : ℕ) → (s'.node j).watch ≡ (s.node j).watch
    w-same = all (λ j n n'. n'.watch ≡ n.watch) refl (λ j. refl)

    list_same : (j : ℕ) → (s'.node j).list ≡ (s.node j).list
    list_same = all (λ j n n'. n'.list ≡ n.list) refl (λ j. refl)

    z-dead : Dead s' z
    z-dead = rw e.frame.here

    z_n : z < p.N
    z_n = p.planned-N z e.plan

    upz : Up p s z
    upz = (z_n, e.live)

    up' : (j : ℕ) → Up p s' j → Up p s j
    up' j u = (u.0, (crash-alike p s s' i t z e).alive j u.1)

    not-z : (j : ℕ) → Live s' j → j ≢ z
    not-z j l q = live-not-dead l (rw q z-dead)

    up : (j : ℕ) → Up p s j → j ≢ z → Up p s' j
    up j u n = (u.0, rw (e.frame.other j n) u.1)

    dead' : (k : ℕ) → Dead s' k → k ≢ z → Dead s k
    dead' k d n = rw (e.frame.other k n) at d

    kinds' : (m : InFlight) → m ∈ s'.flight → (m.kind ≢ O) × (m.kind ≢ R)
    kinds' m h = c.kinds m (came0 s.flight m (e.frame.came m h))

    -- z was the last
    gone : (s.node z).emitter ≡ z → (j : ℕ) → Up p s' j → ⊥
    gone q j u = not-alone p s i.base j z (up' j u).1 (λ r. not-z j u.1 (sym r)) u.0 z_n q

    last : (s.node z).observer ≡ z → Calm p s'
    last q =
        let no : (j : ℕ) → Up p s' j → ⊥ = gone (rw q at (c.observer z upz).1) in
        record {
          lists = λ j k u. absurd (no j u);
          emitter = λ j u. absurd (no j u);
          observer = λ j u. absurd (no j u);
          kinds = kinds';
          watch = λ j u. absurd (no j u);
        }

    more : (s.node z).observer ≢ z → Unnoticed p z t (s.node z).observer s'
    more n =
        let q : ℕ = (s.node z).observer in
        let uq : Up p s q = (c.observer z upz).0 in
        let eq : (s.node q).emitter ≡ z = (c.observer z upz).1 in
        record {
          up = up q uq n;
          dead = z-dead;
          z_n = z_n;
          at = e.at;
          of = em-same q ∙ eq;
          lists = λ j k u d nk. rw (list_same j) (c.lists j k (up' j u) (dead' k d nk));
          unknown = λ j h. live-unlisted p s i.base j z (rw (list_same j) at h) e.live;
          untold = λ h. live-not-dead e.live (carried-gone h).dead;
          emitter = λ j u nq.
              rw (em-same j) (up _ (c.emitter j (up' j u)) (λ r. nq (one-watcher p s i.base j q z (up' j u).1 uq.1 r eq (not-z j u.1) n)));
          observer = λ j u. rw (observer-same j) (obs j u (ℕ_discrete (s.node j).observer z));
          prev = rw (em-same z) (up _ (c.emitter z upz) (λ r. gone r q (up q uq n)));
          kinds = kinds';
          wq = rw (w-same q) (omega (arith, c.watch q uq (λ r. n (sym r ∙ eq)), i.base.undone z e.live e.plan, e.at, p.D≥1));
          watch = λ j u nq ne. rw (w-same j, e.frame.last')
              (omega (arith, c.watch j (up' j u) (λ r. ne (em-same j ∙ r)), i.base.undone z e.live e.plan, e.at));
        }
      where
        -- z lived until now, so nothing in flight carries it
        carried-gone : Told s' z → Gone p s z
        carried-gone h = i.base.carried h.m (came0 s.flight h.m (e.frame.came h.m h.has)) h.kind z h.carries

        obs : (j : ℕ) → Up p s' j → Dec ((s.node j).observer ≡ z)
            → (Up p s' (s.node j).observer × ((s'.node (s.node j).observer).emitter ≡ j)) ⊎ ((s'.node z).emitter ≡ j)
        obs j u (yes r) = inr (em-same z ∙ (rw r at (c.observer j (up' j u)).1))
        obs j u (no r) = inl (up _ (c.observer j (up' j u)).0 r, em-same _ ∙ (c.observer j (up' j u)).1)

    pub crash-calm : Calm p s' ⊎ ((q : ℕ) × Unnoticed p z t q s')
    crash-calm = go (ℕ_discrete (s.node z).observer z)
      where
        go : Dec ((s.node z).observer ≡ z) → Calm p s' ⊎ ((q : ℕ) × Unnoticed p z t q s')
        go (yes q) = inl (last q)
        go (no n) = inr ((s.node z).observer, more n)
