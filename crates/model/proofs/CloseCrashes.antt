-- Crashes however close together. After the last one, at tick c, a survivor whose emitter has crashed leaves it by c + 2 × W for each step
-- that it stands back, as each move goes at least one step on; so where f nodes have crashed, every emitter that is left is left by c + 2 × W × f,
-- and the O that then goes out arrives within D. Assumes nothing.
use mathlib.Core.Path.{◌≡◌, refl, ap, sym, ◌∙◌}
use mathlib.Core.Logic.{◌⊎◌, inl, inr, ◌≢◌}
use mathlib.Core.List.Memᴰ
use mathlib.Core.List.{List, [], ◌∷◌}
use mathlib.Core.Bool.{Bool, true, false, not}
use Prim.Native.Nat.{ℕ, ◌+◌, ◌-◌, ◌*◌, ◌≤◌, ◌<◌}
use native.Mathlib.Omega.{arith}
use native.Mathlib.Nat.{mul-le-mul_left}
use native.Mathlib.Decide.{ℕ_discrete, dec_lt}
use Rattle.node.specs.Node.{H, O}
use Rattle.model.specs.Platform.{InFlight}
use Rattle.ring.proofs.GoingBack.{iter, iter-out}
use Rattle.model.proofs.Events.{Seen, View, Live, Dead, ◌∈◌, Params, Crash, Watched, Report, Leaves, Moves, Alone, Step, crash, drop, idle, beat}
use Rattle.model.proofs.Events.{watched, report, moves, alone, sends, crashed, moving, left}
use Rattle.model.proofs.Invariant.{Inv, Covered, by_heartbeat, by_timer, by_observer, by_crash}
use Rattle.model.proofs.EveryEvent.{live-not-dead}
use Rattle.model.proofs.OneNode.{OnEach, each}
use Rattle.model.proofs.WatchKept.{came0}
use Rattle.model.proofs.CrashDone.{crash-now}
use Rattle.model.proofs.ObserverDelivered.{observer-all}
use Rattle.model.proofs.ReportDelivered.{report-all}
use Rattle.model.proofs.EmitterLeft.{leaves-late, moves-all, moves-sames}
use Rattle.model.proofs.Phases.{crashed_in, Up, Copied, Quiet, drop-quiet, idle-quiet, beat-quiet, sends-quiet}
use Rattle.model.proofs.WatchExpires.{first}
use Rattle.model.proofs.ReportRounds.{iter-up}
use Rattle.model.proofs.SpacedRuns.{Last, none, at, after, Passed, JoinedIn, joined_in}

module _ (p : Params) where
  -- ---- what is kept after the last crash

  -- g times what an emitter is given at most
  abbrev pub waits : ℕ → ℕ
  waits g = 2 * p.W * g

  more : (a b : ℕ) → a ≤ b → waits a ≤ waits b
  more a b h = mul-le-mul_left (2 * p.W) h

  one-at-least : (j k : ℕ) → j < p.N → k < p.N → waits 1 ≤ waits (p.gap j k)
  one-at-least j k j_n k_n = more 1 (p.gap j k) (p.gap≥1 j k j_n k_n)

  -- of every state in range
  pub record Near (s : View) : Type 0 where
    pub watch : (j : ℕ) → Live s j → (s.node j).emitter ≢ j → (s.node j).watch ≤ s.last + 2 * p.W
    pub flight : (m : InFlight) → m ∈ s.flight → (m.from < p.N) × (m.to < p.N) × (m.due ≤ s.last + p.D)

  -- node j, in the state n, leaves an emitter that stands g steps back by c + 2 × W × g
  abbrev pub LeavesBy : ℕ → ℕ → Seen → Type 0
  LeavesBy c j n = n.watch ≤ c + waits (p.gap j n.emitter)

  -- an O goes out when the emitter before is left, which is at least one step nearer
  abbrev pub ArrivesBy : ℕ → InFlight → Type 0
  ArrivesBy c m = m.due + 2 * p.W ≤ c + waits (p.gap m.from m.to) + p.D

  -- a live node whose emitter has crashed
  abbrev pub Waits : ℕ → View → ℕ → Seen → Type 0
  Waits c s j n = n.alive ≡ true → n.emitter ≢ j → Dead s n.emitter → LeavesBy c j n

  -- after the last crash, at c
  pub record Since (c : ℕ) (s : View) : Type 0 where
    -- no crash was later
    pub dead : (k : ℕ) → Dead s k → p.c k ≤ c
    pub watch : (j : ℕ) → Waits c s j (s.node j)
    pub observer : (m : InFlight) → m ∈ s.flight → m.kind ≡ O → ArrivesBy c m

  -- ---- each kind of event

  module _ (s s' : View) (i : Inv p s) where
    -- a crash: whatever is set is not beyond 2 × W, and no O beyond D
    crash-since : (t k : ℕ) → Crash p s s' t k → Near s → Inv p s' → Since t s'
    crash-since t k e near i' = record {
      dead = λ a d. rw e.frame.last' at (i'.base.dead a d).1;
      watch = all (λ j n n'. Waits t s' j n') (λ l. absurd (live-not-dead l refl)) (λ j l ne d. old j l ne);
      observer = λ m h k. on-its-way m (near.flight m (came0 s.flight m (e.frame.came m h)));
    }
      where
        all : OnEach s s' k (crashed p (s.node k))
        all = each p s s' t k _ [] [] e.frame

        now : s.last ≤ t
        now = crash-now p s s' i t k e

        old : (j : ℕ) → Live s j → (s.node j).emitter ≢ j → LeavesBy t j (s.node j)
        old j l ne = omega (arith, near.watch j l ne, now, one-at-least j _ (i.base.in_n j ne).0 (i.base.in_n j ne).1)

        on-its-way : (m : InFlight) → (m.from < p.N) × (m.to < p.N) × (m.due ≤ s.last + p.D) → ArrivesBy t m
        on-its-way m (f, to, d) = omega (arith, now, one-at-least m.from m.to f to)

    -- an event that moves no emitter: a watch stays, or is renewed by what the emitter sent before its crash
    record Unmoved (t : ℕ) : Type 0 where
      alive : (j : ℕ) → (s'.node j).alive ≡ (s.node j).alive
      emitter : (j : ℕ) → (s'.node j).emitter ≡ (s.node j).emitter
      watch : (j : ℕ)
          → ((s'.node j).watch ≡ (s.node j).watch)
          ⊎ (((s'.node j).watch ≡ t + p.W) × (p.planned (s.node j).emitter ≡ true → t < p.c (s.node j).emitter + p.D))
      old : (m : InFlight) → m ∈ s'.flight → m.kind ≡ O → m ∈ s.flight

    quiet-unmoved : (t : ℕ) → Quiet p s s' t → Unmoved t
    quiet-unmoved t q =
        record { alive = λ j. (q.core j).alive; emitter = λ j. (q.core j).emitter; watch = q.watch; old = λ m h k. old m k (q.came m h) }
      where
        old : (m : InFlight) → m.kind ≡ O → (m ∈ s.flight) ⊎ ((m.kind ≡ H) × Copied s m) → m ∈ s.flight
        old m k (inl h) = h
        old m k (inr q) = absurd (omega (arith, q.0))

    watched-unmoved : (m : InFlight) → Watched p s s' m → Unmoved m.due
    watched-unmoved m e = record {
      alive = observer-all p s s' i m e (λ j n n'. n'.alive ≡ n.alive) (sym e.live) (λ j. refl);
      emitter = observer-all p s s' i m e (λ j n n'. n'.emitter ≡ n.emitter) refl (λ j. refl);
      watch = λ j. inl (observer-all p s s' i m e (λ j n n'. n'.watch ≡ n.watch) refl (λ j. refl) j);
      old = λ g h k. came0 s.flight g (e.frame.came g h);
    }

    report-unmoved : (m : InFlight) (list' mark' : ℕ → Bool) (out : List InFlight) → Report p s s' m list' mark' out → Unmoved m.due
    report-unmoved m list' mark' out e = record {
      alive = report-all p s s' i m list' mark' out e (λ j n n'. n'.alive ≡ n.alive) (sym e.live) (λ j. refl);
      emitter = report-all p s s' i m list' mark' out e (λ j n n'. n'.emitter ≡ n.emitter) refl (λ j. refl);
      watch = λ j. inl (report-all p s s' i m list' mark' out e (λ j n n'. n'.watch ≡ n.watch) refl (λ j. refl) j);
      old = λ g h k. old g k (e.frame.came g h);
    }
      where
        old : (g : InFlight) → g.kind ≡ O → (g ∈ s.flight) ⊎ (g ∈ out) → g ∈ s.flight
        old g k (inl h) = h
        old g k (inr h) = absurd (omega (arith, e.rs.kinds g h))

    module _ (c : ℕ) (w : Since c s) where
      unmoved-since : (t : ℕ) → Unmoved t → Since c s'
      unmoved-since t u = record {
        dead = λ k d. w.dead k (sym (u.alive k) ∙ d);
        watch = λ j l ne d. by j (sym (u.alive j) ∙ l) (rw (u.emitter j) at ne) (died j d) (u.watch j);
        observer = λ m h k. w.observer m (u.old m h k) k;
      }
        where
          died : (j : ℕ) → Dead s' (s'.node j).emitter → Dead s (s.node j).emitter
          died j d = rw (u.emitter j) at (sym (u.alive _) ∙ d)

          by : (j : ℕ) → Live s j → (s.node j).emitter ≢ j → Dead s (s.node j).emitter
              → ((s'.node j).watch ≡ (s.node j).watch)
              ⊎ (((s'.node j).watch ≡ t + p.W) × (p.planned (s.node j).emitter ≡ true → t < p.c (s.node j).emitter + p.D))
              → LeavesBy c j (s'.node j)
          by j l ne d (inl q) = rw (u.emitter j, q) (w.watch j l ne d)
          by j l ne d (inr (q, sent)) =
              let ring = i.base.in_n j ne in
              rw (u.emitter j, q) (omega (arith, sent (i.base.dead _ d).0, w.dead _ d, p.W≥, one-at-least j _ ring.0 ring.1))

      -- an emitter that is left has crashed, and the watch on it was not due yet
      left_by : (t x : ℕ) (gone : List InFlight) (list' : ℕ → Bool) (y : ℕ) → Leaves p s t x gone list' y
          → t ≤ c + waits (p.gap x (s.node x).emitter)
      left_by t x gone list' y e =
          let on : (s.node x).watch_on ≡ true = ((i.timers x e.live).on e.apart).0 in
          omega (arith, e.least.watch≥ x e.live on, w.watch x e.live e.apart (leaves-late p s s' i t x gone list' y e).dead)

      moves-since : (t x : ℕ) (gone : List InFlight) (list' mark' : ℕ → Bool) (y : ℕ) (o : InFlight) (out : List InFlight)
          → Moves p s s' t x gone list' mark' y o out → Since c s'
      moves-since t x gone list' mark' y o out e = record {
        dead = λ k d. w.dead k (sym (same k) ∙ d);
        watch = λ j l ne d. all (λ j n n'. Waits c s j n') (λ l ne d. on) w.watch j l ne (sym (same _) ∙ d);
        observer = λ m h k. by m k (e.frame.came m h);
      }
        where
          all : OnEach s s' x (moving p (s.node x) list' mark' y t)
          all = moves-all p s s' i t x gone list' mark' y o out e

          same : (k : ℕ) → (s'.node k).alive ≡ (s.node k).alive
          same k = (moves-sames p s s' i t x gone list' mark' y o out e k).alive

          -- the new emitter is further back
          on : t + 2 * p.W ≤ c + waits (p.gap x y)
          on =
              let was : ℕ = p.gap x (s.node x).emitter in
              omega (arith, left_by t x gone list' y e.leaves, more (was + 1) (p.gap x y) (omega (arith, e.leaves.back.past)))

          by : (m : InFlight) → m.kind ≡ O → (m ∈ s.flight) ⊎ (m ∈ (o ∷ out)) → ArrivesBy c m
          by m k (inl h) = w.observer m h k
          by m k (inr h) = new (Memᴰ.cases_cons h)
            where
              new : (m ≡ o) ⊎ (m ∈ out) → ArrivesBy c m
              new (inl q) = rw (q, e.o-by, e.o-to) (omega (arith, e.o-within, on))
              new (inr h) = absurd (omega (arith, e.rs.kinds m h))

      alone-since : (t x : ℕ) (list' mark' : ℕ → Bool) → Alone p s s' t x list' mark' → Since c s'
      alone-since t x list' mark' e = record {
        dead = λ k d. w.dead k (sym (same k) ∙ d);
        watch = λ j l ne d. all (λ j n n'. Waits c s j n') (λ l ne. absurd (ne refl)) w.watch j l ne (sym (same _) ∙ d);
        observer = λ m h k. w.observer m (came0 s.flight m (e.frame.came m h)) k;
      }
        where
          all : OnEach s s' x (left p x list' mark')
          all = each p s s' t x _ [] [] e.frame

          same : (k : ℕ) → (s'.node k).alive ≡ (s.node k).alive
          same = all (λ j n n'. n'.alive ≡ n.alive) (sym e.leaves.live) (λ j. refl)

  -- ---- any event

  abbrev pub SinceLast : View → Last → Type 0
  SinceLast s none = Unit {0}
  SinceLast s (at c) = Since c s

  -- an event that is no crash leaves the last one where it was
  module _ (s s' : View) where
    keeps : (l : Last) → ((c : ℕ) → Since c s → Since c s') → SinceLast s l → SinceLast s' l
    keeps none f w = tt
    keeps (at c) f w = f c w

    unmoved : (i : Inv p s) (t : ℕ) → Unmoved s s' i t → (l : Last) → SinceLast s l → SinceLast s' l
    unmoved i t u l = keeps l (λ c w. unmoved-since s s' i c w t u)

    quiet : (i : Inv p s) (t : ℕ) → Quiet p s s' t → (l : Last) → SinceLast s l → SinceLast s' l
    quiet i t q = unmoved i t (quiet-unmoved s s' i t q)

    pub step-since : Inv p s → Near s → Inv p s' → (l : Last) (e : Step p s s') → SinceLast s l → SinceLast s' (after p s s' e l)
    step-since i near i' l (crash t k e) w = crash-since s s' i t k e near i'
    step-since i near i' l (drop m e) w = quiet i _ (drop-quiet p s s' i m e) l w
    step-since i near i' l (idle m e) w = quiet i _ (idle-quiet p s s' i m e) l w
    step-since i near i' l (beat m a e) w = quiet i _ (beat-quiet p s s' i m a e) l w
    step-since i near i' l (sends t x m e) w = quiet i _ (sends-quiet p s s' i t x m e) l w
    step-since i near i' l (watched m e) w = unmoved i _ (watched-unmoved s s' i m e) l w
    step-since i near i' l (report m a k o e) w = unmoved i _ (report-unmoved s s' i m a k o e) l w
    step-since i near i' l (moves t x g a k y o r e) w = keeps l (λ c w. moves-since s s' i c w t x g a k y o r e) w
    step-since i near i' l (alone t x a k e) w = keeps l (λ c w. alone-since s s' i c w t x a k e) w

  -- ---- once all that is due by c + 2 × W × f + D is done

  -- no more than f crashed nodes stand in a row
  abbrev pub InARow : View → ℕ → Type 0
  InARow s f = (j g : ℕ) → j < p.N → g ≤ p.N → ((k : ℕ) → p.gap j k ≤ g → Dead s k) → g ≤ f

  module _ (s : View) (c f u : ℕ) (i : Inv p s) (w : Since c s) (row : InARow s f) (late : c + waits f + p.D < u) (ps : Passed p s u) where
    abbrev em : ℕ → ℕ
    em j = (s.node j).emitter

    -- what a node lists has crashed, so all that is nearer than its emitter
    nearer : (j k : ℕ) → p.gap j k < p.gap j (em j) → Dead s k
    nearer j k h = (i.base.listed j k (i.base.between j k h)).dead

    -- no emitter is crashed any more
    pub emitter-up : (j : ℕ) → Up p s j → Up p s (em j)
    emitter-up j uj = go (ℕ_discrete (em j) j) (s.node (em j)).alive refl
      where
        go : Dec (em j ≡ j) → (b : Bool) → (s.node (em j)).alive ≡ b → Up p s (em j)
        go (yes q) b e = rw q uj
        go (no n) true e = ((i.base.in_n j n).1, e)
        go (no n) false e = absurd (omega (arith, ps.watch j uj.1 on, w.watch j uj.1 n e, more _ f few, late))
          where
            on : (s.node j).watch_on ≡ true
            on = ((i.timers j uj.1).on n).0

            dead : (k : ℕ) → Dec (p.gap j k < p.gap j (em j)) → p.gap j k ≤ p.gap j (em j) → Dead s k
            dead k (yes l) h = nearer j k l
            dead k (no l) h = rw (p.gap-inj j k (em j) uj.0 (omega arith)) e

            few : p.gap j (em j) ≤ f
            few = row j (p.gap j (em j)) uj.0 (p.gap≤N j (em j) uj.0 (i.base.in_n j n).1) (λ k. dead k (dec_lt (p.gap j k) (p.gap j (em j))))

    -- a survivor that is observed by a survivor knows it: the O has arrived
    pub observer-known : (y j : ℕ) → Up p s y → Live s j → em y ≡ j → (s.node j).observer ≡ y
    observer-known y j uy lj e = go (ℕ_discrete j y)
      where
        by : j ≢ y → Covered p s.flight y j (s.node y).watch (s.node j) → (s.node j).observer ≡ y
        by n (by_heartbeat m h k f t d) = rw (f, t) at (i.answered m h k (rw f lj) (rw t uy.1) (rw (t, f) e) (λ x. n (sym f ∙ x ∙ t)))
        by n (by_timer a o d) = o
        by n (by_observer a m h k fr to d) = absurd (omega (arith, ps.flight m h, rw (fr, to) at (w.observer m h k), more (p.gap y j) (f + 1) few, late))
          where
            j_n : j < p.N
            j_n = rw e at (i.base.in_n y (λ q. n (sym e ∙ q))).1

            one : 1 ≤ p.gap y j
            one = p.gap≥1 y j uy.0 j_n

            -- all that are nearer than j have crashed
            few : p.gap y j ≤ f + 1
            few = omega (arith, row y (p.gap y j - 1) uy.0 (omega (arith, p.gap≤N y j uy.0 j_n)) (λ k h. nearer y k (rw e (omega (arith, one)))))
        by n (by_crash d x) = absurd (live-not-dead lj d)

        go : Dec (j ≡ y) → (s.node j).observer ≡ y
        go (yes q) = (i.timers j lj).lone (rw (sym q) at e) ∙ q
        go (no n) = by n (i.covered y j uy.1 e n)

    -- THE CLAIM: every survivor observes the one before it and emits to the one after
    pub joined : (j : ℕ) → Up p s j → JoinedIn p s j
    joined j uj = joined_in p s i j (emitter-up j uj) (rw ob uy) (rw ob ey)
      where
        -- going back from emitter to emitter leads to every survivor, so j is observed by one
        hop : (d : ℕ) × (d < p.cnt (crashed_in s)) × (iter em d (em j) ≡ j)
        hop =
            let ue = emitter-up j uj in
            p.hops (crashed_in s) em (first p s i.base emitter-up) (em j) j ue.0 (ap not ue.1) uj.0 (ap not uj.1)

        y : ℕ
        y = iter em hop.0 j

        uy : Up p s y
        uy = iter-up p s em emitter-up hop.0 j uj

        ey : em y ≡ j
        ey = sym (iter-out em hop.0 j) ∙ hop.2

        ob : (s.node j).observer ≡ y
        ob = observer-known y j uy uj.1 ey
