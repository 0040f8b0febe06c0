-- Lists after crashes however close together. Once what is due by the bound of CloseCrashes is done, the survivor after a crashed node lists
-- it, and each heartbeat brings its sender's list one survivor on: it goes out within H and arrives within D. So where m nodes survive, every one
-- of them lists every crashed node m - 1 such rounds later. Assumes nothing.
use mathlib.Core.Path.{◌≡◌, refl, ap, sym, ◌∙◌, subst, fun_ext}
use mathlib.Core.Logic.{◌⊎◌, inl, inr, ◌≢◌}
use mathlib.Core.List.Memᴰ
use mathlib.Core.List.{List, [], ◌∷◌}
use mathlib.Core.Bool.{Bool, true, false, not}
use Prim.Native.Nat.{ℕ, zero, suc, ◌+◌, ◌-◌, ◌*◌, ◌≤◌, ◌<◌}
use native.Mathlib.Omega.{arith}
use native.Mathlib.Nat.{mul-le-mul_right}
use native.Mathlib.Decide.{ℕ_discrete, dec_lt}
use Rattle.ring.specs.Ring.{listed}
use Rattle.node.specs.Node.{H}
use Rattle.model.specs.Platform.{InFlight}
use Rattle.ring.proofs.GoingBack.{iter}
use Rattle.model.proofs.Events.{Seen, View, Live, Dead, Lists, Carries, ◌∈◌, Ignored, Params, Least, AtMessage, Frame, Drop, Idle, Beat, Watched}
use Rattle.model.proofs.Events.{Report, Leaves, Sends, Step, crash, drop, idle, beat, watched, report, moves, alone, sends}
use Rattle.model.proofs.Invariant.{Inv}
use Rattle.model.proofs.EveryEvent.{live-not-dead}
use Rattle.model.proofs.OneState.{emitter-beats}
use Rattle.model.proofs.OneNode.{OnEach, each}
use Rattle.model.proofs.EmitterLeft.{leaves-late}
use Rattle.model.proofs.Phases.{crashed_in, Up}
use Rattle.model.proofs.WatchExpires.{first}
use Rattle.model.proofs.SpacedRuns.{Last, none, at, after, Passed, SettledIn}
use Rattle.model.proofs.CloseCrashes.{waits, Near, Since, SinceLast, step-since, InARow, emitter-up, observer-known, joined}

-- the node that j observes
abbrev pub em : View → ℕ → ℕ
em s j = (s.node j).emitter

-- the receiver of m lists what m carries
abbrev pub Taken : View → InFlight → Type 0
Taken s m = (k : ℕ) → Carries m k → k ≢ m.to → k ≢ m.from → Lists s m.to k

module _ (p : Params) where
  -- ---- what is kept after the bound of CloseCrashes

  abbrev pub bound : ℕ → ℕ → ℕ
  bound c f = c + waits p f + p.D

  -- the ticks of d heartbeats, each sent once the one before has arrived
  abbrev pub rounds : ℕ → ℕ
  rounds d = d * (p.H + p.D)

  -- how x comes to list k in the round after T, where its emitter lists it: it does already; or by a heartbeat that is on its way to it; or
  -- by one that its emitter will send
  pub data Comes (s : View) (k x T : ℕ) : Type 0 where
    known : Lists s x k → Comes s k x T
    by_heartbeat : (m : InFlight) → m ∈ s.flight → m.kind ≡ H → m.from ≡ em s x → m.to ≡ x → Carries m k → m.due ≤ T + p.H + p.D
        → Comes s k x T
    by_timer : (s.node (em s x)).heartbeat ≤ T + p.H → Comes s k x T

  -- q is the survivor after the crashed node k
  abbrev pub After : View → ℕ → ℕ → Type 0
  After s k q = Up p s q × (p.gap q k < p.gap q (em s q))

  -- the list of q goes round from B on: to x, whose emitter stands d survivors after q, in the round after d rounds
  abbrev pub Spread : ℕ → View → Type 0
  Spread B s = (q k x d : ℕ) → After s k q → Up p s x → iter (em s) (suc d) x ≡ q → Lists s (em s x) k → Comes s k x (B + rounds d)

  -- after the last crash, at c, and past the bound
  abbrev pub Spreads : ℕ → View → Type 0
  Spreads c s = (f : ℕ) → InARow p s f → bound c f < s.last → Spread (bound c f) s

  -- ---- where no survivor observes a crashed node

  module _ (s : View) (i : Inv p s) (up : (j : ℕ) → Up p s j → Up p s (em s j)) where
    beats : (x : ℕ) → Up p s x → em s x ≢ x → (s.node (em s x)).heartbeat_on ≡ true
    beats x ux ne = emitter-beats p s i x (em s x) ux.1 refl ne (up x ux).1

    -- it begins at the bound: every heartbeat is due within H
    begins : (B : ℕ) → s.last ≤ B → Spread B s
    begins B h q k x d nx ux hd l = go (ℕ_discrete (em s x) x)
      where
        go : Dec (em s x ≡ x) → Comes s k x (B + rounds d)
        go (yes e) = known (rw e at l)
        go (no n) = by_timer (omega (arith, (i.timers (em s x) (up x ux).1).heartbeat≤ (beats x ux n)))

    -- once d rounds are over, the node that stands d survivors after q lists k
    heard : (B u q k : ℕ) → Spread B s → Passed p s u → After s k q
        → (d y : ℕ) → B + rounds d < u → Up p s y → iter (em s) d y ≡ q → Lists s y k
    heard B u q k sp ps nx zero y late uy hd = rw hd (i.base.between q k nx.1)
    heard B u q k sp ps nx (suc d) y late uy hd = go (heard B u q k sp ps nx d (em s y) (omega arith) (up y uy) hd)
      where
        go : Lists s (em s y) k → Lists s y k
        go l = by (ℕ_discrete (em s y) y) (sp q k y d nx uy hd l)
          where
            by : Dec (em s y ≡ y) → Comes s k y (B + rounds d) → Lists s y k
            by e (known h) = h
            by e (by_heartbeat m h kd fr to c due) = absurd (omega (arith, ps.flight m h))
            by (yes e) (by_timer h) = rw e at l
            by (no n) (by_timer h) = absurd (omega (arith, p.D≥1, ps.heartbeat (em s y) (up y uy).1 (beats y uy n)))

    -- going back from any survivor j leads to the one after k
    after-gap : (k : ℕ) → k < p.N → Dead s k → (n j : ℕ) → Up p s j → p.gap j k ≤ n → (q : ℕ) × After s k q
    after-gap k k_n d zero j uj h = absurd (omega (arith, p.gap≥1 j k uj.0 k_n))
    after-gap k k_n d (suc n) j uj h =
        go (dec_lt (p.gap j k) (p.gap j (em s j))) (dec_lt (p.gap j (em s j)) (p.gap j k)) (λ x. after-gap k k_n d n (em s j) (up j uj) x)
      where
        ue : Up p s (em s j)
        ue = up j uj

        go : Dec (p.gap j k < p.gap j (em s j)) → Dec (p.gap j (em s j) < p.gap j k) → (p.gap (em s j) k ≤ n → (q : ℕ) × After s k q)
            → (q : ℕ) × After s k q
        go (yes a) b further = (j, (uj, a))
        go (no a) (yes b) further =
            further (omega (arith, p.gap-add j (em s j) k uj.0 ue.0 k_n b, p.gap≥1 j (em s j) uj.0 ue.0))
        go (no a) (no b) further = absurd (live-not-dead ue.1 (rw (p.gap-inj j (em s j) k uj.0 (omega arith)) d))

  -- ---- each kind of event

  module _ (s s' : View) where
    -- a heartbeat that j, then in the state n, has just sent
    record Said (j : ℕ) (n : Seen) : Type 0 where
      m : InFlight
      has : m ∈ s'.flight
      kind : m.kind ≡ H
      from : m.from ≡ j
      to : m.to ≡ n.observer
      carries : (k : ℕ) → listed m.list k ≡ n.list k
      due : m.due ≤ n.heartbeat + p.D

    -- the next heartbeat is due no later, or one was just sent
    abbrev Beats : ℕ → Seen → Seen → Type 0
    Beats j n n' = n.alive ≡ true → n.heartbeat_on ≡ true → (n'.heartbeat ≤ n.heartbeat) ⊎ Said j n

    -- a heartbeat to a live node from its emitter
    abbrev Awaited : InFlight → Type 0
    Awaited m = (m.kind ≡ H) × Live s m.to × (em s m.to ≡ m.from)

    -- an event by which no node crashes or leaves its emitter
    record Steady (t : ℕ) : Type 0 where
      last' : s'.last ≡ t
      alive : (j : ℕ) → (s'.node j).alive ≡ (s.node j).alive
      emitter : (j : ℕ) → em s' j ≡ em s j
      list : (j k : ℕ) → Lists s j k → Lists s' j k
      heartbeat : (j : ℕ) → Beats j (s.node j) (s'.node j)
      keep_h : (m : InFlight) → m ∈ s.flight → Awaited m → (m ∈ s'.flight) ⊎ Taken s' m
      passed : Passed p s t

    -- the same of the one node that it changes
    record SteadyAt (x : ℕ) (n' : Seen) (gone : List InFlight) : Type 0 where
      alive : n'.alive ≡ (s.node x).alive
      emitter : n'.emitter ≡ em s x
      list : (k : ℕ) → Lists s x k → n'.list k ≡ true
      heartbeat : Beats x (s.node x) n'
      taken : (m : InFlight) → m ∈ gone → Awaited m → Taken s' m

    -- nothing is left before the event
    pending : (t msg cr : ℕ) → Least p s t msg cr → t ≤ msg → Passed p s t
    pending t msg cr le h = record { flight = λ m x. omega (arith, le.message≥ m x); watch = le.watch≥; heartbeat = le.heartbeat≥ }

    steady : (t x : ℕ) (n' : Seen) (gone out : List InFlight) → Frame p s s' t x n' gone out → (msg cr : ℕ) → Least p s t msg cr → t ≤ msg
        → SteadyAt x n' gone → Steady t
    steady t x n' gone out f msg cr le tm a = record {
      last' = f.last';
      alive = all (λ j n n'. n'.alive ≡ n.alive) a.alive (λ j. refl);
      emitter = all (λ j n n'. n'.emitter ≡ n.emitter) a.emitter (λ j. refl);
      list = all (λ j n n'. (k : ℕ) → n.list k ≡ true → n'.list k ≡ true) a.list (λ j k h. h);
      heartbeat = all Beats a.heartbeat (λ j l o. inl (omega arith));
      keep_h = λ m h w. kept m w (f.keep m h);
      passed = pending t msg cr le tm;
    }
      where
        all : OnEach s s' x n'
        all = each p s s' t x n' gone out f

        kept : (m : InFlight) → Awaited m → (m ∈ gone) ⊎ (m ∈ s'.flight) → (m ∈ s'.flight) ⊎ Taken s' m
        kept m w (inr h) = inl h
        kept m w (inl h) = inr (a.taken m h w)

    -- the delivery of m
    delivered : (m : InFlight) (n' : Seen) (out : List InFlight) → Frame p s s' m.due m.to n' (m ∷ []) out → AtMessage p s m.due
        → n'.alive ≡ (s.node m.to).alive → n'.emitter ≡ em s m.to → ((k : ℕ) → Lists s m.to k → n'.list k ≡ true)
        → Beats m.to (s.node m.to) n' → (Awaited m → Taken s' m) → Steady m.due
    delivered m n' out f le al e li b tk = steady m.due m.to n' (m ∷ []) out f _ _ le (omega arith) record {
      alive = al;
      emitter = e;
      list = li;
      heartbeat = b;
      taken = λ g h. let q : g ≡ m = Memᴰ.eq_of_singleton h in rw q tk;
    }

    drop-steady : (m : InFlight) → Drop p s s' m → Steady m.due
    drop-steady m e =
        delivered m _ [] e.frame e.least refl refl (λ k h. h) (λ l o. inl (omega arith)) (λ w. absurd (live-not-dead w.1 e.dead))

    idle-steady : (m : InFlight) → Idle p s s' m → Steady m.due
    idle-steady m e =
        delivered m _ [] e.frame e.least refl refl (λ k h. h) (λ l o. inl (omega arith)) (λ w. absurd (ignored w e.why))
      where
        ignored : Awaited m → Ignored s m → ⊥
        ignored w (inl h) = h.1 w.2
        ignored w (inr h) = omega (arith, w.0, h.0)

    beat-steady : (m : InFlight) (list' : ℕ → Bool) → Beat p s s' m list' → Steady m.due
    beat-steady m list' e =
        delivered m _ [] e.frame e.least (sym e.live) refl e.learns.kept (λ l o. inl (omega arith))
        (λ w. rw e.frame.here e.learns.takes)

    -- an O makes a heartbeat due at once
    watched-steady : (m : InFlight) → Watched p s s' m → Steady m.due
    watched-steady m e =
        delivered m _ [] e.frame e.least (sym e.live) refl (λ k h. h) (λ l o. inl (e.least.heartbeat≥ m.to l o))
        (λ w. absurd (omega (arith, w.0, e.kind)))

    report-steady : (m : InFlight) (list' mark' : ℕ → Bool) (out : List InFlight) → Report p s s' m list' mark' out → Steady m.due
    report-steady m list' mark' out e =
        delivered m _ out e.frame e.least (sym e.live) refl e.adds.kept (λ l o. inl (omega arith))
        (λ w. absurd (omega (arith, w.0, e.kind)))

    sends-steady : (t x : ℕ) (m : InFlight) → Sends p s s' t x m → Steady t
    sends-steady t x m e = steady t x _ [] (m ∷ []) e.frame _ _ e.least (omega arith) record {
      alive = sym e.live;
      emitter = refl;
      list = λ k h. h;
      heartbeat = λ l o. inr record {
        m = m;
        has = e.frame.add m (Memᴰ.head refl);
        kind = e.kind;
        from = e.by;
        to = e.to;
        carries = e.carries;
        due = omega (arith, e.within, e.due);
      };
      taken = λ g h. absurd (Memᴰ.not-nil h);
    }

    -- past the bound, where every emitter is a survivor and knows who observes it
    module _ (B t : ℕ) (i : Inv p s) (i' : Inv p s') (e : Steady t) (sp : Spread B s)
        (up : (j : ℕ) → Up p s j → Up p s (em s j)) (knows : (x : ℕ) → Up p s x → (s.node (em s x)).observer ≡ x) where
      was : (j : ℕ) → Up p s' j → Up p s j
      was j u = (u.0, sym (e.alive j) ∙ u.1)

      -- a survivor is not the crashed node
      apart : (q k : ℕ) → After s k q → (j : ℕ) → Live s j → k ≢ j
      apart q k nx j l r = live-not-dead l (rw r at (i.base.listed q k (i.base.between q k nx.1)).dead)

      -- the emitter of x listed k before
      still : (q k x d : ℕ) → After s k q → Up p s x → Dec (em s x ≡ x) → Lists s (em s x) k → Comes s k x (B + rounds d)
          → Comes s' k x (B + rounds d)
      still q k x d nx ux a l (known h) = known (e.list x k h)
      still q k x d nx ux a l (by_heartbeat m h kd fr to c due) = go (e.keep_h m h (kd, rw to ux.1, rw to (sym fr)))
        where
          go : (m ∈ s'.flight) ⊎ Taken s' m → Comes s' k x (B + rounds d)
          go (inl h) = by_heartbeat m h kd (fr ∙ sym (e.emitter x)) to c due
          go (inr tk) = known (rw to at (tk k c (rw to (apart q k nx x ux.1)) (rw fr (apart q k nx (em s x) (up x ux).1))))
      still q k x d nx ux (yes r) l (by_timer h) = known (e.list x k (rw r at l))
      still q k x d nx ux (no n) l (by_timer h) = go (e.heartbeat (em s x) (up x ux).1 (beats s i up x ux n))
        where
          go : ((s'.node (em s x)).heartbeat ≤ (s.node (em s x)).heartbeat) ⊎ Said (em s x) (s.node (em s x)) → Comes s' k x (B + rounds d)
          go (inl r) = by_timer (rw (e.emitter x) (omega arith))
          go (inr r) =
              by_heartbeat r.m r.has r.kind (r.from ∙ sym (e.emitter x)) (r.to ∙ knows x ux) (r.carries k ∙ l) (omega (arith, r.due))

      -- the emitter of x has just come to list k: its d rounds are not over, and its next heartbeat is due within H
      just : (q k x d : ℕ) → After s k q → Up p s x → iter (em s) (suc d) x ≡ q → Dec (em s x ≡ x) → Lists s' (em s x) k
          → (s.node (em s x)).list k ≡ false → Comes s' k x (B + rounds d)
      just q k x d nx ux hd (yes r) l un = known (rw r at l)
      just q k x d nx ux hd (no n) l un = go (dec_lt (B + rounds d) t)
        where
          lives : Live s' (em s x)
          lives = e.alive (em s x) ∙ (up x ux).1

          on : (s'.node (em s x)).heartbeat_on ≡ true
          on = emitter-beats p s' i' x (em s x) (e.alive x ∙ ux.1) (e.emitter x) n lives

          go : Dec (B + rounds d < t) → Comes s' k x (B + rounds d)
          go (yes h) = absurd (live-not-dead (heard s i up B t q k sp e.passed nx d (em s x) h (up x ux) hd) un)
          go (no h) = by_timer (rw (e.emitter x) (omega (arith, (i'.timers (em s x) lives).heartbeat≤ on, e.last')))

      steady-spread : Spread B s'
      steady-spread q k x d nx' ux' hd' l' = go ((s.node (em s x)).list k) refl
        where
          ux : Up p s x
          ux = was x ux'

          nx : After s k q
          nx = (was q nx'.0, rw (e.emitter q) at nx'.1)

          hd : iter (em s) (suc d) x ≡ q
          hd = subst (λ g. iter g (suc d) x ≡ q) (fun_ext e.emitter) hd'

          l : Lists s' (em s x) k
          l = rw (e.emitter x) at l'

          go : (b : Bool) → (s.node (em s x)).list k ≡ b → Comes s' k x (B + rounds d)
          go true r = still q k x d nx ux (ℕ_discrete (em s x) x) r (sp q k x d nx ux hd r)
          go false r = just q k x d nx ux hd (ℕ_discrete (em s x) x) l r

  -- ---- once all that is due by the bound is done

  module _ (s : View) (c f u : ℕ) (i : Inv p s) (w : Since p c s) (row : InARow p s f) (late : bound c f < u) (ps : Passed p s u) where
    all_up : (j : ℕ) → Up p s j → Up p s (em s j)
    all_up = emitter-up p s c f u i w row late ps

    all_known : (x : ℕ) → Up p s x → (s.node (em s x)).observer ≡ x
    all_known x ux = observer-known p s c f u i w row late ps x (em s x) ux (all_up x ux).1 refl

    -- no survivor leaves its emitter
    none-leaves : (s' : View) (t x : ℕ) (gone : List InFlight) (list' : ℕ → Bool) (y : ℕ) → Leaves p s t x gone list' y → ⊥
    none-leaves s' t x gone list' y e =
        live-not-dead (all_up x ((i.base.in_n x e.apart).0, e.live)).1 (leaves-late p s s' i t x gone list' y e).dead

    -- the lists have begun to go round, or begin now
    spread : Spreads c s → Spread (bound c f) s
    spread sp = go (dec_lt (bound c f) s.last)
      where
        go : Dec (bound c f < s.last) → Spread (bound c f) s
        go (yes h) = sp f row h
        go (no h) = begins s i all_up (bound c f) (omega arith)

  -- ---- any event

  abbrev pub SpreadsLast : View → Last → Type 0
  SpreadsLast s none = Unit {0}
  SpreadsLast s (at c) = Spreads c s

  module _ (s s' : View) (i : Inv p s) (i' : Inv p s') where
    same_row : (f : ℕ) → ((k : ℕ) → (s'.node k).alive ≡ (s.node k).alive) → InARow p s' f → InARow p s f
    same_row f al row j g j_n g_n h = row j g j_n g_n (λ k le. al k ∙ h k le)

    steady-spreads : (t c : ℕ) → Steady s s' t → Since p c s → Spreads c s → Spreads c s'
    steady-spreads t c e w sp f row late =
        steady-spread s s' (bound c f) t i i' e (spread s c f t i w was past e.passed sp) (all_up s c f t i w was past e.passed)
        (all_known s c f t i w was past e.passed)
      where
        was : InARow p s f
        was = same_row f e.alive row

        past : bound c f < t
        past = rw e.last' at late

    -- past the bound no survivor leaves its emitter
    leaves-spreads : (t x : ℕ) (n' : Seen) (gone out : List InFlight) (list' : ℕ → Bool) (y c : ℕ) → Frame p s s' t x n' gone out
        → n'.alive ≡ true → Leaves p s t x gone list' y → Since p c s → Spreads c s → Spreads c s'
    leaves-spreads t x n' gone out list' y c fr al e w sp f row late =
        absurd (none-leaves s c f t i w was (rw fr.last' at late) (pending s s' t _ _ e.least (omega arith)) s' t x gone list' y e)
      where
        was : InARow p s f
        was = same_row f (each p s s' t x n' gone out fr (λ j n n'. n'.alive ≡ n.alive) (al ∙ sym e.live) (λ j. refl)) row

    -- an event that is no crash leaves the last one where it was
    keeps : (l : Last) → ((c : ℕ) → Since p c s → Spreads c s → Spreads c s') → SinceLast p s l → SpreadsLast s l → SpreadsLast s' l
    keeps none h w sp = tt
    keeps (at c) h w sp = h c w sp

    steadily : (t : ℕ) → Steady s s' t → (l : Last) → SinceLast p s l → SpreadsLast s l → SpreadsLast s' l
    steadily t e l = keeps l (λ c. steady-spreads t c e)

    step-spreads : (l : Last) (e : Step p s s') → SinceLast p s l → SpreadsLast s l → SpreadsLast s' (after p s s' e l)
    step-spreads l (crash t k e) w sp = λ f row late. absurd (omega (arith, e.frame.last'))
    step-spreads l (drop m e) w sp = steadily _ (drop-steady s s' m e) l w sp
    step-spreads l (idle m e) w sp = steadily _ (idle-steady s s' m e) l w sp
    step-spreads l (beat m a e) w sp = steadily _ (beat-steady s s' m a e) l w sp
    step-spreads l (watched m e) w sp = steadily _ (watched-steady s s' m e) l w sp
    step-spreads l (report m a k o e) w sp = steadily _ (report-steady s s' m a k o e) l w sp
    step-spreads l (sends t x m e) w sp = steadily _ (sends-steady s s' t x m e) l w sp
    step-spreads l (moves t x g a k y o r e) w sp = keeps l (λ c. leaves-spreads t x _ g (o ∷ r) a y c e.frame refl e.leaves) w sp
    step-spreads l (alone t x a k e) w sp = keeps l (λ c. leaves-spreads t x _ [] [] a x c e.frame refl e.leaves) w sp

  -- what CloseCrashes keeps, and the lists
  abbrev pub KeptSince : View → Last → Type 0
  KeptSince s l = SinceLast p s l × SpreadsLast s l

  pub step_kept : (s s' : View) → Inv p s → Near p s → Inv p s' → (l : Last) (e : Step p s s') → KeptSince s l → KeptSince s' (after p s s' e l)
  step_kept s s' i near i' l e (w, sp) = (step-since p s s' i near i' l e w, step-spreads s s' i i' l e w sp)

  -- ---- once all that is due by m - 1 rounds after the bound is done

  module _ (s : View) (c f u : ℕ) (i : Inv p s) (w : Since p c s) (sp : Spreads c s) (row : InARow p s f)
      (late : bound c f + rounds (p.cnt (crashed_in s) - 1) < u) (ps : Passed p s u) where
    past : bound c f < u
    past = omega arith

    up : (j : ℕ) → Up p s j → Up p s (em s j)
    up = all_up s c f u i w row past ps

    -- THE CLAIM: every survivor lists exactly the crashed nodes, and stays joined
    pub complete : (j : ℕ) → Up p s j → SettledIn p s j
    complete j uj = record {
      sound = λ k h. (i.base.listed j k h).dead;
      full = λ k d. lists k (after-gap s i up k (p.planned-N k (i.base.dead k d).0) d (p.gap j k) j uj (omega arith));
      joined = joined p s c f u i w row past ps j uj;
    }
      where
        lists : (k : ℕ) → (q : ℕ) × After s k q → Lists s j k
        lists k (q, nx) = heard s i up (bound c f) u q k (spread s c f u i w row past ps sp) ps nx hop.0 j (omega (arith, late, few)) uj hop.2
          where
            hop : (d : ℕ) × (d < p.cnt (crashed_in s)) × (iter (em s) d j ≡ q)
            hop = p.hops (crashed_in s) (em s) (first p s i.base up) j q uj.0 (ap not uj.1) nx.0.0 (ap not nx.0.1)

            few : rounds hop.0 ≤ rounds (p.cnt (crashed_in s) - 1)
            few = mul-le-mul_right (p.H + p.D) (omega (arith, hop.1))
