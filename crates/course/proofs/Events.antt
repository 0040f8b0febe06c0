-- A turn that an event gives a node: what is left stands for the whole store after the event, and the answer is a step's. Assumes nothing.
use Prim.Native.Nat.{ℕ, ◌+◌, ◌≤◌, ◌<◌}
use mathlib.Core.Path.{◌≡◌, refl, sym, ap, ap₂, subst, ◌∙◌}
use mathlib.Core.List.{List}
use native.Mathlib.Omega.{arith}
use lib.ListN.{length, set}
use Rattle.std.specs.Prelude.{Some, Ok, Err}
use Rattle.limits.specs.declared.Refusal.{Refusal}
use Rattle.limits.specs.declared.Refusal.TheVariants.{TooMany}
use Rattle.limits.specs.Limits.{most_tick, most_in_flight, most_sent}
use Rattle.node.specs.declared.Node.{Node}
use Rattle.node.specs.declared.Turned.{Turned}
use Rattle.node.specs.Node.{Turn, turned}
use Rattle.model.specs.declared.Deed.{Deed}
use Rattle.plans.specs.Plan.{Plan}
use Rattle.model.specs.Platform.{InFlight, State, Event, Entry, Outcome, did, crashed_list, node_of, taken, left}
use Rattle.store.specs.declared.Flight.{Flight}
use Rattle.store.specs.Store.{encode, plan_in, state_in}
use Rattle.store.specs.Inside.{with_flight}
use Rattle.event.specs.Acting.{Acting}
use Rattle.event.specs.Event.{entry, next_outcome, next_answer, store_left, turn_left, turn_of}
use Rattle.event.proofs.Readiness.{left-ready, left-holds, ready-sound}
use Rattle.event.proofs.Doing.{Timer, timer-tick, timer-count, timer-turns, timer-refused, timer-did, timer-done}
use Rattle.queue.specs.Rows.{places}
use Rattle.course.specs.declared.Progress.{Progress}
use Rattle.course.specs.declared.Step.TheVariants.{Did}
use Rattle.course.specs.Apart.{Apart}
use Rattle.course.specs.Look.{Timers}
use Rattle.course.specs.Progress.{Underway, Settling, Settled, SettledAs, Taken, TurnedDown, SteppedAs}
use Rattle.course.proofs.Parting.{apart-plan, apart-node, apart-acting}
use Rattle.course.proofs.Progressing.{timers-turn}

-- ---- any turn

-- Node x takes the turn u at tick t: `mid` is the whole store as the turn finds it, with the messages `rest` in flight. What a step would
-- have answered and left is given for both outcomes.
pub record Given (whole mid : List ℕ) (rest : List InFlight) (t x : ℕ) (u : Turned) (l : Deed) : Type 0 where
  pub plan : plan_in mid ≡ plan_in whole
  pub state : state_in mid ≡ with_flight (state_in whole) rest
  pub inside : x < (plan_in whole).n
  pub entry : Entry
  pub outcome : length rest + u.count ≤ most_in_flight → next_outcome whole ≡ did entry (taken (plan_in whole) (state_in whole) t x rest (turn_of u))
  pub answer : length rest + u.count ≤ most_in_flight → Ok (Some l) ≡ next_answer whole
  pub full : most_in_flight < length rest + u.count → (Err TooMany ≡ next_answer whole) × (whole ≡ store_left whole)

module _ (b : List ℕ) (q : List Flight) (c c₁ : Progress) (whole mid : List ℕ) (k : Underway b q c whole) (rest : List InFlight) (t x : ℕ)
    (u : Turned) (l : Deed) (g : Given whole mid rest t x u l) (ts : Timers (plan_in whole) (state_in whole) c₁.bound c₁.x) (de : c₁.dead ≡ c.dead)
    (h : c₁.x ≤ x) where
  rest-flight : length (state_in mid).flight ≡ length rest
  unfolding with_flight
  rest-flight = ap (λ (s : State). length s.flight) g.state

  abbrev After : State
  After = taken (plan_in whole) (state_in whole) t x rest (turn_of u)

  mid-left : turn_left mid t x u ≡ encode (plan_in whole) After
  unfolding taken with_flight
  mid-left = ap₂ (λ (p : Plan) (s : State). encode p (taken p s t x s.flight (turn_of u))) g.plan g.state

  -- it is taken
  module _ (b' : List ℕ) (q' : List Flight) (d : Progress) (f : Taken c₁ t x u mid b' q' d) where
    did-it : next_outcome whole ≡ did g.entry After
    did-it = g.outcome (omega (arith, f.room, rest-flight))

    left_is : store_left whole ≡ encode (plan_in whole) After
    unfolding left
    left_is = ap (λ (o : Outcome). encode (plan_in whole) (left (state_in whole) o)) did-it

    held : (plan_in (store_left whole) ≡ plan_in whole) × (state_in (store_left whole) ≡ left (state_in whole) (next_outcome whole))
    held = left-holds whole (store_left whole) k.ready refl

    state : state_in (store_left whole) ≡ After
    unfolding left
    state = held.1 ∙ ap (left (state_in whole)) did-it

    same-done : (state_in (store_left whole)).done ≡ (state_in whole).done
    unfolding taken
    same-done = ap (λ (s : State). s.done) state

    nodes : (state_in (store_left whole)).nodes ≡ set (state_in whole).nodes x u.node
    unfolding taken turn_of
    nodes = ap (λ (s : State). s.nodes) state

    after-timers : Timers (plan_in whole) (state_in (store_left whole)) d.bound d.x
    after-timers =
        timers-turn (plan_in whole) (state_in whole) (state_in (store_left whole)) x u.node same-done nodes
        (rw (ready-sound whole k.ready).nodes g.inside) c₁ d u.count h ts f.later

    turn-underway : Underway b' q' d (store_left whole)
    turn-underway = record {
      ready = left-ready whole (store_left whole) k.ready refl;
      apart = subst (Apart b' q' d.start d.end) (mid-left ∙ sym left_is) f.apart;
      dead = f.later.dead ∙ (de ∙ (k.dead ∙ ap₂ crashed_list (sym held.0) (sym same-done)));
      timers = subst (λ (p : Plan). Timers p (state_in (store_left whole)) d.bound d.x) (sym held.0) after-timers;
    }

    pub turn-done : SteppedAs whole c (Ok (Did l)) b' q' d
    unfolding SteppedAs
    turn-done = (g.answer (omega (arith, f.room, rest-flight)), turn-underway)

  -- or refused
  pub turn-refused : (r : Refusal) (b' : List ℕ) (q' : List Flight) (d : Progress) → TurnedDown b q c₁ u mid r b' q' d
      → SteppedAs whole c (Err r) b' q' c
  unfolding SteppedAs
  turn-refused r b' q' d f =
      let z = g.full (omega (arith, f.full, rest-flight)) in
      let still : Underway b' q' c whole =
      subst (λ (y : List ℕ). Underway y q' c whole) (sym f.store) (subst (λ (y : List Flight). Underway b y c whole) (sym f.queue) k) in
      (ap Err f.refusal ∙ z.0, z.1, refl, still)

-- ---- a timer's turn

same-flight : (s : State) → s ≡ with_flight s s.flight
unfolding with_flight
same-flight s = refl

module _ {b : List ℕ} {q : List Flight} {c : Progress} {whole : List ℕ} (k : Underway b q c whole) {e : Event} {turn : Plan → Node → Turn}
    {tells : Node → Node → ℕ → Deed} (d₀ : Timer whole c.bound c.x e turn tells) where
  -- what is asked for where the run's store is read for the turn
  pub timer-asks : Acting b × ((c.bound ≤ most_tick) × (c.x < (plan_in b).n))
  timer-asks = (apart-acting k.apart k.ready, (timer-tick d₀, rw (apart-plan k.apart) d₀.place))

  -- the run's store gives the turn u
  module _ {u : Turned} (ue : u ≡ turned (turn (plan_in b) (node_of (state_in b) c.x))) where
    turn_is : u ≡ turned (turn (plan_in whole) (node_of (state_in whole) c.x))
    turn_is = ue ∙ ap₂ (λ (p : Plan) (n : Node). turned (turn p n)) (apart-plan k.apart) (apart-node k.apart c.x)

    pub timer-settling : c.end + most_sent ≤ places → Settling b q c c.bound c.x u
    timer-settling room = record { whole = whole; apart = k.apart; few = timer-count d₀ turn_is; turns = timer-turns d₀ turn_is; room = room }

    module _ {l : Deed} (le : l ≡ tells (node_of (state_in b) c.x) u.node u.passed) where
      deed-is : l ≡ tells (node_of (state_in whole) c.x) u.node u.passed
      deed-is = le ∙ ap (λ (n : Node). tells n u.node u.passed) (apart-node k.apart c.x)

      timer-given : Given whole whole (state_in whole).flight c.bound c.x u l
      timer-given = record {
        plan = refl;
        state = same-flight (state_in whole);
        inside = d₀.place;
        entry = entry c.bound e;
        outcome = timer-did d₀ turn_is;
        answer = λ room. (timer-done d₀ turn_is deed-is room).0;
        full = timer-refused d₀ turn_is;
      }

      pub timer-taken : (b' : List ℕ) (q' : List Flight) (d : Progress) → Settled b q c c.bound c.x u (Ok tt) b' q' d
          → SteppedAs whole c (Ok (Did l)) b' q' d
      unfolding SettledAs
      timer-taken b' q' d s =
          turn-done b q c c whole whole k (state_in whole).flight c.bound c.x u l timer-given k.timers refl (omega arith) b' q' d
          (s whole k.apart (timer-turns d₀ turn_is))

      pub timer-down : (r : Refusal) (b' : List ℕ) (q' : List Flight) (d : Progress) → Settled b q c c.bound c.x u (Err r) b' q' d
          → SteppedAs whole c (Err r) b' q' d
      unfolding SettledAs
      timer-down r b' q' d s =
          let f = s whole k.apart (timer-turns d₀ turn_is) in
          subst (SteppedAs whole c (Err r) b' q') (sym f.progress)
          (turn-refused b q c c whole whole k (state_in whole).flight c.bound c.x u l timer-given k.timers refl (omega arith) r b' q' d f)
