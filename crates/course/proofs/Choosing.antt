-- Which event is next, by the tick of the next crash, that of the first message and the one that the run has come to. Assumes nothing.
use Prim.Native.Nat.{ℕ, suc, ◌+◌, ◌≤◌, ◌<◌}
use mathlib.Core.Path.{◌≡◌, refl, sym, ap, subst, ◌∙◌}
use mathlib.Core.Logic.{◌≢◌, ◌⊎◌, inl, inr}
use mathlib.Core.List.Memᴰ
use mathlib.Core.List.{List, Memᴰ}
use native.Mathlib.Omega.{arith}
use lib.ListN.{length, get_or}
use Rattle.std.specs.Prelude.{true, false, Option as Maybe, Some, None, unwrap_or, Result, Ok, Err}
use Rattle.std.specs.Result.{is_err}
use Rattle.limits.specs.declared.Refusal.{Refusal}
use Rattle.limits.specs.Limits.{most_sent}
use Rattle.node.specs.declared.Node.{Node}
use Rattle.plans.specs.Plan.{Plan}
use Rattle.model.specs.Platform.{InFlight, State, Event, crash, message, watch, heartbeat, node_of}
use Rattle.plans.specs.Plain.{Plain, row_at}
use Rattle.model.specs.Range.{NotBefore}
use Rattle.model.proofs.Search.{found-crash, found-message, found_none, found-watch, found-beat}
use Rattle.store.specs.declared.Flight.{Flight}
use Rattle.store.specs.Store.{plan_in, state_in}
use Rattle.event.specs.Event.{NextIs}
use Rattle.event.specs.Search.{crash_tick}
use Rattle.event.proofs.Readiness.{ready-plain, ready-sound}
use Rattle.queue.specs.Rows.{places, nothing}
use Rattle.queue.specs.Holds.{Holds, Head}
use Rattle.course.specs.declared.Progress.{Progress}
use Rattle.course.specs.declared.Step.{Step}
use Rattle.course.specs.declared.Step.TheVariants.{Did, Waits, Ended}
use Rattle.course.specs.Apart.{Apart}
use Rattle.course.specs.Progress.{Underway, SteppedAs}
use Rattle.course.specs.Look.{CrashAt, FirstDue, Timers, TimerAt}
use Rattle.course.specs.Act.{Acts, Delivers}
use Rattle.course.specs.Choose.{Quiet}
use Rattle.course.proofs.Parting.{apart-plan, apart-node}
use Rattle.course.proofs.Looking.{whole-crash, whole-timer, whole-timers}

-- what a look finds: the end tick, that of the next crash and that of the first message, or the one after the end where there is none
pub record Looked (b : List ℕ) (q : List Flight) (c : Progress) (end crash due : ℕ) : Type 0 where
  pub last : end ≡ (plan_in b).end
  pub first : crash ≡ crash_tick (plan_in b) (state_in b).done
  pub none : (flight : List InFlight) → Holds q c.start c.end flight → (g : InFlight) → Memᴰ g flight → due ≤ g.due
  pub here : (flight : List InFlight) → Holds q c.start c.end flight → due < end + 1 → (c.start < c.end) × ((get_or q c.start nothing).due ≡ due)

pub looked : {b : List ℕ} {q : List Flight} (c : Progress) (m : Maybe ℕ) {end crash due : ℕ} → end ≡ (plan_in b).end
    → crash ≡ crash_tick (plan_in b) (state_in b).done
    → ((flight : List InFlight) → Holds q c.start c.end flight → FirstDue q c.start c.end flight m) → due ≡ unwrap_or m (end + 1)
    → Looked b q c end crash due
unfolding FirstDue
looked c (Some r) {end = end} {due = due} e f m d = record {
  last = e;
  first = f;
  none = λ flight h g i. rw d ((m flight h).all g i);
  here = λ flight h k. ((m flight h).less, (m flight h).here ∙ sym d);
}
looked c None {end = end} {due = due} e f m d = record {
  last = e;
  first = f;
  none = λ flight h g i. absurd (Memᴰ.not-nil (subst (Memᴰ g) (m flight h) i));
  here = λ flight h k. absurd (omega (arith, d));
}

-- what a look at the timers finds: node x, with a timer that is due at tick t, and the node itself
pub record TimerFound (b : List ℕ) (t x : ℕ) (a : Node) : Type 0 where
  pub timer : TimerAt (plan_in b) (state_in b) t x
  pub node : a ≡ node_of (state_in b) x

pub timer-found : {b : List ℕ} {t x : ℕ} {a : Node} → TimerAt (plan_in b) (state_in b) t x → a ≡ node_of (state_in b) x → TimerFound b t x a
timer-found t a = record { timer = t; node = a }

module _ {b : List ℕ} {q : List Flight} {c : Progress} {whole : List ℕ} (k : Underway b q c whole) where
  abbrev p : Plan
  p = plan_in whole

  abbrev s : State
  s = state_in whole

  pl : Plain p
  pl = ready-plain whole k.ready

  module _ {en cr du : ℕ} (l : Looked b q c en cr du) where
    ee : en ≡ p.end
    ee = l.last ∙ ap (λ (z : Plan). z.end) (apart-plan k.apart)

    ca : CrashAt p s cr
    ca = whole-crash k.apart pl cr l.first

    all-late : (x y z : ℕ) → x ≤ cr → y ≤ du → z ≤ c.bound → NotBefore p s x y z
    all-late x y z hx hy hz = record {
      crash = λ i h n. omega (arith, ca.all i h n);
      message = λ g m. omega (arith, l.none s.flight k.apart.holds g m);
      watch = λ j v n. omega (arith, k.timers.watch j v n);
      heartbeat = λ j v n. omega (arith, k.timers.heartbeat j v n);
    }

    pub chosen-quiet : c.bound < cr → c.bound < du → Quiet c whole
    chosen-quiet hc hd = record {
      late = all-late (suc c.bound) (suc c.bound) c.bound hc hd (omega arith);
      tick = omega (arith, ca.within);
    }

    pub chosen-ended : cr ≤ du → cr ≤ c.bound → en < cr → SteppedAs whole c (Ok Ended) b q c
    unfolding SteppedAs
    chosen-ended hd hb he =
        let z : ℕ = suc p.end in
        (found_none p pl s (all-late z z z (omega (arith, ee)) (omega (arith, ee)) (omega (arith, ee))), refl, k)

    pub chosen-crash : cr ≤ du → cr ≤ c.bound → cr ≤ en → NextIs whole cr (crash (row_at p s.done).node)
    chosen-crash hd hb he =
        let e : cr ≤ p.end = omega (arith, ee) in
        found-crash p pl s cr (all-late cr cr cr (omega arith) hd hb) (ca.here e).0 (ca.here e).1 e

    pub chosen-message : du < cr → du ≤ c.bound → Delivers q c du whole
    chosen-message hc hb = record { less = due.0; next = next }
      where
        due : (c.start < c.end) × ((get_or q c.start nothing).due ≡ du)
        due = l.here s.flight k.apart.holds (omega (arith, ca.within, ee))

        next : (d : Head q c.start c.end s.flight) → (d.m.due ≡ du) × NextIs whole du (message d.earliest.place)
        next d =
            let f = d.earliest in
            let e : d.m.due ≡ du = sym (ap (λ (r : InFlight). r.due) d.row) ∙ due.1 in
            let late = all-late (suc du) du du hc (omega arith) hb in
            let is = ap (λ (m : InFlight). m.due) f.is ∙ e in
            (e, found-message p pl s du f.place late f.inside is (λ i z y. omega (arith, f.sooner i z, y, e)) (omega (arith, ca.within)))

  -- ---- a timer

  module _ (qu : Quiet c whole) {x : ℕ} {a : Node} (f : TimerFound b c.bound x a) where
    -- how far the run is, seen from the node that was found
    abbrev at : Progress
    at = record { start = c.start; end = c.end; dead = c.dead; bound = c.bound; x = x }

    ta : TimerAt p s c.bound x
    ta = whole-timer k.apart c.bound x f.timer

    at-underway : Underway b q at whole
    at-underway = record { ready = k.ready; apart = k.apart; dead = k.dead; timers = ta.timers }

    inside : x < length s.nodes
    inside = rw (ready-sound whole k.ready).nodes ta.inside

    same-watch : a.watch ≡ (node_of s x).watch
    same-watch = ap (λ (m : Node). m.watch) (f.node ∙ apart-node k.apart x)

    pub found-a-watch : a.watch ≡ c.bound + 1 → NextIs whole c.bound (watch x)
    found-a-watch h =
        found-watch p pl s c.bound x qu.late inside ta.live ta.timers.passed qu.tick (omega (arith, h, same-watch))

    pub found-a-beat : a.watch ≢ c.bound + 1 → NextIs whole c.bound (heartbeat x)
    found-a-beat h =
        let n : (node_of s x).watch ≢ suc c.bound = λ z. h (omega (arith, z, same-watch)) in
        found-beat p pl s c.bound x qu.late inside ta.live ta.timers.passed qu.tick n (other n ta.due)
      where
        other : {A B : Type 0} → (A → ⊥) → A ⊎ B → B
        other n (inl e) = absurd (n e)
        other n (inr e) = e

    -- its event, once it is known to be next: what the function that does it asks for, and what that function leaves
    module _ {e : Event} (next : NextIs whole c.bound e) where
      pub timer-acts : c.end + most_sent ≤ places → Acts b q at e
      timer-acts room = record { whole = whole; underway = at-underway; next = next; room = room }

      -- a step from there is one from here
      from_at : (r : Step) (b' : List ℕ) (q' : List Flight) (d : Progress) → SteppedAs whole at (Ok r) b' q' d → SteppedAs whole c (Ok r) b' q' d
      unfolding SteppedAs
      from_at (Did l) b' q' d f = f
      from_at Waits b' q' d f = f
      from_at Ended b' q' d f = absurd (cc (sym f.0 ∙ next))

      -- what its event leaves: where one is refused, the run goes back to where it was
      pub timer-told : (r : Result Step Refusal) (b' : List ℕ) (q' : List Flight) (d : Progress)
          → ((w : List ℕ) → Underway b q at w → NextIs w c.bound e → SteppedAs w at r b' q' d)
          → (is_err r ≡ true → SteppedAs whole c r b' q' (record { start = d.start; end = d.end; dead = d.dead; bound = d.bound; x = c.x }))
          × (is_err r ≡ false → SteppedAs whole c r b' q' d)
      unfolding SteppedAs
      timer-told (Ok r) b' q' d steps = (λ h. absurd (cc h), λ h. from_at r b' q' d (steps whole at-underway next))
      timer-told (Err r) b' q' d steps = (λ h. back, λ h. absurd (cc h))
        where
          left : SteppedAs whole at (Err r) b' q' d
          left = steps whole at-underway next

          is : record { start = d.start; end = d.end; dead = d.dead; bound = d.bound; x = c.x } ≡ c
          is = ap (λ (z : Progress). record { start = z.start; end = z.end; dead = z.dead; bound = z.bound; x = c.x }) left.2

          apart : Apart b' q' c.start c.end whole
          apart = subst (λ (z : Progress). Apart b' q' z.start z.end whole) left.2 left.3.apart

          back : SteppedAs whole c (Err r) b' q' (record { start = d.start; end = d.end; dead = d.dead; bound = d.bound; x = c.x })
          back =
              subst (SteppedAs whole c (Err r) b' q') (sym is)
              (left.0, left.1, refl, record { ready = k.ready; apart = apart; dead = k.dead; timers = k.timers })

  -- none is due
  pub chosen-later : Quiet c whole → (bound : ℕ) → (c.bound < bound) × Timers (plan_in b) (state_in b) bound 0
      → SteppedAs whole c (Ok Waits) b q (record { start = c.start; end = c.end; dead = c.dead; bound = bound; x = 0 })
  unfolding SteppedAs
  chosen-later qu bound f =
      (qu.tick, f.0, refl, record { ready = k.ready; apart = k.apart; dead = k.dead; timers = whole-timers k.apart bound 0 f.1 })
