-- A crash done by a run. Assumes nothing.
use Prim.Native.Nat.{ℕ, suc, ◌≤◌, ◌<◌}
use mathlib.Core.Path.{◌≡◌, refl, sym, ap, ap₂, subst, ◌∙◌}
use mathlib.Core.Bool.{true, false}
use mathlib.Core.List.{List}
use native.Mathlib.Omega.{arith}
use native.Mathlib.Decide.{ℕ_discrete}
use lib.ListN.{length}
use Rattle.std.specs.Prelude.{None, Ok}
use Rattle.limits.specs.Limits.{most_tick}
use Rattle.node.specs.declared.Node.{Node}
use Rattle.model.specs.declared.Deed.{Deed}
use Rattle.logline.specs.Line.{letter_c}
use Rattle.plans.specs.Plan.{Crash, Plan, plan_test}
use Rattle.model.specs.Platform.{InFlight, State, Outcome, crash, did, alive, node_of, crashed_list, apply, left}
use Rattle.plans.specs.Plain.{Plain, row_at}
use Rattle.model.specs.Lines.{deed}
use Rattle.model.proofs.NextEvent.{Chosen, alive-hit, alive-other}
use Rattle.store.specs.declared.Flight.{Flight}
use Rattle.store.specs.declared.CrashRow.{CrashRow}
use Rattle.store.specs.Store.{encode, plan_in, state_in}
use Rattle.store.specs.Inside.{Fits, Sized, with_flight, with_tick, crashed, crash_row}
use Rattle.store.proofs.States.{tick-fits, crash-fits}
use Rattle.event.specs.Event.{NextIs, next_outcome, store_left, entry}
use Rattle.event.proofs.Readiness.{left-ready, left-holds, ready-plain, ready-sound, held-sized}
use Rattle.event.proofs.Turning.{chosen_of, try-did}
use Rattle.event.proofs.Doing.{event-tick, crash-place, crash-done}
use Rattle.course.specs.declared.Progress.{Progress}
use Rattle.course.specs.declared.Step.TheVariants.{Did}
use Rattle.course.specs.Apart.{Apart}
use Rattle.course.specs.Progress.{Underway, SteppedAs}
use Rattle.course.proofs.Parting.{apart-both, apart-held, apart-plan, apart-done, apart-node}

crash-over : (t : ℕ) (s : State) (ms : List InFlight) → crashed (with_tick (with_flight s ms) t) ≡ with_flight (crashed (with_tick s t)) ms
unfolding crashed with_tick with_flight
crash-over t s ms = refl

crash-same : (t : ℕ) (s : State) → (crashed (with_tick s t)).flight ≡ s.flight
unfolding crashed with_tick
crash-same t s = refl

-- who is live after a crash was before it
still-live : (p : Plan) (pl : Plain p) (done : ℕ) → done < length p.crashes → (j : ℕ) → alive p (suc done) j ≡ true → alive p done j ≡ true
still-live p pl done h j v = go (ℕ_discrete j (row_at p done).node)
  where
    go : Dec (j ≡ (row_at p done).node) → alive p done j ≡ true
    go (yes e) =
        let z : alive p (suc done) j ≡ false = ap (alive p (suc done)) e ∙ alive-hit p pl done h in
        absurd (let w : ◌≡◌ {A = ℕ} 0 1 = cc in omega arith)
    go (no e) = sym (alive-other p pl done j h e) ∙ v

module _ (b : List ℕ) (q : List Flight) (c : Progress) (whole : List ℕ) (k : Underway b q c whole) (t n : ℕ) (next : NextIs whole t (crash n)) where
  abbrev first : Crash
  first = row_at (plan_in whole) (state_in whole).done

  chosen : ((state_in whole).done < length (plan_in whole).crashes) × ((first.tick ≡ t) × (first.node ≡ n))
  unfolding Chosen
  chosen =
      let ch = (chosen_of (plan_in whole) (state_in whole) t (crash n) next (ready-plain whole k.ready)).1 in
      (ch.0, (ch.1, ch.2))

  more : (state_in whole).done < length (plan_in whole).crashes
  more = chosen.0

  -- the row that the code reads
  pub crash-more : (state_in b).done < length (plan_in b).crashes
  crash-more = rw (apart-plan k.apart, apart-done k.apart) more

  pub crash-row : (row : CrashRow) (i : ℕ) → i ≡ (state_in b).done → row ≡ crash_row (row_at (plan_in b) i) → row.node ≡ n
  crash-row row i ie e =
      ap (λ (r : CrashRow). r.node) e
      ∙ (ap₂ (λ (p : Plan) (j : ℕ). (row_at p j).node) (apart-plan k.apart) (ie ∙ apart-done k.apart) ∙ chosen.1.1)

  pub crash-tick : t ≤ most_tick
  crash-tick = event-tick whole k.ready t (crash n) next

  pub crash-here : n < (plan_in b).n
  crash-here = rw (apart-plan k.apart) (crash-place whole k.ready t n next)

  crash-fit : Fits (plan_in whole) (crashed (with_tick (state_in whole) t))
  unfolding with_tick
  crash-fit =
      crash-fits (plan_in whole) (with_tick (state_in whole) t) (tick-fits (plan_in whole) (state_in whole) k.apart.held.fits t (omega (arith, crash-tick)))
      (omega (arith, more, k.apart.held.fits.counts.crashes))

  did-it : next_outcome whole ≡ did (entry t (crash n)) (apply (plan_in whole) (state_in whole) t (crash n))
  unfolding apply
  did-it = try-did (plan_in whole) (state_in whole) t (crash n) next (ready-sound whole k.ready).few

  left_is : encode (plan_in whole) (crashed (with_tick (state_in whole) t)) ≡ store_left whole
  unfolding apply with_tick crashed left
  left_is = sym (ap (λ (o : Outcome). encode (plan_in whole) (left (state_in whole) o)) did-it)

  held : (plan_in (store_left whole) ≡ plan_in whole) × (state_in (store_left whole) ≡ left (state_in whole) (next_outcome whole))
  held = left-holds whole (store_left whole) k.ready refl

  state : state_in (store_left whole) ≡ apply (plan_in whole) (state_in whole) t (crash n)
  unfolding left
  state = held.1 ∙ ap (left (state_in whole)) did-it

  done : (state_in (store_left whole)).done ≡ suc (state_in whole).done
  unfolding apply
  done = ap (λ (s : State). s.done) state

  nodes : (j : ℕ) → node_of (state_in (store_left whole)) j ≡ node_of (state_in whole) j
  unfolding apply
  nodes j = ap (λ (s : State). node_of s j) state

  live : (j : ℕ) → alive (plan_in (store_left whole)) (state_in (store_left whole)).done j ≡ true
      → alive (plan_in whole) (state_in whole).done j ≡ true
  live j v =
      still-live (plan_in whole) (ready-plain whole k.ready) (state_in whole).done more j
      (ap₂ (λ (p : Plan) (d : ℕ). alive p d j) (sym held.0) (sym done) ∙ v)

  module _ (b' : List ℕ) (e : b' ≡ encode (plan_in b) (crashed (with_tick (state_in b) t))) where
    left-apart : Apart b' q c.start c.end (store_left whole)
    left-apart =
        subst (Apart b' q c.start c.end) left_is
        (apart-both (λ s. crashed (with_tick s t)) (crash-over t) (crash-same t) k.apart crash-fit b' e)

    pub crash-crashes : Sized b' × ((plan_test (plan_in b') ≡ true) × ((state_in b').done ≤ length (plan_in b').crashes))
    crash-crashes =
        let p : plan_in b' ≡ plan_in whole = apart-plan left-apart ∙ held.0 in
        let d : (state_in b').done ≡ suc (state_in whole).done = apart-done left-apart ∙ done in
        (held-sized b' (apart-held left-apart), (ap plan_test p ∙ k.ready.plan, omega (arith, d, ap (λ (z : Plan). length z.crashes) p, more)))

    pub crash-stepped : (dead : ℕ) → dead ≡ crashed_list (plan_in b') (state_in b').done → (l : Deed)
        → l ≡ deed letter_c t n n (node_of (state_in b) n).list None
        → SteppedAs whole c (Ok (Did l)) b' q (record { start = c.start; end = c.end; dead = dead; bound = c.bound; x = 0 })
    unfolding SteppedAs
    crash-stepped dead de l le =
        let le' : l ≡ deed letter_c t n n (node_of (state_in whole) n).list None =
        le ∙ ap (λ (m : Node). deed letter_c t n n m.list None) (apart-node k.apart n) in (
          (crash-done whole k.ready t n next (store_left whole) l le' (sym left_is)).0,
          record {
            ready = left-ready whole (store_left whole) k.ready refl;
            apart = left-apart;
            dead = de ∙ ap₂ crashed_list (apart-plan left-apart) (apart-done left-apart);
            timers = record {
              watch = λ j v m. rw (nodes j) (k.timers.watch j (live j v) (rw (nodes j) at m));
              heartbeat = λ j v m. rw (nodes j) (k.timers.heartbeat j (live j v) (rw (nodes j) at m));
              passed = λ j z. absurd (omega arith);
            };
          },
        )
