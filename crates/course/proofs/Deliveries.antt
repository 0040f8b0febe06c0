-- A message delivered or dropped by a run. Assumes nothing.
use Prim.Native.Nat.{ℕ, suc, ◌+◌, ◌≤◌, ◌<◌}
use mathlib.Core.Path.{◌≡◌, refl, sym, ap, ap₂, subst, ◌∙◌}
use mathlib.Core.Bool.{Bool, not}
use mathlib.Core.List.{List, []}
use native.Mathlib.Omega.{arith}
use lib.ListN.{length, get_or}
use Rattle.std.specs.Prelude.{Result, Ok, Err}
use Rattle.limits.specs.declared.Refusal.{Refusal}
use Rattle.limits.specs.Limits.{most_nodes, most_tick, most_in_flight, most_sent}
use Rattle.ring.specs.Ring.{listed}
use Rattle.model.specs.declared.Deed.{Deed}
use Rattle.model.specs.Lines.{message_deed}
use Rattle.node.specs.declared.Node.{Node}
use Rattle.node.specs.declared.Turned.{Turned}
use Rattle.node.specs.Node.{turned}
use Rattle.plans.specs.Plan.{Plan}
use Rattle.model.specs.Platform.{State, message, message_at, node_of, without, received, apply}
use Rattle.model.specs.Range.{FlightRange}
use Rattle.model.proofs.RangesKept.{at_mem}
use Rattle.store.specs.Store.{encode, plan_in, state_in}
use Rattle.store.specs.Inside.{Fits, flying, message_of, with_flight, without_message}
use Rattle.store.specs.declared.Flight.{Flight}
use Rattle.store.proofs.Store.{plan-encode, state-encode, held-encode}
use Rattle.store.proofs.States.{take-fits}
use Rattle.event.specs.Event.{NextIs, Turns, entry}
use Rattle.event.proofs.Readiness.{ready-sound}
use Rattle.event.proofs.Turning.{turn-did}
use Rattle.event.proofs.Doing.{event-tick, length-less, message-here, message-place, message-sender, message-subject, message-count, message-turns}
use Rattle.event.proofs.Doing.{message-refused, message-done, turn-of}
use Rattle.queue.specs.Rows.{places, nothing}
use Rattle.queue.specs.Holds.{Holds, Head}
use Rattle.queue.proofs.Queues.{holds-head}
use Rattle.course.specs.declared.Progress.{Progress}
use Rattle.course.specs.declared.Step.TheVariants.{Did}
use Rattle.course.specs.Apart.{Apart, bare}
use Rattle.course.specs.Look.{Timers}
use Rattle.course.specs.Progress.{Underway, Settling, Settled, SettledAs, SteppedAs}
use Rattle.course.specs.Act.{Delivers}
use Rattle.course.proofs.Looking.{passed-less}
use Rattle.course.proofs.Parting.{apart-plan, apart-state, apart-node}
use Rattle.course.proofs.Events.{Given, turn-done, turn-refused}

module _ (b : List ℕ) (q : List Flight) (c : Progress) (t : ℕ) (whole : List ℕ) (k : Underway b q c whole) (dv : Delivers q c t whole) where
  abbrev head : Head q c.start c.end (state_in whole).flight
  head = holds-head q c.start c.end (state_in whole).flight k.apart.holds dv.less

  abbrev i : ℕ
  i = head.earliest.place

  next : NextIs whole t (message i)
  next = (dv.next head).1

  here : message_at (state_in whole) i ≡ head.m
  here = head.earliest.is

  range : FlightRange (plan_in whole) (state_in whole).last (message_at (state_in whole) i)
  range = (ready-sound whole k.ready).flying (message_at (state_in whole) i) (at_mem (state_in whole).flight i (message-here whole k.ready t i next))

  module _ (f : Flight) (fe : f ≡ get_or q c.start nothing) where
    is-flight : f ≡ flying (message_at (state_in whole) i)
    is-flight = ap flying (ap message_of fe ∙ (head.row ∙ sym here))

    pub delivery-place : f.to < (plan_in b).n
    delivery-place = rw (apart-plan k.apart) (message-place whole k.ready t i next f is-flight)

    pub delivery-sender : f.from < most_nodes
    delivery-sender = message-sender whole k.ready t i next f is-flight

    pub delivery-subject : f.subject < most_nodes
    delivery-subject = message-subject whole k.ready t i next f is-flight

    pub delivery-tick : t ≤ most_tick
    delivery-tick = event-tick whole k.ready t (message i) next

    abbrev mid : List ℕ
    mid = encode (plan_in whole) (without_message (state_in whole) i)

    mid-fits : Fits (plan_in whole) (without_message (state_in whole) i)
    mid-fits = take-fits (plan_in whole) (state_in whole) k.apart.held.fits i (message-here whole k.ready t i next)

    mid-plan : plan_in mid ≡ plan_in whole
    mid-plan = plan-encode (plan_in whole) (without_message (state_in whole) i) mid-fits

    mid-state : state_in mid ≡ without_message (state_in whole) i
    mid-state = state-encode (plan_in whole) (without_message (state_in whole) i) mid-fits

    mid-is : state_in mid ≡ with_flight (state_in whole) (without i (state_in whole).flight)
    unfolding without_message with_flight
    mid-is = mid-state

    mid-flight : (state_in mid).flight ≡ without i (state_in whole).flight
    unfolding with_flight
    mid-flight = ap (λ (s : State). s.flight) mid-is

    mid-apart : Apart b q (c.start + 1) c.end mid
    unfolding with_flight bare
    mid-apart =
        let z : suc c.start ≡ c.start + 1 = omega arith in
        record {
          held = held-encode (plan_in whole) (without_message (state_in whole) i) mid-fits;
          is = k.apart.is ∙ sym (ap₂ (λ (p : Plan) (s : State). encode p (with_flight s [])) mid-plan mid-is);
          holds = subst (λ (n : ℕ). Holds q n c.end (state_in mid).flight) z (subst (Holds q (suc c.start) c.end) (sym mid-flight) head.taken);
        }

    -- how far the run is without it
    abbrev c₁ : Progress
    c₁ = record { start = c.start + 1; end = c.end; dead = c.dead; bound = c.bound; x = 0 }

    module _ (u : Turned) (ue : u ≡ turned (received (plan_in b) (state_in b) t (message_of f))) where
      is : u ≡ turned (received (plan_in whole) (state_in whole) t (message_at (state_in whole) i))
      unfolding received with_flight
      is =
          ue ∙ (ap₂ (λ (p : Plan) (s : State). turned (received p s t (message_of f))) (apart-plan k.apart) (apart-state k.apart)
          ∙ turn-of whole k.ready t i next f is-flight)

      turns : length (state_in mid).flight + u.count ≤ most_in_flight → Turns mid t f.to u
      turns h =
          message-turns whole k.ready t i next f is-flight u is
          (omega (arith, h, ap length mid-flight, length-less i (state_in whole).flight (message-here whole k.ready t i next))) mid refl

      pub delivery-settling : c.end + most_sent ≤ places → Settling b q c₁ t f.to u
      delivery-settling room = record {
        whole = mid;
        apart = mid-apart;
        few = message-count whole k.ready t i next f is-flight u is;
        turns = turns;
        room = room;
      }

      module _ (ls : Bool) (lse : ls ≡ listed c.dead f.to) (l : Deed)
          (le : l ≡ message_deed t (message_of f) (not ls) (node_of (state_in b) f.to) u.node u.passed) where
        deed-is : l ≡ message_deed t (message_of f) (not ls) (node_of (state_in whole) f.to) u.node u.passed
        deed-is = le ∙ ap (λ (n : Node). message_deed t (message_of f) (not ls) n u.node u.passed) (apart-node k.apart f.to)

        delivery-given : Given whole mid (without i (state_in whole).flight) t (message_at (state_in whole) i).to u l
        unfolding apply
        delivery-given = record {
          plan = mid-plan;
          state = mid-is;
          inside = range.to;
          entry = entry t (message i);
          outcome =
              turn-did (plan_in whole) (state_in whole) t (message i) next (message_at (state_in whole) i).to (without i (state_in whole).flight) u _ is
              refl;
          answer = λ room. (message-done whole k.ready t i next f is-flight u is c.dead ls k.dead lse l deed-is room).0;
          full = λ h.
              message-refused whole k.ready t i next f is-flight u is
              (omega (arith, h, length-less i (state_in whole).flight (message-here whole k.ready t i next)));
        }

        -- what the turn comes to, for its node as the store has it
        settled : (r : Result (Unit {0}) Refusal) (b' : List ℕ) (q' : List Flight) (d : Progress) → Settled b q c₁ t f.to u r b' q' d
            → SettledAs b q c₁ t (message_at (state_in whole) i).to u mid r b' q' d
        settled r b' q' d h =
            subst (λ (y : ℕ). SettledAs b q c₁ t y u mid r b' q' d) (ap (λ (g : Flight). g.to) is-flight) (h mid mid-apart turns)

        passed : Timers (plan_in whole) (state_in whole) c.bound 0
        passed = passed-less (plan_in whole) (state_in whole) c.bound c.x 0 k.timers (omega arith)

        pub delivery-taken : (b' : List ℕ) (q' : List Flight) (d : Progress) → Settled b q c₁ t f.to u (Ok tt) b' q' d
            → SteppedAs whole c (Ok (Did l)) b' q' d
        unfolding SettledAs
        delivery-taken b' q' d h =
            turn-done b q c c₁ whole mid k (without i (state_in whole).flight) t (message_at (state_in whole) i).to u l delivery-given passed refl
            (omega arith) b' q' d (settled (Ok tt) b' q' d h)

        pub delivery-down : (r : Refusal) (b' : List ℕ) (q' : List Flight) (d : Progress) → Settled b q c₁ t f.to u (Err r) b' q' d
            → SteppedAs whole c (Err r) b' q' c
        unfolding SettledAs
        delivery-down r b' q' d h =
            turn-refused b q c c₁ whole mid k (without i (state_in whole).flight) t (message_at (state_in whole) i).to u l delivery-given passed refl
            (omega arith) r b' q' d (settled (Err r) b' q' d h)
