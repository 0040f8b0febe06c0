-- Each event of the platform is an event of the proof. Assumes nothing.
use mathlib.Core.Path.{◌≡◌, refl, sym, ap, ◌∙◌, subst}
use mathlib.Core.Logic.{◌⊎◌, inl, inr, ◌≢◌}
use mathlib.Core.Bool.{Bool, true, false, cond, not}
use mathlib.Core.List.Memᴰ
use mathlib.Core.List.{List, [], ◌∷◌, Memᴰ}
use Prim.Native.Nat.{ℕ, zero, suc, ◌+◌, ◌≤◌, ◌<◌}
use native.Mathlib.Omega.{arith}
use lib.ListN.{length}
use Rattle.ring.specs.Ring.{numbers, listed, listing, place, targets, InOrder}
use Rattle.ring.proofs.Neighbours.{found_back}
use Rattle.node.specs.declared.Node.{Node}
use Rattle.node.specs.Node.{H, O, R, Turn, silent, alone, due, reports}
use Rattle.node.specs.Node.{on_message, sending, left_list, left_mark, new_emitter, moved, with_observer, with_watch}
use Rattle.node.specs.Node.{with_heartbeat, with_list, beat as beat_to}
use Rattle.node.specs.declared.Message.{Message}
use Rattle.node.proofs.Moves.{Heard, renews, unheard, Reported, known, own, leaves, relays, Messaged, beats, observes, tells, messaged, beaten}
use Rattle.node.proofs.Moves.{other-is-report, heard_list, told_node, told_sends}
use Rattle.node.proofs.Moves.{moved_sends, Left, stops, moves, left}
use Rattle.plans.specs.Plan.{Plan, order_of}
use Rattle.model.specs.Platform.{InFlight, State, Event, alive, survivors, delay_of, numbered, node_of, taken, message_at, without, received, apply}
use Rattle.model.specs.Platform.{crash as crash_e, message as message_e, watch as watch_e, heartbeat as beat_e}
use Rattle.plans.specs.Plain.{no_crash, row_at}
use Rattle.model.specs.Range.{EndsInE, FlightRange, NotBefore, Sound}
use Rattle.model.specs.Claims.{S, settled_by, Spaced}
use Rattle.ring.proofs.Unlisted.{count_by}
use Rattle.ring.proofs.GoingBack.{Found}
use Rattle.ring.proofs.Laws.{keep-ext}
use Rattle.ring.proofs.Lists.{listing-other, listing-lists}
use Rattle.ring.proofs.Gaps.{gap}
use Rattle.model.proofs.Events.{Seen, Frame, AtTimer, AtMessage, Cause, by_expiry, by_report, Leaves, Step, crash, drop, idle, beat}
use Rattle.model.proofs.Events.{watched, report, moves as moves-on, alone as alone_s, sends}
use Rattle.model.proofs.Invariant.{Inv}
use Rattle.model.proofs.EmitterLeft.{report-not-alone}
use Rattle.model.proofs.Phases.{span, crashed_in}
use Rattle.model.proofs.SpacedRuns.{Last, none as never, at, after, SpacedStep}
use Rattle.plans.proofs.Rows.{hit-of}
use Rattle.model.proofs.NextEvent.{next-alive, alive-other, alive-hit, Chosen}
use Rattle.model.proofs.RangesKept.{delay-ok, without_in, without-has, at_mem, in-n}
use Rattle.model.proofs.Viewed.{tick-of, P, on_of, seen, view, least, frame, told, adds, learns}

-- the last crash of the first k
abbrev pub last_of : Plan → ℕ → Last
last_of p zero = never
last_of p (suc i) = at (row_at p i).tick

module _ (p : Plan) (ac : EndsInE p) where
  pub survivors-cnt : (s : State) → count_by p.n (crashed_in (view p s)) ≡ survivors p s.done
  unfolding survivors count_by
  survivors-cnt s =
      ap length
      (keep-ext (λ k. not (not (alive p s.done k))) (alive p s.done) (numbers 0 p.n) (λ k. twice (alive p s.done k)))
    where
      twice : (b : Bool) → not (not b) ≡ b
      twice true = refl
      twice false = refl

  module _ (s : State) (r : Sound p s) (i : Inv (P p ac) (view p s)) where
    -- a step, what it leaves as the last crash, and that it is spaced where the rows are
    pub record Does (s' : State) : Type 0 where
      pub step : Step (P p ac) (view p s) (view p s')
      pub last : after (P p ac) (view p s) (view p s') step (last_of p s.done) ≡ last_of p s'.done
      pub spaced : Spaced p s'.done → SpacedStep (P p ac) (view p s) (view p s') step (last_of p s.done)
      pub more : s.done ≤ s'.done

    spaced-at : (n t : ℕ) → s.done ≡ suc n → (row_at p s.done).tick ≡ t → Spaced p (suc s.done)
        → (row_at p n).tick + span (P p ac) (count_by p.n (crashed_in (view p s))) ≤ t
    unfolding Spaced settled_by S
    spaced-at n t e q sp = rw (survivors-cnt s, e) (rw (sym q, e) (sp n (omega arith)))

    live-is : (x : ℕ) → alive p s.done x ≡ true → (n : Node) → seen (alive p s.done x) n ≡ seen true n
    live-is x l n = ap (λ (b : Bool). seen b n) l

    -- ---- a node that leaves its emitter: `gone` is delivered by it, `rest` is left in flight

    module _ (t : ℕ) (a : s.last ≤ t) (b : t ≤ p.end) (x : ℕ) (x_n : x < p.n) (alive-x : alive p s.done x ≡ true) (gone rest : List InFlight)
        (why : Cause (P p ac) (view p s) t x gone) (other : (node_of s x).emitter ≢ x) (at-message : AtMessage (P p ac) (view p s) t)
        (keeps : (g : InFlight) → Memᴰ g s.flight → Memᴰ g gone ⊎ Memᴰ g rest)
        (old : (g : InFlight) → Memᴰ g rest → Memᴰ g s.flight) where
      abbrev nx : Node
      nx = node_of s x

      abbrev io : InOrder p.n (order_of p)
      io = ac.plain.order

      abbrev y : ℕ
      y = new_emitter (order_of p) nx

      -- alone, where it is the last
      abbrev lone : Node
      lone = alone x (left_list nx) (left_mark nx)

      un : listed (left_list nx) x ≡ false
      un = listing-other nx.list nx.emitter x other (r.live x alive-x).lists

      -- the new emitter is found going back from the old one, seen from x
      back_found : Found p.n io (listed (left_list nx)) x (gap p.n io x nx.emitter) y
      back_found =
          found_back p.n (left_list nx) (order_of p) io x x_n un nx.emitter (r.fields x x_n).emitter other (listing-lists nx.list nx.emitter)

      leaving : Leaves (P p ac) (view p s) t x gone (listed (left_list nx)) y
      leaving = record {
        live = alive-x;
        cause = why;
        apart = other;
        adds = adds p ac s r nx.list nx.emitter;
        back = record { in_n = back_found.in_n; unlisted = back_found.unlisted; past = back_found.past; passed = back_found.passed };
        least = at-message;
      }

      leaves-does : (u : Turn) → Left (order_of p) p.w t x nx u → Does (taken p s t x rest u)
      unfolding taken numbered
      leaves-does u (stops e) = stop gone why leaving keeps
        where
          stop : (gone : List InFlight) → Cause (P p ac) (view p s) t x gone → Leaves (P p ac) (view p s) t x gone (listed (left_list nx)) y
              → ((g : InFlight) → Memᴰ g s.flight → Memᴰ g gone ⊎ Memᴰ g rest) → Does (taken p s t x rest u)
          stop _ (by_expiry on due none) l kp = record {
            step = alone_s t x (listed (left_list nx)) (listed (left_mark nx)) record {
              leaves = rw e at l;
              marks = adds p ac s r nx.mark nx.emitter;
              frame = frame p ac s r t x [] rest (silent lone) _ x_n a b (live-is x alive-x lone) kp old;
            };
            last = refl;
            spaced = λ sp. tt;
            more = omega arith;
          }
          stop _ (by_report m h to k about due) l kp = absurd (report-not-alone (P p ac) (view p s) (view p s) i t x _ _ y l m h to k due e)
      leaves-does u (moves ne) = record {
        step = moves-on t x gone (listed (left_list nx)) (listed (left_mark nx)) _
            (record { number = s.next; kind = O; from = x; to = y; subject = 0; due = t + delay_of p s.next; list = 0 })
            (numbered p t x (suc s.next) (reports nx.emitter (targets (order_of p) (left_list nx) (place (order_of p) x)))) record {
              leaves = leaving;
              marks = adds p ac s r nx.mark nx.emitter;
              other = ne;
              o-by = refl;
              o-after = omega (arith, (delay-ok p ac.plain s.next).0);
              o-within = omega (arith, (delay-ok p ac.plain s.next).1);
              o-kind = refl;
              o-to = refl;
              rs = told p ac s r x t nx.emitter (left_list nx) (suc s.next) x_n un;
              frame = frame p ac s r t x gone rest (sending (moved p.w t y nx) (moved_sends (order_of p) p.w t x nx)) _ x_n a b
                  (live-is x alive-x (moved p.w t y nx)) keeps old;
            };
        last = refl;
        spaced = λ sp. tt;
        more = omega arith;
      }

    module _ (t : ℕ) (a : s.last ≤ t) (b : t ≤ p.end) where
      crash-does : (k : ℕ) → Chosen p ac.plain s t (crash_e k) → Does (apply p s t (crash_e k))
      unfolding Chosen apply
      crash-does k ch = record { step = crash t k ev; last = ap at (sym ch.1); spaced = λ sp. sd s.done refl sp; more = omega arith }
        where
          d : ℕ
          d = s.done

          k-is : (row_at p s.done).node ≡ k
          k-is = ch.2

          ev : Rattle.model.proofs.Events.Crash (P p ac) (view p s) (view p (apply p s t (crash_e k))) t k
          ev = record {
            live = rw (sym k-is) (next-alive p ac.plain s.done ch.0);
            plan = hit-of p.crashes no_crash s.done k ch.0 k-is;
            at = tick-of p.crashes no_crash s.done k ac.plain.once ch.0 k-is ∙ ch.1;
            least = least p ac s r t t t ch.3;
            frame = record {
              last' = refl;
              here = ap (λ (b : Bool). seen b (node_of s k)) (rw (sym k-is) (alive-hit p ac.plain s.done ch.0));
              other = λ j ne. ap (λ (b : Bool). seen b (node_of s j)) (alive-other p ac.plain s.done j ch.0 (λ e. ne (e ∙ k-is)));
              keep = λ g h. inr h;
              came = λ g h. inl h;
              add = λ g h. absurd (Memᴰ.not-nil h);
            };
          }

          sd : (n : ℕ) → s.done ≡ n → Spaced p (suc s.done)
              → SpacedStep (P p ac) (view p s) (view p (apply p s t (crash_e k))) (crash t k ev) (last_of p n)
          sd zero e sp = tt
          sd (suc n) e sp = c
            where
              c : (row_at p n).tick + span (P p ac) (count_by p.n (crashed_in (view p s))) ≤ t
              c = spaced-at n t e ch.1 sp

      timer-least : NotBefore p s (suc t) (suc t) t → AtTimer (P p ac) (view p s) t
      timer-least nb = least p ac s r (suc t) (suc t) t nb

      -- the heartbeat that x sends, and the same in flight
      abbrev beat-of : ℕ → Message
      beat-of x = beat_to (node_of s x).observer (node_of s x).list

      abbrev numbered_beat : ℕ → InFlight
      numbered_beat x = record {
        number = s.next;
        kind = H;
        from = x;
        to = (node_of s x).observer;
        subject = 0;
        due = t + delay_of p s.next;
        list = (node_of s x).list;
      }

      beat-does : (x : ℕ) → Chosen p ac.plain s t (beat_e x) → Does (apply p s t (beat_e x))
      unfolding Chosen apply taken numbered
      beat-does x ch = rw (beaten p.h t (node_of s x)) (record {
        step = sends t x (numbered_beat x) record {
          live = ch.1;
          on = (on_of (node_of s x).heartbeat t ch.2).0;
          due = (on_of (node_of s x).heartbeat t ch.2).1;
          by = refl;
          after = omega (arith, (delay-ok p ac.plain s.next).0);
          within = omega (arith, (delay-ok p ac.plain s.next).1);
          kind = refl;
          to = refl;
          carries = λ k. refl;
          least = timer-least ch.3;
          frame = frame p ac s r t x [] s.flight (sending (with_heartbeat (node_of s x) (due (t + p.h))) (beat-of x ∷ [])) _
              (in-n p ac.plain s r x ch.0) a b (live-is x ch.1 (with_heartbeat (node_of s x) (due (t + p.h)))) (λ g h. inr h) (λ g h. h);
        };
        last = refl;
        spaced = λ sp. tt;
        more = omega arith;
      })

      watch-least : AtTimer (P p ac) (view p s) t → AtMessage (P p ac) (view p s) t
      watch-least l =
          record { message≥ = λ g h. omega (arith, l.message≥ g h); watch≥ = l.watch≥; heartbeat≥ = l.heartbeat≥; crash≥ = l.crash≥ }

      watch-does : (x : ℕ) → Chosen p ac.plain s t (watch_e x) → Does (apply p s t (watch_e x))
      unfolding Chosen apply
      watch-does x ch =
          let on = on_of (node_of s x).watch t ch.2 in
          let at-timer = timer-least ch.3 in
          leaves-does t a b x (in-n p ac.plain s r x ch.0) ch.1 [] s.flight (by_expiry on.0 on.1 at-timer.message≥)
          ((r.live x ch.1).observes (λ z. omega (arith, ch.2))) (watch-least at-timer) (λ g h. inr h) (λ g h. h) _
          (left (order_of p) p.w t x (node_of s x))

    -- a message, at the tick at which it is due
    module _ (k : ℕ) (less : k < length s.flight) (b : (message_at s k).due ≤ p.end)
        (nb : NotBefore p s (suc (message_at s k).due) (message_at s k).due (message_at s k).due) where
      abbrev m : InFlight
      m = message_at s k

      abbrev x : ℕ
      x = m.to

      abbrev n : Node
      n = node_of s x

      has : Memᴰ m s.flight
      has = at_mem s.flight k less

      fl : FlightRange p s.last m
      fl = r.flying m has

      a : s.last ≤ m.due
      a = r.past.message m has

      dl : AtMessage (P p ac) (view p s) m.due
      dl = least p ac s r (suc m.due) m.due m.due nb

      keeps : (g : InFlight) → Memᴰ g s.flight → Memᴰ g (m ∷ []) ⊎ Memᴰ g (without k s.flight)
      keeps g h = go (without-has s.flight k g h)
        where
          go : (g ≡ m) ⊎ Memᴰ g (without k s.flight) → Memᴰ g (m ∷ []) ⊎ Memᴰ g (without k s.flight)
          go (inl e) = inl (Memᴰ.head e)
          go (inr h) = inr h

      fr : (u : Turn) (n' : Seen) → seen (alive p s.done x) u.node ≡ n'
          → Frame (P p ac) (view p s) (view p (taken p s m.due x (without k s.flight) u)) m.due x n' (m ∷ [])
          (numbered p m.due x s.next u.sends)
      fr u n' e =
          frame p ac s r m.due x (m ∷ []) (without k s.flight) u n' fl.to a b e keeps (without_in s.flight k)

      abbrev Goes : Turn → Type 0
      Goes u = Does (taken p s m.due x (without k s.flight) u)

      drops : alive p s.done x ≡ false → Goes (silent n)
      unfolding taken numbered
      drops l = record {
        step = drop m record { has = has; dead = l; least = dl; frame = fr (silent n) _ refl };
        last = refl;
        spaced = λ sp. tt;
        more = omega arith;
      }

      idles : alive p s.done x ≡ true
          → ((m.kind ≡ H) × (n.emitter ≢ m.from)) ⊎ ((m.kind ≡ R) × ((listed n.mark m.subject ≡ true) ⊎ (m.subject ≡ m.to)))
          → Goes (silent n)
      unfolding taken numbered
      idles l why = record {
        step = idle m record { has = has; live = l; why = why; least = dl; frame = fr (silent n) _ refl };
        last = refl;
        spaced = λ sp. tt;
        more = omega arith;
      }

      abbrev heard-list : ℕ
      heard-list = heard_list p.w m.due x m.from m.list n

      heartbeat-does : alive p s.done x ≡ true → m.kind ≡ H → (u : Turn) → Heard p.w m.due x m.from m.list n u → Goes u
      unfolding taken numbered
      heartbeat-does l k0 u (unheard e) = idles l (inl (k0, e))
      heartbeat-does l k0 u (renews e) = let v : Node = with_list (with_watch n (due (m.due + p.w))) heard-list in record {
        step = beat m (listed heard-list) record {
          has = has;
          live = l;
          kind = k0;
          of = e;
          learns = learns p ac s r x m n.list;
          least = dl;
          frame = fr (silent v) _ (live-is x l v);
        };
        last = refl;
        spaced = λ sp. tt;
        more = omega arith;
      }

      observer-does : alive p s.done x ≡ true → m.kind ≡ O → Goes (silent (with_heartbeat (with_observer n m.from) (due m.due)))
      unfolding taken numbered
      observer-does l k1 = let v : Node = with_heartbeat (with_observer n m.from) (due m.due) in record {
        step = watched m record {
          has = has;
          live = l;
          kind = k1;
          least = dl;
          frame = fr (silent v) _ (live-is x l v);
        };
        last = refl;
        spaced = λ sp. tt;
        more = omega arith;
      }

      report-does : alive p s.done x ≡ true → m.kind ≡ R → (u : Turn) → Reported (order_of p) p.w m.due x m.subject n u → Goes u
      unfolding taken
      report-does l k2 u (known e) = idles l (inr (k2, inl e))
      report-does l k2 u (own e) = idles l (inr (k2, inr e))
      report-does l k2 u (leaves fresh ne about v g) =
          leaves-does m.due a b x fl.to l (m ∷ []) (without k s.flight) (by_report m has refl k2 about refl) (λ q. ne (about ∙ q)) dl keeps
          (without_in s.flight k) v g
      report-does l k2 u (relays fresh ne other) =
          let list : ℕ = listing n.list m.subject in
          let told-node : Node = told_node (order_of p) p.w m.due x m.subject n in
          let un : listed list x ≡ false = listing-other n.list m.subject x ne (r.live x l).lists in
          record {
            step = report m (listed list) (listed (listing n.mark m.subject)) _ record {
              has = has;
              live = l;
              kind = k2;
              adds = adds p ac s r n.list m.subject;
              marks = adds p ac s r n.mark m.subject;
              fresh = fresh;
              rs = told p ac s r x m.due m.subject list s.next fl.to un;
              least = dl;
              frame = fr (sending told-node (told_sends (order_of p) p.w m.due x m.subject n)) _ (live-is x l told-node);
            };
            last = refl;
            spaced = λ sp. tt;
            more = omega arith;
          }

      message-does : Does (apply p s m.due (message_e k))
      unfolding apply received
      message-does =
          go (alive p s.done x) refl (on_message (order_of p) p.w m.due x m.kind m.from m.subject m.list n)
          (messaged (order_of p) p.w m.due x m.kind m.from m.subject m.list n)
        where
          go : (c : Bool) → alive p s.done x ≡ c → (u : Turn) → Messaged (order_of p) p.w m.due x m.kind m.from m.subject m.list n u
              → Goes (cond c u (silent n))
          go false l u h = drops l
          go true l u (beats e v h) = heartbeat-does l e v h
          go true l u (observes e) = observer-does l e
          go true l u (tells h o v g) = report-does l (other-is-report m.kind fl.kind h o) v g

    -- any event that is chosen
    pub event-does : (t : ℕ) (ev : Event) → Chosen p ac.plain s t ev → s.last ≤ t → t ≤ p.end → Does (apply p s t ev)
    unfolding Chosen
    event-does t (crash_e k) ch a b = crash-does t a b k ch
    event-does t (watch_e x) ch a b = watch-does t a b x ch
    event-does t (beat_e x) ch a b = beat-does t a b x ch
    event-does t (message_e k) ch a b =
        subst (λ u. Chosen p ac.plain s u (message_e k) → u ≤ p.end → Does (apply p s u (message_e k))) (due-is ch)
        (λ ch b. of-chosen ch b) ch b
      where
        due-is : Chosen p ac.plain s t (message_e k) → (message_at s k).due ≡ t
        due-is ch = ch.1

        of-chosen : Chosen p ac.plain s (message_at s k).due (message_e k) → (message_at s k).due ≤ p.end
            → Does (apply p s (message_at s k).due (message_e k))
        of-chosen ch b = message-does k ch.0 b ch.2
