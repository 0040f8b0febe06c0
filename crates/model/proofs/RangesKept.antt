-- Opening gives a sound state, and every event keeps it sound, whatever W. Assumes nothing.
use mathlib.Core.Path.{◌≡◌, refl, sym, ap, ◌∙◌}
use mathlib.Core.Logic.{◌⊎◌, inl, inr, ◌≢◌}
use mathlib.Core.Bool.{Bool, true, false, cond, true≢false}
use mathlib.Core.List.Memᴰ
use mathlib.Core.List.{List, [], ◌∷◌, ◌++◌, map, Memᴰ}
use mathlib.Core.Option.{Option, none, some}
use Prim.Native.Nat.{ℕ, zero, suc, ◌+◌, ◌^◌, ◌≤◌, ◌<◌}
use native.Mathlib.Nat.{add-zero, zero-add}
use native.Mathlib.Omega.{arith}
use native.Mathlib.Decide.{ℕ_discrete, dec_lt}
use borrow.Author.Tests.{leb-true, leb-false}
use lib.Dec.{eqb, leb}
use lib.ListN.{length, get_or, take, drop, length-set, length-map, get_or-eq_default}
use lib.Seq.{get_or-set_same, get_or-set_other}
use Rattle.limits.specs.Limits.{most_in_flight}
use Rattle.ring.specs.Ring.{numbers, InOrder}
use Rattle.ring.proofs.Rows.{length-numbers}
use Rattle.node.specs.declared.Node.{Node}
use Rattle.node.specs.declared.Message.{Message}
use Rattle.node.specs.Node.{Turn, silent, alone, opening, on_message, on_watch_due, on_heartbeat_due, ringed}
use Rattle.node.specs.Range.{NodeRange, LiveRange, NotOverdue, Known}
use Rattle.node.proofs.Moves.{Opened, joins, starts-alone, opened}
use Rattle.node.proofs.Sends.{Sendable}
use Rattle.node.proofs.Ranges.{Took, later-range, opening-range, message-took, beat-took, watch-took}
use Rattle.plans.specs.Plan.{Delay, Plan, order_of}
use Rattle.model.specs.Platform.{InFlight, State, Event, Entry, crash, message, watch, heartbeat, alive, delay_in, delay_of, start, next_event, numbered}
use Rattle.model.specs.Platform.{node_of, taken, no_message, message_at, without, received, apply, fits, Outcome, did, ended, refused, tried, try, left}
use Rattle.model.specs.Platform.{steps, after}
use Rattle.plans.specs.Plain.{row_at, Plain}
use Rattle.model.specs.Range.{FlightRange, Rises, NotBefore, Sound}
use Rattle.ring.proofs.Lists.{listed-none}
use Rattle.model.proofs.NextEvent.{alive-other, alive-hit, Chosen, Best, best}

-- ---- messages

delay-in : (d k : ℕ) (rs : List Delay) → 1 ≤ d → ((r : Delay) → Memᴰ r rs → (1 ≤ r.delay) × (r.delay ≤ d))
    → (1 ≤ delay_in d rs k) × (delay_in d rs k ≤ d)
unfolding delay_in
delay-in d k [] h f = (h, omega arith)
delay-in d k (r ∷ rs) h f = go (eqb r.number k) (delay-in d k rs h (λ q m. f q (Memᴰ.tail m)))
  where
    go : (b : Bool) → (1 ≤ delay_in d rs k) × (delay_in d rs k ≤ d)
        → (1 ≤ cond b r.delay (delay_in d rs k)) × (cond b r.delay (delay_in d rs k) ≤ d)
    go true ih = f r (Memᴰ.head refl)
    go false ih = ih

pub delay-ok : (p : Plan) → Plain p → (k : ℕ) → (1 ≤ delay_of p k) × (delay_of p k ≤ p.d)
unfolding delay_of
delay-ok p pl k = delay-in p.d k p.delays pl.d≥ pl.delay

pub record Given (p : Plan) (t x k : ℕ) (us : List Message) (m : InFlight) : Type 0 where
  pub u : Message
  pub has : Memᴰ u us
  pub kind : m.kind ≡ u.kind
  pub to : m.to ≡ u.to
  pub subject : m.subject ≡ u.subject
  pub from : m.from ≡ x
  pub due : m.due ≡ t + delay_of p m.number
  pub list : m.list ≡ u.list

module _ (p : Plan) (t x : ℕ) where
  pub numbered-in : (us : List Message) (k : ℕ) (m : InFlight) → Memᴰ m (numbered p t x k us) → Given p t x k us m
  unfolding numbered
  numbered-in [] k m h = absurd (Memᴰ.not-nil h)
  numbered-in (u ∷ us) k m h = go (Memᴰ.cases_cons h) (numbered-in us (suc k) m)
    where
      go : (m ≡ record { number = k; kind = u.kind; from = x; to = u.to; subject = u.subject; due = t + delay_of p k; list = u.list })
          ⊎ Memᴰ m (numbered p t x (suc k) us)
          → (Memᴰ m (numbered p t x (suc k) us) → Given p t x (suc k) us m) → Given p t x k (u ∷ us) m
      go (inl e) ih = rw e (record { u = u; has = Memᴰ.head refl; kind = refl; to = refl; subject = refl; from = refl; due = refl; list = refl })
      go (inr q) ih =
          let g : Given p t x (suc k) us m = ih q in
          record {
            u = g.u;
            has = Memᴰ.tail g.has;
            kind = g.kind;
            to = g.to;
            subject = g.subject;
            from = g.from;
            due = g.due;
            list = g.list;
          }

  -- each that is sent is in flight
  pub numbered-has : (us : List Message) (k : ℕ) (v : Message) → Memᴰ v us
      → (m : InFlight) × Memᴰ m (numbered p t x k us) × (m.to ≡ v.to)
  unfolding numbered
  numbered-has [] k v h = absurd (Memᴰ.not-nil h)
  numbered-has (u ∷ us) k v h = go (Memᴰ.cases_cons h) (numbered-has us (suc k) v)
    where
      go : (v ≡ u) ⊎ Memᴰ v us → (Memᴰ v us → (m : InFlight) × Memᴰ m (numbered p t x (suc k) us) × (m.to ≡ v.to))
          → (m : InFlight)
          × Memᴰ m
          (record { number = k; kind = u.kind; from = x; to = u.to; subject = u.subject; due = t + delay_of p k; list = u.list }
          ∷ numbered p t x (suc k) us)
          × (m.to ≡ v.to)
      go (inl e) ih = (
        record { number = k; kind = u.kind; from = x; to = u.to; subject = u.subject; due = t + delay_of p k; list = u.list },
        Memᴰ.head refl,
        ap (λ (a : Message). a.to) (sym e),
      )
      go (inr q) ih =
          let r : (m : InFlight) × Memᴰ m (numbered p t x (suc k) us) × (m.to ≡ v.to) = ih q in (r.0, Memᴰ.tail r.1, r.2)

  numbered-rises : (us : List Message) (k : ℕ) → Rises k (k + length us) (numbered p t x k us)
  unfolding numbered Rises
  numbered-rises [] k = omega arith
  numbered-rises (u ∷ us) k = let e : k + suc (length us) ≡ suc k + length us = omega arith in (omega arith, rw e (numbered-rises us (suc k)))

rises-low : (ms : List InFlight) (a b hi : ℕ) → a ≤ b → Rises b hi ms → Rises a hi ms
unfolding Rises
rises-low [] a b hi h r = omega arith
rises-low (m ∷ ms) a b hi h r = (omega (arith, r.0), r.1)

rises-append : (xs ys : List InFlight) (a b c : ℕ) → Rises a b xs → Rises b c ys → Rises a c (xs ++ ys)
unfolding Rises
rises-append [] ys a b c h r = rises-low ys a b c h r
rises-append (x ∷ xs) ys a b c h r = (h.0, rises-append xs ys (suc x.number) b c h.1 r)

rises-without : (ms : List InFlight) (i a b : ℕ) → Rises a b ms → Rises a b (without i ms)
unfolding Rises without
rises-without [] zero a b h = h
rises-without [] (suc i) a b h = h
rises-without (m ∷ ms) zero a b h = rises-low ms a (suc m.number) b (omega (arith, h.0)) h.1
rises-without (m ∷ ms) (suc i) a b h = (h.0, rises-without ms i (suc m.number) b h.1)

pub without_in : (ms : List InFlight) (i : ℕ) (m : InFlight) → Memᴰ m (without i ms) → Memᴰ m ms
unfolding without
without_in [] zero m h = h
without_in [] (suc i) m h = h
without_in (a ∷ ms) zero m h = Memᴰ.tail h
without_in (a ∷ ms) (suc i) m h = go (Memᴰ.cases_cons h) (without_in ms i m)
  where
    go : (m ≡ a) ⊎ Memᴰ m (take i ms ++ drop (suc i) ms) → (Memᴰ m (take i ms ++ drop (suc i) ms) → Memᴰ m ms)
        → Memᴰ m (a ∷ ms)
    go (inl e) ih = Memᴰ.head e
    go (inr q) ih = Memᴰ.tail (ih q)

pub without-has : (ms : List InFlight) (i : ℕ) (m : InFlight) → Memᴰ m ms → (m ≡ get_or ms i no_message) ⊎ Memᴰ m (without i ms)
unfolding without
without-has [] i m h = absurd (Memᴰ.not-nil h)
without-has (a ∷ ms) zero m h = Memᴰ.cases_cons h
without-has (a ∷ ms) (suc i) m h = go (Memᴰ.cases_cons h) (without-has ms i m)
  where
    go : (m ≡ a) ⊎ Memᴰ m ms → (Memᴰ m ms → (m ≡ get_or ms i no_message) ⊎ Memᴰ m (take i ms ++ drop (suc i) ms))
        → (m ≡ get_or ms i no_message) ⊎ Memᴰ m (a ∷ (take i ms ++ drop (suc i) ms))
    go (inl e) ih = inr (Memᴰ.head e)
    go (inr q) ih = up (ih q)
      where
        up : (m ≡ get_or ms i no_message) ⊎ Memᴰ m (take i ms ++ drop (suc i) ms)
            → (m ≡ get_or ms i no_message) ⊎ Memᴰ m (a ∷ (take i ms ++ drop (suc i) ms))
        up (inl e) = inl e
        up (inr q) = inr (Memᴰ.tail q)

pub at_in : {A : Type 0} (z : A) (xs : List A) (i : ℕ) → i < length xs → Memᴰ (get_or xs i z) xs
at_in z [] i h = absurd (omega arith)
at_in z (x ∷ xs) zero h = Memᴰ.head refl
at_in z (x ∷ xs) (suc i) h = Memᴰ.tail (at_in z xs i (omega arith))

pub at_mem : (ms : List InFlight) (i : ℕ) → i < length ms → Memᴰ (get_or ms i no_message) ms
at_mem ms i h = at_in no_message ms i h

-- ---- an event

-- the node that takes a turn is what the turn leaves
pub node-taken : (p : Plan) (t x : ℕ) (s : State) (rest : List InFlight) (v : Turn) → x < length s.nodes → node_of (taken p s t x rest v) x ≡ v.node
unfolding taken
node-taken p t x s rest v h = get_or-set_same s.nodes x v.node (alone x 0 0) h

module _ (p : Plan) (pl : Plain p) (s : State) (r : Sound p s) where
  abbrev io : InOrder p.n (order_of p)
  io = pl.order

  pub in-n : (x : ℕ) → x < length s.nodes → x < p.n
  in-n x h = rw r.nodes at h

  module _ (t : ℕ) (now≤ : s.last ≤ t) (end≥ : t ≤ p.end) where
    -- what is in range stays so
    now-fields : (x : ℕ) → x < p.n → NodeRange p.n p.h p.w t (node_of s x)
    now-fields x x_n = later-range p.n p.h p.w s.last t (node_of s x) now≤ (r.fields x x_n)

    later-flight : (g : InFlight) → FlightRange p s.last g → FlightRange p t g
    later-flight g f = record {
      kind = f.kind;
      from = f.from;
      to = f.to;
      subject = f.subject;
      apart = f.apart;
      due = omega (arith, f.due);
      list = f.list;
    }

    -- one node takes a turn
    module _ (x : ℕ) (x_n : x < p.n) (rest : List InFlight) (u : Turn) where
      pub here : node_of (taken p s t x rest u) x ≡ u.node
      here = node-taken p t x s rest u (rw r.nodes x_n)

      pub other : (j : ℕ) → j ≢ x → node_of (taken p s t x rest u) j ≡ node_of s j
      unfolding taken
      other j ne = get_or-set_other s.nodes x j u.node (alone j 0 0) ne

      each : (P : ℕ → Node → Type 0) → P x u.node → ((j : ℕ) → j ≢ x → P j (node_of s j)) → (j : ℕ)
          → P j (node_of (taken p s t x rest u) j)
      each P a b j = go (ℕ_discrete j x)
        where
          go : Dec (j ≡ x) → P j (node_of (taken p s t x rest u) j)
          go (yes e) = rw (e, here) a
          go (no e) = rw (other j e) (b j e)

      pub taken-range : (c m : ℕ) → t ≤ c → t ≤ m → NotBefore p s c m t → ((g : InFlight) → Memᴰ g rest → Memᴰ g s.flight)
          → Rises 0 s.next rest → NodeRange p.n p.h p.w t u.node
          → (alive p s.done x ≡ true → LiveRange x u.node × NotOverdue t u.node)
          → ((v : Message) → Memᴰ v u.sends → Sendable p.n x v) → length (taken p s t x rest u).flight ≤ most_in_flight
          → Sound p (taken p s t x rest u)
      unfolding taken
      taken-range c m tc tm nb sub ri fl st sd few = record {
        done = r.done;
        last = end≥;
        nodes = length-set s.nodes x u.node ∙ r.nodes;
        fields = λ j j_n. each (λ j a. j < p.n → NodeRange p.n p.h p.w t a) (λ h. fl) (λ j e h. now-fields j h) j j_n;
        live = λ j a. each (λ j n. alive p s.done j ≡ true → LiveRange j n) (λ a. (st a).0) (λ j e a. r.live j a) j a;
        flying = λ g h. fly g (Memᴰ.append_cases rest h);
        rises = rises-append rest out 0 s.next (s.next + length u.sends) ri (numbered-rises p t x u.sends s.next);
        few = few;
        past = record {
          crash = λ i a b. omega (arith, nb.crash i a b);
          message = λ g h. due g (Memᴰ.append_cases rest h);
          watch =
              λ j a. each (λ j n. alive p s.done j ≡ true → n.watch ≢ 0 → t < n.watch) (λ a. (st a).1.watch) (λ j e a. nb.watch j a) j a;
          heartbeat = λ j a.
              each (λ j n. alive p s.done j ≡ true → n.heartbeat ≢ 0 → t < n.heartbeat) (λ a. (st a).1.heartbeat)
              (λ j e a. nb.heartbeat j a) j a;
        };
      }
        where
          out : List InFlight
          out = numbered p t x s.next u.sends

          fly : (g : InFlight) → Memᴰ g rest ⊎ Memᴰ g out → FlightRange p t g
          fly g (inl h) = later-flight g (r.flying g (sub g h))
          fly g (inr h) =
              let q : Given p t x s.next u.sends g = numbered-in p t x u.sends s.next g h in
              let v : Sendable p.n x q.u = sd q.u q.has in
              record {
                kind = rw q.kind v.kind;
                from = rw q.from x_n;
                to = rw q.to v.to;
                subject = rw q.subject v.subject;
                apart = λ e. v.apart (sym q.to ∙ sym e ∙ q.from);
                due = omega (arith, q.due, (delay-ok p pl g.number).1);
                list = record { below = omega (arith, q.list, v.list.below); empty = λ h. q.list ∙ v.list.empty (λ e. h (q.kind ∙ e)) };
              }

          due : (g : InFlight) → Memᴰ g rest ⊎ Memᴰ g out → t ≤ g.due
          due g (inl h) = omega (arith, nb.message g (sub g h))
          due g (inr h) = omega (arith, (numbered-in p t x u.sends s.next g h).due)

    -- ---- the turn that each event makes

    module _ (x : ℕ) (x_n : x < p.n) (a : alive p s.done x ≡ true) where
      abbrev pub Takes : Turn → Type 0
      Takes u = Took p.n p.h p.w s.last t x (node_of s x) u

      pub received-took : (kind from subject list : ℕ) → Known kind → from < p.n → from ≢ x → subject < p.n → list < 2 ^ p.n
          → Takes (on_message (order_of p) p.w t x kind from subject list (node_of s x))
      received-took kind from subject list k f_n ne s_n l_n =
          message-took p.n (order_of p) io x x_n pl.n≤ p.h p.w s.last t (node_of s x) (r.fields x x_n) (r.live x a) kind from subject list
          k f_n ne (λ q. s_n) l_n

      pub watch-taken : (node_of s x).watch ≡ suc t → Takes (on_watch_due (order_of p) p.w t x (node_of s x))
      watch-taken e =
          watch-took p.n (order_of p) io x x_n pl.n≤ p.h p.w s.last t (node_of s x) (r.fields x x_n) (r.live x a) (λ z. omega arith)

      pub beat-taken : (node_of s x).heartbeat ≡ suc t → Takes (on_heartbeat_due p.h t (node_of s x))
      beat-taken e =
          beat-took p.n (order_of p) io x x_n pl.n≤ p.h p.w s.last t (node_of s x) (r.fields x x_n) (r.live x a) (λ z. omega arith)

      -- a timer of it is not overdue, as no event is left before t
      in-time : (c m : ℕ) → NotBefore p s c m t → (u : Turn) → Takes u → LiveRange x u.node × NotOverdue t u.node
      in-time c m nb u k = (k.live, k.timers (record { watch = nb.watch x a; heartbeat = nb.heartbeat x a }))

    -- ---- any event

    module _ (i : ℕ) (less : i < length s.flight) (nb : NotBefore p s (suc t) t t) where
      abbrev m : InFlight
      m = message_at s i

      abbrev turned : Turn → State
      turned u = taken p s t m.to (without i s.flight) u

      abbrev turn : Bool → Turn
      turn b = cond b (on_message (order_of p) p.w t m.to m.kind m.from m.subject m.list (node_of s m.to)) (silent (node_of s m.to))

      f : FlightRange p s.last m
      f = r.flying m (at_mem s.flight i less)

      turn-range : (u : Turn) → NodeRange p.n p.h p.w t u.node
          → (alive p s.done m.to ≡ true → LiveRange m.to u.node × NotOverdue t u.node)
          → ((v : Message) → Memᴰ v u.sends → Sendable p.n m.to v) → length (turned u).flight ≤ most_in_flight
          → Sound p (turned u)
      turn-range u =
          taken-range m.to f.to (without i s.flight) u (suc t) t (omega arith) (omega arith) nb (without_in s.flight i)
          (rises-without s.flight i 0 s.next r.rises)

      message-range : length (turned (turn (alive p s.done m.to))).flight ≤ most_in_flight → Sound p (turned (turn (alive p s.done m.to)))
      message-range = go (alive p s.done m.to) refl
        where
          go : (b : Bool) → alive p s.done m.to ≡ b → length (turned (turn b)).flight ≤ most_in_flight → Sound p (turned (turn b))
          go true e few =
              let k = received-took m.to f.to e m.kind m.from m.subject m.list f.kind f.from f.apart f.subject f.list.below in
              turn-range (turn true) (k.fields now≤) (λ a. in-time m.to f.to a (suc t) t nb (turn true) k) k.sends few
          go false e few =
              turn-range (turn false) (now-fields m.to f.to) (λ a. absurd (true≢false (sym a ∙ e))) (λ v h. absurd (Memᴰ.not-nil h)) few

    pub event-range : (ev : Event) → Chosen p pl s t ev → length (apply p s t ev).flight ≤ most_in_flight → Sound p (apply p s t ev)
    unfolding Chosen apply received
    event-range (crash k) ch few = record {
      done = ch.0;
      last = end≥;
      nodes = r.nodes;
      fields = now-fields;
      live = λ j a. r.live j (still j a);
      flying = λ g h. later-flight g (r.flying g h);
      rises = r.rises;
      few = few;
      past = record {
        crash = λ i a b. ch.3.crash i (omega arith) b;
        message = ch.3.message;
        watch = λ j a. ch.3.watch j (still j a);
        heartbeat = λ j a. ch.3.heartbeat j (still j a);
      };
    }
      where
        still : (j : ℕ) → alive p (suc s.done) j ≡ true → alive p s.done j ≡ true
        still j a = go (ℕ_discrete j (row_at p s.done).node)
          where
            go : Dec (j ≡ (row_at p s.done).node) → alive p s.done j ≡ true
            go (yes e) = absurd (true≢false (sym a ∙ rw e (alive-hit p pl s.done ch.0)))
            go (no e) = sym (alive-other p pl s.done j ch.0 e) ∙ a
    event-range (message i) ch few = message-range i ch.0 ch.2 few
    event-range (watch x) ch few =
        let x_n : x < p.n = in-n x ch.0 in
        let k = watch-taken x x_n ch.1 ch.2 in
        taken-range x x_n s.flight _ (suc t) (suc t) (omega arith) (omega arith) ch.3 (λ g h. h) r.rises (k.fields now≤)
        (λ a. in-time x x_n a (suc t) (suc t) ch.3 _ k) k.sends few
    event-range (heartbeat x) ch few =
        let x_n : x < p.n = in-n x ch.0 in
        let k = beat-taken x x_n ch.1 ch.2 in
        taken-range x x_n s.flight _ (suc t) (suc t) (omega arith) (omega arith) ch.3 (λ g h. h) r.rises (k.fields now≤)
        (λ a. in-time x x_n a (suc t) (suc t) ch.3 _ k) k.sends few

-- ---- opening

get_d_map : (f : ℕ → Node) (n j i : ℕ) (z : Node) → i < n → get_or (map f (numbers j n)) i z ≡ f (j + i)
unfolding numbers
get_d_map f zero j i z h = absurd (omega arith)
get_d_map f (suc n) j zero z h = rw add-zero
get_d_map f (suc n) j (suc i) z h = let e : suc j + i ≡ j + suc i = omega arith in get_d_map f n (suc j) i z (omega arith) ∙ ap f e

module _ (p : Plan) (pl : Plain p) where
  abbrev pub Shape : ℕ → Type 0
  Shape j =
      ((1 < p.n) × (j < p.n) × (node_of (start p) j ≡ ringed (order_of p) p.h p.w j))
      ⊎ ((node_of (start p) j ≡ alone j 0 0) × (1 < p.n → ¬ (j < p.n)))

  -- a node at opening
  pub start-node : (j : ℕ) → j < p.n → node_of (start p) j ≡ opening (order_of p) p.h p.w j
  unfolding start
  start-node j h = get_d_map (opening (order_of p) p.h p.w) p.n 0 j (alone j 0 0) h ∙ ap (opening (order_of p) p.h p.w) (zero-add j)

  -- there is none from n on
  start_none : (j : ℕ) → ¬ (j < p.n) → node_of (start p) j ≡ alone j 0 0
  unfolding start
  start_none j out = get_or-eq_default (start p).nodes (alone j 0 0) {n = j} (rw (length-map, length-numbers) (omega arith))

  pub shape : (j : ℕ) → Shape j
  shape j = go (dec_lt j p.n)
    where
      size : length (order_of p) ≡ p.n
      size = pl.order.size

      made : (a : Node) → Opened (order_of p) p.h p.w j a → j < p.n → node_of (start p) j ≡ a → Shape j
      made a (joins two) j_n e = inl (rw size at two, j_n, e)
      made a (starts-alone one) j_n e = inr (e, λ two. absurd (omega (arith, size)))

      go : Dec (j < p.n) → Shape j
      go (no out) = inr (start_none j out, λ two. out)
      go (yes j_n) = made _ (opened (order_of p) p.h p.w j) j_n (start-node j j_n)

  pub start-range : Sound p (start p)
  unfolding start Rises
  start-range = record {
    done = omega arith;
    last = omega arith;
    nodes = length-map (numbers 0 p.n) (opening (order_of p) p.h p.w) ∙ length-numbers p.n 0;
    fields = λ j j_n. rw (start-node j j_n) (opening-range p.n (order_of p) pl.order j j_n p.h p.w).0;
    live = λ j a. lives j (dec_lt j p.n);
    flying = λ m h. absurd (Memᴰ.not-nil h);
    rises = omega arith;
    few = omega arith;
    past = record { crash = λ i a b. omega arith; message = λ g h. omega arith; watch = λ j a o. omega arith; heartbeat = λ j a o. omega arith };
  }
    where
      lives : (j : ℕ) → Dec (j < p.n) → LiveRange j (node_of (start p) j)
      lives j (yes j_n) = rw (start-node j j_n) (opening-range p.n (order_of p) pl.order j j_n p.h p.w).1
      lives j (no out) =
          rw (start_none j out) (record { lists = listed-none j; observes = λ z. absurd (z refl); sends = λ z. absurd (z refl) })

  -- ---- any number of events

  -- an event that is chosen is not before the last one
  pub not-early : (s : State) → Sound p s → (t : ℕ) (ev : Event) → Chosen p pl s t ev → s.last ≤ t
  unfolding Chosen
  not-early s r t (crash k) ch = omega (arith, r.past.crash s.done (omega arith) ch.0, ch.1)
  not-early s r t (message i) ch = omega (arith, r.past.message (message_at s i) (at_mem s.flight i ch.0), ch.1)
  not-early s r t (watch x) ch = omega (arith, r.past.watch x ch.1 (λ z. on (node_of s x).watch z ch.2), ch.2)
    where
      on : (v : ℕ) → v ≡ 0 → v ≡ suc t → ⊥
      on v a b = omega arith
  not-early s r t (heartbeat x) ch = omega (arith, r.past.heartbeat x ch.1 (λ z. on (node_of s x).heartbeat z ch.2), ch.2)
    where
      on : (v : ℕ) → v ≡ 0 → v ≡ suc t → ⊥
      on v a b = omega arith

  -- what a try gives: an event that was chosen, or nothing
  pub data Tried (s : State) : Outcome → Type 0 where
    happened : (e : Entry) → e.tick ≤ p.end → s.last ≤ e.tick → Chosen p pl s e.tick e.event
        → length (apply p s e.tick e.event).flight ≤ most_in_flight → Tried s (did e (apply p s e.tick e.event))
    none_left : NotBefore p s (suc p.end) (suc p.end) (suc p.end) → Tried s ended
    too-many : (e : Entry) → Chosen p pl s e.tick e.event → most_in_flight < length (apply p s e.tick e.event).flight → Tried s refused

  pub try_ok : (s : State) → Sound p s → Tried s (try p s)
  unfolding try tried Best fits
  try_ok s r = go (next_event p s) (best p pl s)
    where
      go : (o : Option Entry) → Best p pl s o → Tried s (tried p s o)
      go none b = none_left b
      go (some e) b = at (leb (length (apply p s e.tick e.event).flight) most_in_flight) refl
        where
          at : (c : Bool) → leb (length (apply p s e.tick e.event).flight) most_in_flight ≡ c
              → Tried s (cond c (did e (apply p s e.tick e.event)) refused)
          at true q = happened e b.0 (not-early s r e.tick e.event b.1) b.1 (leb-true _ most_in_flight q)
          at false q = too-many e b.1 (leb-false _ most_in_flight q)

  pub left-range : (s : State) → Sound p s → (o : Outcome) → Tried s o → Sound p (left s o)
  unfolding left
  left-range s r o (happened e a b ch f) = event-range p pl s r e.tick b a e.event ch f
  left-range s r o (none_left h) = r
  left-range s r o (too-many e ch h) = r

  pub steps-range : (k : ℕ) (s : State) → Sound p s → Sound p (steps p k s)
  unfolding steps
  steps-range zero s r = r
  steps-range (suc k) s r = steps-range k (left s (try p s)) (left-range s r (try p s) (try_ok s r))

  -- every state that a plan leads to is in range
  pub after-range : (e : ℕ) → Sound p (after p e)
  unfolding after
  after-range e = steps-range e (start p) start-range
