-- A state of the platform as the proof sees it: the ring's order gives the parameters, and a turn of one node changes the view at that
-- node alone. Assumes nothing.
use mathlib.Core.Path.{◌≡◌, refl, sym, ap, ◌∙◌}
use mathlib.Core.Logic.{◌⊎◌, inl, inr, ◌≢◌}
use mathlib.Core.Bool.{Bool, true, false, cond, true≢false}
use mathlib.Core.List.Memᴰ
use mathlib.Core.List.{List, [], ◌∷◌, ◌++◌, Memᴰ}
use Prim.Native.Nat.{ℕ, zero, suc, ◌^◌, ◌≤◌, ◌<◌}
use native.Mathlib.Omega.{arith}
use borrow.Author.Tests.{eq-eqb, ne_eqb}
use lib.Dec.{eqb}
use lib.ListN.{length, get_or}
use Rattle.ring.specs.Ring.{jumps, listed, unlisted, listing, merging, place, ahead, count, targets, InOrder}
use Rattle.ring.proofs.Counts.{jumps-covers}
use Rattle.ring.proofs.Targets.{ahead-target, target_below}
use Rattle.node.specs.declared.Node.{Node}
use Rattle.node.specs.declared.Message.{Message}
use Rattle.node.specs.Node.{R, Turn, reports, message, learnt}
use Rattle.node.proofs.Learning.{learnt-only, learnt-takes}
use Rattle.node.proofs.Sends.{report-of, report-to, target-apart}
use Rattle.plans.specs.Plan.{Crash, Plan, hits, order_of}
use Rattle.model.specs.Platform.{InFlight, State, alive, numbered, node_of, taken}
use Rattle.plans.specs.Plain.{no_crash, Plain}
use Rattle.model.specs.Range.{EndsInE, NotBefore, Sound}
use Rattle.ring.proofs.Unlisted.{count_by, ahead_by}
use Rattle.ring.proofs.GoingBack.{hops, ahead-iter}
use Rattle.ring.proofs.Lists.{listing-keeps, listing-lists, listing-only, merging-keeps, merging-takes, merging-only}
use Rattle.ring.proofs.Gaps.{gap, gap≥1, gap≤n, gap-inj, gap-cyc, gap-add}
use Rattle.model.proofs.Events.{View, Carries, Params, Frame, Least, Sent, Reports, Adds, Learns, Seen}
use Rattle.model.proofs.NextEvent.{undone}
use Rattle.plans.proofs.Rows.{hit-where}
use Rattle.model.proofs.RangesKept.{delay-ok, Given, numbered-in, numbered-has, here, other}

-- ---- rows as a function of the node

unfoldable pub tick_in : List Crash → ℕ → ℕ
tick_in [] k = 0
tick_in (r ∷ rs) k = cond (eqb r.node k) r.tick (tick_in rs k)

pub tick-of : (rows : List Crash) (z : Crash) (i k : ℕ) → ((a b : ℕ) → a < b → b < length rows → (get_or rows a z).node ≢ (get_or rows b z).node)
    → i < length rows → (get_or rows i z).node ≡ k → tick_in rows k ≡ (get_or rows i z).tick
unfolding tick_in
tick-of [] z i k o h e = absurd (omega arith)
tick-of (r ∷ rs) z zero k o h e = rw (eq-eqb r.node k e)
tick-of (r ∷ rs) z (suc i) k o h e =
    rw (ne_eqb r.node k (λ q. o 0 (suc i) (omega arith) h (q ∙ sym e)))
    (tick-of rs z i k (λ a b x y. o (suc a) (suc b) (omega arith) (omega arith)) (omega arith) e)

module _ (p : Plan) (ac : EndsInE p) where
  abbrev pub pl : Plain p
  pl = ac.plain

  abbrev o : InOrder p.n (order_of p)
  o = pl.order

  pub planned-N : (k : ℕ) → hits p.crashes k ≡ true → k < p.n
  planned-N k h = let w = hit-where p.crashes no_crash k h in rw (sym w.2) (pl.node w.0 w.1)

  abbrev pub P : Params
  P = record {
    N = p.n;
    H = p.h;
    W = p.w;
    D = p.d;
    planned = hits p.crashes;
    c = tick_in p.crashes;
    planned-N = planned-N;
    gap = gap p.n o;
    gap≥1 = gap≥1 p.n o;
    gap≤N = gap≤n p.n o;
    gap-inj = gap-inj p.n o;
    gap-cyc = gap-cyc p.n o;
    gap-add = gap-add p.n o;
    cnt = count_by p.n;
    ahead = λ l x k. ahead_by (order_of p) l (place (order_of p) x) k;
    hops = λ l f fs. hops p.n o l f fs;
    ahead-is = λ l f fs. ahead-iter p.n o l f fs;
    log = jumps;
    log_is = jumps-covers;
    D≥1 = pl.d≥;
    W≥ = omega (arith, ac.long);
  }

-- ---- a timer, a node and a state

abbrev pub is_on : ℕ → Bool
is_on zero = false
is_on (suc t) = true

abbrev pub tick_of : ℕ → ℕ
tick_of zero = 0
tick_of (suc t) = t

pub on-is : (v : ℕ) → is_on v ≡ true → v ≡ suc (tick_of v)
on-is zero h = absurd (true≢false (sym h))
on-is (suc t) h = refl

pub on_of : (v t : ℕ) → v ≡ suc t → (is_on v ≡ true) × (tick_of v ≡ t)
on_of v t e = rw e (refl, refl)

abbrev pub seen : Bool → Node → Seen
seen b a = record {
  alive = b;
  emitter = a.emitter;
  observer = a.observer;
  watch_on = is_on a.watch;
  watch = tick_of a.watch;
  heartbeat_on = is_on a.heartbeat;
  heartbeat = tick_of a.heartbeat;
  list = listed a.list;
  mark = listed a.mark;
}

abbrev pub view : Plan → State → View
view p s = record { last = s.last; node = λ j. seen (alive p s.done j) (node_of s j); flight = s.flight }

module _ (p : Plan) (ac : EndsInE p) (s : State) (r : Sound p s) where
  abbrev pub Q : Params
  Q = P p ac

  pub least : (c m t : ℕ) → NotBefore p s c m t → Least Q (view p s) t m c
  least c m t nb = record {
    message≥ = nb.message;
    watch≥ = λ j l o. late (node_of s j).watch o (nb.watch j l);
    heartbeat≥ = λ j l o. late (node_of s j).heartbeat o (nb.heartbeat j l);
    crash≥ = λ k l q. cr k l (hit-where p.crashes no_crash k q);
  }
    where
      late : (v : ℕ) → is_on v ≡ true → (v ≢ 0 → t < v) → t ≤ tick_of v
      late v o f = let e : v ≡ suc (tick_of v) = on-is v o in omega (arith, f (λ z. off v z o))
        where
          off : (v : ℕ) → v ≡ 0 → is_on v ≡ true → ⊥
          off v z o = omega (arith, on-is v o)

      cr : (k : ℕ) → alive p s.done k ≡ true → (i : ℕ) × (i < length p.crashes) × ((get_or p.crashes i no_crash).node ≡ k)
          → c ≤ tick_in p.crashes k
      cr k l w =
          rw (tick-of p.crashes no_crash w.0 k ac.plain.once w.1 w.2)
          (nb.crash w.0 (undone p ac.plain s.done w.0 w.1 (rw w.2 l)) w.1)

  -- a turn of one node
  pub frame : (t x : ℕ) (gone rest : List InFlight) (u : Turn) (n' : Seen) → x < p.n → s.last ≤ t → t ≤ p.end
      → seen (alive p s.done x) u.node ≡ n'
      → ((g : InFlight) → Memᴰ g s.flight → Memᴰ g gone ⊎ Memᴰ g rest)
      → ((g : InFlight) → Memᴰ g rest → Memᴰ g s.flight)
      → Frame Q (view p s) (view p (taken p s t x rest u)) t x n' gone (numbered p t x s.next u.sends)
  unfolding taken
  frame t x gone rest u n' x_n a b e kp cm = record {
    last' = refl;
    here = ap (seen (alive p s.done x)) (here p ac.plain s r t a b x x_n rest u) ∙ e;
    other = λ j ne. ap (seen (alive p s.done j)) (other p ac.plain s r t a b x x_n rest u j ne);
    keep = λ g h. k g (kp g h);
    came = λ g h. c g (Memᴰ.append_cases rest h);
    add = λ g h. Memᴰ.append_right rest h;
  }
    where
      out : List InFlight
      out = numbered p t x s.next u.sends

      k : (g : InFlight) → Memᴰ g gone ⊎ Memᴰ g rest
          → Memᴰ g gone ⊎ Memᴰ g (rest ++ numbered p t x s.next u.sends)
      k g (inl h) = inl h
      k g (inr h) = inr (Memᴰ.append_left (numbered p t x s.next u.sends) h)

      c : (g : InFlight) → Memᴰ g rest ⊎ Memᴰ g (numbered p t x s.next u.sends)
          → Memᴰ g s.flight ⊎ Memᴰ g (numbered p t x s.next u.sends)
      c g (inl h) = inl (cm g h)
      c g (inr h) = inr h

  -- reports of k to the forward targets of x, by a list d that does not have it
  module _ (x t k d nr : ℕ) (x_n : x < p.n) (un : listed d x ≡ false) where
    abbrev ring : List ℕ
    ring = order_of p

    abbrev to : List ℕ
    to = targets ring d (place ring x)

    abbrev out : List InFlight
    out = numbered p t x nr (reports k to)

    -- what is sent is a report to a target
    record Telling (m : InFlight) : Type 0 where
      given : Given p t x nr (reports k to) m
      target : Memᴰ m.to to
      kind : m.kind ≡ R
      subject : m.subject ≡ k

    telling : (m : InFlight) → Memᴰ m out → Telling m
    telling m h =
        let g = numbered-in p t x (reports k to) nr m h in
        let q = report-of k to g.u g.has in
        record {
          given = g;
          target = rw (g.to ∙ ap (λ (v : Message). v.to) (sym q.2)) q.1;
          kind = g.kind ∙ ap (λ (v : Message). v.kind) (sym q.2);
          subject = g.subject ∙ ap (λ (v : Message). v.subject) (sym q.2);
        }

    sent : (m : InFlight) → Telling m → Sent Q x t m
    sent m g =
        let dl = delay-ok p ac.plain m.number in
        record {
          by = g.given.from;
          after = omega (arith, g.given.due, dl.0);
          within = omega (arith, g.given.due, dl.1);
          self = target-apart p.n ring ac.plain.order x x_n d un m.to g.target;
          in_n = target_below p.n d ring ac.plain.order (place ring x) m.to g.target;
        }

    -- a jump below the count leads to a target
    jump-target : (b : ℕ) → 2 ^ b < count_by p.n (listed d) → Memᴰ (ahead_by ring (listed d) (place ring x) (2 ^ b)) to
    unfolding ahead unlisted count ahead_by count_by
    jump-target b h = ahead-target ring d (place ring x) b (rw ac.plain.order.size h)

    pub told : Reports Q x t k (listed d) out
    told = record {
      each = λ m h. sent m (telling m h);
      kinds = λ m h. (telling m h).kind;
      subject = λ m h. (telling m h).subject;
      complete = λ b h. numbered-has p t x (reports k to) nr (message R _ k) (report-to k to _ (jump-target b h));
    }

  -- a list with what a heartbeat to x carries
  pub learns : (x : ℕ) (m : InFlight) (d : ℕ) → Learns Q x m (listed d) (listed (merging d (learnt x m.from m.list)))
  learns x m d =
      let k : ℕ = learnt x m.from m.list in
      record {
        kept = merging-keeps d k;
        takes = λ a c nx nf. merging-takes d k a (learnt-takes x m.from m.list a c (λ e. nx (sym e)) (λ e. nf (sym e)));
        only = λ a h. go a (merging-only d k a h);
      }
    where
      go : (a : ℕ) → (listed d a ≡ true) ⊎ (listed (learnt x m.from m.list) a ≡ true)
          → (listed d a ≡ true) ⊎ (Carries m a × (a ≢ x) × (a ≢ m.from))
      go a (inl h) = inl h
      go a (inr h) =
          let c = learnt-only x m.from m.list a h in
          inr (c.0, (λ e. c.1 (sym e)), (λ e. c.2 (sym e)))

  pub adds : (d k : ℕ) → Adds Q (listed d) (listed (listing d k)) k
  adds d k = record { kept = listing-keeps d k; is = listing-lists d k; only = listing-only d k }
