-- The computed tests for number 7 hold exactly of what is in range. Assumes nothing.
use mathlib.Core.Path.{◌≡◌, refl}
use mathlib.Core.Logic.{◌⊎◌, inl, inr}
use mathlib.Core.Bool.{Bool, true, false, cond, ◌&&◌, and-eq-true_iff}
use mathlib.Core.List.Memᴰ
use mathlib.Core.List.{List, [], ◌∷◌, Memᴰ}
use Prim.Native.Nat.{ℕ, zero, suc, ◌+◌, ◌≤◌, ◌<◌}
use native.Mathlib.Nat.{add-zero}
use native.Mathlib.Omega.{arith}
use native.Mathlib.Decide.{ℕ_discrete, dec_lt}
use borrow.Author.Tests.{eq-eqb, ne_eqb, eqb-true, eqb-false, leb-true, le-leb, ltb-true, lt-ltb, not-true}
use lib.Dec.{leb}
use lib.ListN.{length, get_or, get_or-eq_default, drop, drop_of_length-le}
use lib.Seq.{drop-cons}
use Rattle.node.specs.declared.Node.{Node}
use Rattle.node.specs.Node.{alone}
use Rattle.node.specs.Range.{NodeRange, LiveRange, NotOverdue, node_test, live_test, timers_test}
use Rattle.node.proofs.Tests.{node-facts, facts-node, live_facts, facts-live, timers-facts, facts-timers, kind-facts, facts-kind, carried-facts, facts-carried}
use Rattle.plans.specs.Plan.{Plan, plan_test}
use Rattle.model.specs.Platform.{InFlight, State, alive, node_of, after}
use Rattle.limits.specs.Limits.{most_next}
use Rattle.model.specs.Range.{FlightRange, Rises, Sound, nodes_test, message_test, flight_test, undone_test, sound_test, store_test, InRange, node_here}
use Rattle.ring.proofs.Lists.{listed-none}
use Rattle.plans.specs.Plain.{row_at, Plain, no_crash}
use Rattle.model.proofs.Theorems.{ranges}
use Rattle.plans.proofs.Facts.{plan-plain}

-- ---- the nodes

module _ (p : Plan) (done t : ℕ) where
  -- node j, which is a, is in range, and if it is live it is so as a live one
  abbrev Ranged : ℕ → Node → Type 0
  Ranged j a = NodeRange p.n p.h p.w t a × (alive p done j ≡ true → LiveRange j a × NotOverdue t a)

  node_ok : (i : ℕ) (a : Node) → node_here p done t i a ≡ true → Ranged i a
  node_ok i a h =
      let u = (and-eq-true_iff (node_test p.n p.h p.w t a) _).0 h in
      (node-facts _ _ _ t a u.0, λ q. live ((and-eq-true_iff (live_test i a) (timers_test t a)).0 (rw q at u.1)))
    where
      live : (live_test i a ≡ true) × (timers_test t a ≡ true) → LiveRange i a × NotOverdue t a
      live x = (live_facts i a x.0, timers-facts t a x.1)

  nodes-ok : (ns : List Node) (i : ℕ) → nodes_test p done t i ns ≡ true → (z : Node) (j : ℕ) → j < length ns → Ranged (i + j) (get_or ns j z)
  unfolding nodes_test
  nodes-ok [] i h z j l = absurd (omega arith)
  nodes-ok (a ∷ ns) i h z zero l = rw add-zero (node_ok i a ((and-eq-true_iff (node_here p done t i a) _).0 h).0)
  nodes-ok (a ∷ ns) i h z (suc j) l =
      let e : suc i + j ≡ i + suc j = omega arith in
      rw e at (nodes-ok ns (suc i) ((and-eq-true_iff (node_here p done t i a) _).0 h).1 z j (omega arith))

  node-test : (i : ℕ) (a : Node) → Ranged i a → node_here p done t i a ≡ true
  node-test i a f = rw (facts-node _ _ _ t a f.0) (go (alive p done i) refl)
    where
      go : (b : Bool) → alive p done i ≡ b → cond b (live_test i a && timers_test t a) true ≡ true
      go true q = rw (facts-live i a (f.1 q).0, facts-timers t a (f.1 q).1)
      go false q = refl

  nodes-test : (ns : List Node) (i : ℕ) → ((j : ℕ) → j < length ns → Ranged (i + j) (get_or ns j (alone (i + j) 0 0)))
      → nodes_test p done t i ns ≡ true
  unfolding nodes_test
  nodes-test [] i f = refl
  nodes-test (a ∷ ns) i f =
      (and-eq-true_iff _ _).1 ((node-test i a (rw add-zero at (f 0 (omega arith)))), (nodes-test ns (suc i) (λ j l. shift j (f (suc j) (omega arith)))))
    where
      shift : (j : ℕ) → Ranged (i + suc j) (get_or ns j (alone (i + suc j) 0 0)) → Ranged (suc i + j) (get_or ns j (alone (suc i + j) 0 0))
      shift j x = let e : i + suc j ≡ suc i + j = omega arith in rw e at x

-- ---- the messages in flight

module _ (p : Plan) (t : ℕ) where
  message-ok : (m : InFlight) → message_test p t m ≡ true → FlightRange p t m × (t ≤ m.due)
  unfolding message_test
  message-ok m h =
      let a = (and-eq-true_iff _ _).0 h in
      let b = (and-eq-true_iff _ _).0 a.1 in
      let c = (and-eq-true_iff _ _).0 b.1 in
      let d = (and-eq-true_iff _ _).0 c.1 in
      let e = (and-eq-true_iff _ _).0 d.1 in
      let f = (and-eq-true_iff _ _).0 e.1 in
      let g = (and-eq-true_iff _ _).0 f.1 in (
        record {
          kind = kind-facts m.kind a.0;
          from = ltb-true _ _ b.0;
          to = ltb-true _ _ c.0;
          subject = ltb-true _ _ d.0;
          apart = eqb-false _ _ (not-true _ e.0);
          due = leb-true _ _ g.0;
          list = carried-facts p.n m.kind m.list g.1;
        },
        leb-true _ _ f.0,
      )

  message-test : (m : InFlight) → FlightRange p t m → t ≤ m.due → message_test p t m ≡ true
  unfolding message_test
  message-test m f d =
      rw (
        facts-kind m.kind f.kind,
        lt-ltb _ _ f.from,
        lt-ltb _ _ f.to,
        lt-ltb _ _ f.subject,
        ne_eqb _ _ f.apart,
        le-leb _ _ d,
        le-leb _ _ f.due,
        facts-carried p.n m.kind m.list f.list,
      )

  flight-ok : (ms : List InFlight) (lo hi : ℕ) → flight_test p t lo hi ms ≡ true
      → Rises lo hi ms × ((m : InFlight) → Memᴰ m ms → FlightRange p t m × (t ≤ m.due))
  unfolding flight_test Rises
  flight-ok [] lo hi h = (leb-true _ _ h, λ m x. absurd (Memᴰ.not-nil x))
  flight-ok (g ∷ ms) lo hi h =
      let a = (and-eq-true_iff _ _).0 h in
      let b = (and-eq-true_iff _ _).0 a.1 in
      let r = flight-ok ms (suc g.number) hi b.1 in
      ((leb-true _ _ a.0, r.0), λ m x. go m (Memᴰ.cases_cons x) b.0 r.1)
    where
      go : (m : InFlight) → (m ≡ g) ⊎ Memᴰ m ms → message_test p t g ≡ true
          → ((m : InFlight) → Memᴰ m ms → FlightRange p t m × (t ≤ m.due))
          → FlightRange p t m × (t ≤ m.due)
      go m (inl e) q f = rw e (message-ok g q)
      go m (inr x) q f = f m x

  flight-test : (ms : List InFlight) (lo hi : ℕ) → Rises lo hi ms → ((m : InFlight) → Memᴰ m ms → FlightRange p t m × (t ≤ m.due))
      → flight_test p t lo hi ms ≡ true
  unfolding flight_test Rises
  flight-test [] lo hi r f = le-leb _ _ r
  flight-test (g ∷ ms) lo hi r f =
      let one = f g (Memᴰ.head refl) in
      rw (le-leb _ _ r.0, message-test g one.0 one.1, flight-test ms (suc g.number) hi r.1 (λ m x. f m (Memᴰ.tail x)))

-- ---- the next crash

crash-ok : (p : Plan) → Plain p → (done t : ℕ) → undone_test t (drop done p.crashes) ≡ true → (i : ℕ) → done ≤ i → i < length p.crashes
    → t ≤ (row_at p i).tick
unfolding undone_test
crash-ok p pl done t h i a b = go (ℕ_discrete i done)
  where
    base : t ≤ (row_at p done).tick
    base = leb-true _ _ (rw (drop-cons p.crashes done no_crash (omega arith)) at h)

    go : Dec (i ≡ done) → t ≤ (row_at p i).tick
    go (yes e) = rw e base
    go (no e) = omega (arith, base, pl.rising done i (omega arith) b)

crash-test : (p : Plan) (done t : ℕ) → ((i : ℕ) → done ≤ i → i < length p.crashes → t ≤ (row_at p i).tick)
    → undone_test t (drop done p.crashes) ≡ true
unfolding undone_test
crash-test p done t f = go (dec_lt done (length p.crashes))
  where
    go : Dec (done < length p.crashes) → undone_test t (drop done p.crashes) ≡ true
    go (yes a) = rw (drop-cons p.crashes done no_crash a) (le-leb _ _ (f done (omega arith) a))
    go (no a) = rw (drop_of_length-le p.crashes {i = done} (omega arith))

-- ---- a state

module _ (p : Plan) (pl : Plain p) (s : State) where
  pub range-test : Sound p s → sound_test p s ≡ true
  unfolding sound_test
  range-test r =
      rw (
        le-leb _ _ r.done,
        le-leb _ _ r.last,
        eq-eqb _ _ r.nodes,
        ns,
        ms,
        le-leb _ _ r.few,
        crash-test p s.done s.last r.past.crash,
      )
    where
      ns : nodes_test p s.done s.last 0 s.nodes ≡ true
      ns =
          nodes-test p s.done s.last s.nodes 0
          (λ j l. let e : 0 + j ≡ j = omega arith in
          rw e (r.fields j (rw r.nodes at l), λ a. (r.live j a, record { watch = r.past.watch j a; heartbeat = r.past.heartbeat j a })))

      ms : flight_test p s.last 0 s.next s.flight ≡ true
      ms = flight-test p s.last s.flight 0 s.next r.rises (λ m x. (r.flying m x, r.past.message m x))

  pub test-range : sound_test p s ≡ true → Sound p s
  unfolding sound_test
  test-range h =
      let a = (and-eq-true_iff _ _).0 h in
      let b = (and-eq-true_iff _ _).0 a.1 in
      let c = (and-eq-true_iff _ _).0 b.1 in
      let d = (and-eq-true_iff _ _).0 c.1 in
      let e = (and-eq-true_iff _ _).0 d.1 in
      let f = (and-eq-true_iff _ _).0 e.1 in
      let len : length s.nodes ≡ p.n = eqb-true _ _ c.0 in
      record {
        done = leb-true _ _ a.0;
        last = leb-true _ _ b.0;
        nodes = len;
        fields = λ j l. (at d.0 j (rw len l)).0;
        live = λ j l. (every d.0 j l).0;
        flying = λ m x. ((flight-ok p s.last s.flight 0 s.next e.0).1 m x).0;
        rises = (flight-ok p s.last s.flight 0 s.next e.0).0;
        few = leb-true _ _ f.0;
        past = record {
          crash = crash-ok p pl s.done s.last f.1;
          message = λ m x. ((flight-ok p s.last s.flight 0 s.next e.0).1 m x).1;
          watch = λ j l. (every d.0 j l).1.watch;
          heartbeat = λ j l. (every d.0 j l).1.heartbeat;
        };
      }
    where
      at : nodes_test p s.done s.last 0 s.nodes ≡ true → (j : ℕ) → j < length s.nodes → Ranged p s.done s.last j (node_of s j)
      at q j l = let e : 0 + j ≡ j = omega arith in rw e at (nodes-ok p s.done s.last s.nodes 0 q (alone j 0 0) j l)

      every : nodes_test p s.done s.last 0 s.nodes ≡ true → (j : ℕ) → alive p s.done j ≡ true
          → LiveRange j (node_of s j) × NotOverdue s.last (node_of s j)
      every q j a = go (dec_lt j (length s.nodes))
        where
          go : Dec (j < length s.nodes) → LiveRange j (node_of s j) × NotOverdue s.last (node_of s j)
          go (yes l) = (at q j l).1 a
          go (no l) = rw (get_or-eq_default s.nodes (alone j 0 0) {n = j} (omega arith)) (
            record { lists = listed-none j; observes = λ o. absurd (o refl); sends = λ o. absurd (o refl) },
            record { watch = λ o. absurd (o refl); heartbeat = λ o. absurd (o refl) },
          )

-- ---- a store

-- what passes the test of a store is a plan in range and a state in range
pub test-store : (p : Plan) (s : State) → store_test p s ≡ true → Plain p × InRange p s
unfolding store_test
test-store p s h =
    let a = (and-eq-true_iff (plan_test p) _).0 h in
    let b = (and-eq-true_iff (sound_test p s) (leb s.next most_next)).0 a.1 in
    let pl : Plain p = plan-plain p a.0 in
    (pl, record { sound = test-range p pl s b.0; cap = leb-true _ _ b.1 })

-- and what is both passes it
pub store-test : (p : Plan) (s : State) → Plain p → plan_test p ≡ true → InRange p s → store_test p s ≡ true
unfolding store_test
store-test p s pl t r = (and-eq-true_iff _ _).1 (t, ((and-eq-true_iff _ _).1 ((range-test p pl s r.sound), (le-leb _ _ r.cap))))

-- no store that an accepted file leads to is refused by 7
pub reached-test : (p : Plan) → plan_test p ≡ true → (e : ℕ) → store_test p (after p e) ≡ true
reached-test p t e = let pl : Plain p = plan-plain p t in store-test p (after p e) pl t ((ranges p pl).reached e)
