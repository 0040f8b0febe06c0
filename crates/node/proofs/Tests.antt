-- The computed tests of a node hold exactly of what is in range. Assumes nothing.
use mathlib.Core.Path.{◌≡◌, refl, sym}
use mathlib.Core.Logic.{inl, inr, ◌≢◌}
use mathlib.Core.Bool.{Bool, true, false, true≢false, not, ◌||◌, and-eq-true_iff}
use Prim.Native.Nat.{ℕ, ◌^◌, ◌<◌}
use native.Mathlib.Omega.{arith}
use native.Mathlib.Decide.{ℕ_discrete}
use borrow.Author.Tests.{eq-eqb, ne_eqb, eqb-true, leb-true, le-leb, ltb-true, lt-ltb, not-true}
use lib.Dec.{eqb, ltb}
use Rattle.ring.specs.Ring.{listed}
use Rattle.node.specs.declared.Node.{Node}
use Rattle.node.specs.Node.{H, O, R}
use Rattle.node.specs.Range.{NodeRange, LiveRange, NotOverdue, Known, node_test, apart, live_test, not_overdue, timers_test, kind_test}
use Rattle.node.specs.Range.{Carried, carried_test}

-- ---- a node's fields

module _ (n h w t : ℕ) (a : Node) where
  pub node-facts : node_test n h w t a ≡ true → NodeRange n h w t a
  unfolding node_test
  node-facts e =
      let u = (and-eq-true_iff _ _).0 e in
      let v = (and-eq-true_iff _ _).0 u.1 in
      let x = (and-eq-true_iff _ _).0 v.1 in
      let y = (and-eq-true_iff _ _).0 x.1 in
      let z = (and-eq-true_iff _ _).0 y.1 in
      let r = (and-eq-true_iff _ _).0 z.1 in
      record {
        emitter = ltb-true _ _ u.0;
        observer = ltb-true _ _ v.0;
        list = ltb-true _ _ x.0;
        unlisted = not-true _ y.0;
        mark = r.1;
        watch = leb-true _ _ z.0;
        heartbeat = leb-true _ _ r.0;
      }

  pub facts-node : NodeRange n h w t a → node_test n h w t a ≡ true
  unfolding node_test
  facts-node f =
      rw (
        lt-ltb _ _ f.emitter,
        lt-ltb _ _ f.observer,
        lt-ltb _ _ f.list,
        f.unlisted,
        f.mark,
        le-leb _ _ f.watch,
        le-leb _ _ f.heartbeat,
      )

-- ---- a live node

module _ (timer other me : ℕ) where
  apart-facts : apart timer other me ≡ true → timer ≢ 0 → other ≢ me
  unfolding apart
  apart-facts e on q = true≢false (sym (rw (ne_eqb timer 0 on, eq-eqb other me q) at e))

  facts-apart : (timer ≢ 0 → other ≢ me) → apart timer other me ≡ true
  unfolding apart
  facts-apart f = go (ℕ_discrete timer 0)
    where
      go : Dec (timer ≡ 0) → (eqb timer 0 || not (eqb other me)) ≡ true
      go (yes q) = rw (eq-eqb timer 0 q)
      go (no q) = rw (ne_eqb timer 0 q, ne_eqb other me (f q))

module _ (me : ℕ) (a : Node) where
  pub live_facts : live_test me a ≡ true → LiveRange me a
  unfolding live_test
  live_facts e =
      let u = (and-eq-true_iff (not (listed a.list me)) _).0 e in
      let v = (and-eq-true_iff (apart a.watch a.emitter me) _).0 u.1 in
      record {
        lists = not-true _ u.0;
        observes = apart-facts a.watch a.emitter me v.0;
        sends = apart-facts a.heartbeat a.observer me v.1;
      }

  pub facts-live : LiveRange me a → live_test me a ≡ true
  unfolding live_test
  facts-live l = rw (l.lists, facts-apart a.watch a.emitter me l.observes, facts-apart a.heartbeat a.observer me l.sends)

-- ---- a timer that is not overdue

module _ (t timer : ℕ) where
  overdue-facts : not_overdue t timer ≡ true → timer ≢ 0 → t < timer
  unfolding not_overdue
  overdue-facts e on = ltb-true t timer (rw (ne_eqb timer 0 on) at e)

  facts-overdue : (timer ≢ 0 → t < timer) → not_overdue t timer ≡ true
  unfolding not_overdue
  facts-overdue f = go (ℕ_discrete timer 0)
    where
      go : Dec (timer ≡ 0) → (eqb timer 0 || ltb t timer) ≡ true
      go (yes q) = rw (eq-eqb timer 0 q)
      go (no q) = rw (ne_eqb timer 0 q, lt-ltb t timer (f q))

module _ (t : ℕ) (a : Node) where
  pub timers-facts : timers_test t a ≡ true → NotOverdue t a
  unfolding timers_test
  timers-facts e =
      let u = (and-eq-true_iff (not_overdue t a.watch) _).0 e in
      record { watch = overdue-facts t a.watch u.0; heartbeat = overdue-facts t a.heartbeat u.1 }

  pub facts-timers : NotOverdue t a → timers_test t a ≡ true
  unfolding timers_test
  facts-timers o = rw (facts-overdue t a.watch o.watch, facts-overdue t a.heartbeat o.heartbeat)

-- ---- a kind

module _ (k : ℕ) where
  pub kind-facts : kind_test k ≡ true → Known k
  unfolding kind_test
  kind-facts e = go (eqb k H) (eqb k O) (eqb k R) refl refl refl e
    where
      go : (a b c : Bool) → eqb k H ≡ a → eqb k O ≡ b → eqb k R ≡ c → (a || (b || c)) ≡ true → Known k
      go true b c x y z q = inl (eqb-true k H x)
      go false true c x y z q = inr (inl (eqb-true k O y))
      go false false true x y z q = inr (inr (eqb-true k R z))
      go false false false x y z q = absurd (true≢false (sym q))

  pub facts-kind : Known k → kind_test k ≡ true
  unfolding kind_test
  facts-kind (inl e) = rw e
  facts-kind (inr (inl e)) = rw e
  facts-kind (inr (inr e)) = rw e

  -- it is a byte
  pub kind_fits : Known k → k < 256
  kind_fits (inl e) = omega arith
  kind_fits (inr (inl e)) = omega arith
  kind_fits (inr (inr e)) = omega arith

-- ---- a list that a message carries

module _ (n kind list : ℕ) where
  pub carried-facts : carried_test n kind list ≡ true → Carried n kind list
  unfolding carried_test
  carried-facts e =
      let u = (and-eq-true_iff (ltb list (2 ^ n)) _).0 e in
      record { below = ltb-true _ _ u.0; empty = λ q. eqb-true list 0 (rw (ne_eqb kind H q) at u.1) }

  pub facts-carried : Carried n kind list → carried_test n kind list ≡ true
  unfolding carried_test
  facts-carried c = rw (lt-ltb list (2 ^ n) c.below) (go (ℕ_discrete kind H))
    where
      go : Dec (kind ≡ H) → (eqb kind H || eqb list 0) ≡ true
      go (yes q) = rw (eq-eqb kind H q)
      go (no q) = rw (ne_eqb kind H q, eq-eqb list 0 (c.empty q))
