-- The state that opening makes is opened, as the invariant asks. Assumes nothing.
use mathlib.Core.Path.{◌≡◌, refl, sym, ap, ◌∙◌}
use mathlib.Core.Logic.{inl, inr, ◌≢◌}
use mathlib.Core.Bool.{true, false}
use mathlib.Core.List.{[]}
use Prim.Native.Nat.{ℕ, ◌≤◌, ◌<◌}
use native.Mathlib.Omega.{arith}
use native.Mathlib.Decide.{dec_lt}
use Rattle.ring.specs.Ring.{among, listed, place, back, next, InOrder}
use Rattle.node.specs.declared.Node.{Node}
use Rattle.node.specs.Node.{ringed}
use Rattle.plans.specs.Plan.{Plan, hits, order_of}
use Rattle.model.specs.Platform.{alive, start, node_of}
use Rattle.plans.specs.Plain.{Plain}
use Rattle.model.specs.Range.{EndsInE}
use Rattle.ring.proofs.Neighbours.{open-next-below, open-back-below, open-back-nearest, back-next, next-back, open-back-other}
use Rattle.ring.proofs.Lists.{listed-none}
use Rattle.ring.proofs.Gaps.{gap, gap-far, gap-out, gap≥1, gap≤n}
use Rattle.model.proofs.InvariantKept.{Opened}
use Rattle.model.proofs.RangesKept.{Shape, shape}
use Rattle.model.proofs.Viewed.{P, view, is_on, tick_of}

start-now : (p : Plan) → (start p).last ≡ 0
unfolding start
start-now p = refl

start-msgs : (p : Plan) → (start p).flight ≡ []
unfolding start
start-msgs p = refl

start-live : (p : Plan) (j : ℕ) → alive p (start p).done j ≡ true
unfolding start alive hits among
start-live p j = refl

module _ (p : Plan) (ac : EndsInE p) where
  abbrev pl : Plain p
  pl = ac.plain

  abbrev io : InOrder p.n (order_of p)
  io = pl.order

  abbrev nd : ℕ → Node
  nd j = node_of (start p) j

  -- the neighbours of a node in a ring of two or more
  abbrev before : ℕ → ℕ
  before j = (back (order_of p) 0 (place (order_of p) j)).node

  abbrev behind : ℕ → ℕ
  behind j = next (order_of p) 0 (place (order_of p) j)

  em-is : (j : ℕ) → nd j ≡ ringed (order_of p) p.h p.w j → (nd j).emitter ≡ before j
  em-is j e = ap (λ (a : Node). a.emitter) e

  ob-is : (j : ℕ) → nd j ≡ ringed (order_of p) p.h p.w j → (nd j).observer ≡ behind j
  ob-is j e = ap (λ (a : Node). a.observer) e

  in-ring : (j : ℕ) → 1 < p.n → j < p.n → nd j ≡ ringed (order_of p) p.h p.w j
  in-ring j b h = go (shape p pl j)
    where
      go : Shape p pl j → nd j ≡ ringed (order_of p) p.h p.w j
      go (inl x) = x.2
      go (inr x) = absurd (x.1 b h)

  pub start-opened : Opened (P p ac) (view p (start p))
  start-opened = record {
    last = now0;
    flight = msgs0;
    live = λ j. live0 j;
    empty = λ j k. em j k (shape p pl j);
    unmarked = λ j k. um j k (shape p pl j);
    in_n = λ j. i_n j (shape p pl j);
    before = λ j k. bf j k (shape p pl j);
    mutual-l = λ j. ml j (shape p pl j);
    mutual-r = λ j. mr j (shape p pl j);
    watch = λ j. ww j (shape p pl j);
    heartbeat = λ j. hh j (shape p pl j);
    off = λ j. of j (shape p pl j);
  }
    where
      now0 : (start p).last ≡ 0
      now0 = start-now p

      msgs0 : (start p).flight ≡ []
      msgs0 = start-msgs p

      live0 : (j : ℕ) → alive p (start p).done j ≡ true
      live0 j = start-live p j

      em : (j k : ℕ) → Shape p pl j → listed (nd j).list k ≡ false
      em j k (inl x) = rw x.2 (listed-none k)
      em j k (inr x) = rw x.0 (listed-none k)

      um : (j k : ℕ) → Shape p pl j → listed (nd j).mark k ≡ false
      um j k (inl x) = rw x.2 (listed-none k)
      um j k (inr x) = rw x.0 (listed-none k)

      i_n : (j : ℕ) → Shape p pl j → (nd j).emitter ≢ j → (j < p.n) × ((nd j).emitter < p.n)
      i_n j (inl x) n = rw (em-is j x.2) (x.1, open-back-below p.n (order_of p) io j x.1)
      i_n j (inr x) n = absurd (n (rw x.0))

      bf : (j k : ℕ) → Shape p pl j → gap p.n io j (nd j).emitter ≤ gap p.n io j k
      bf j k (inl x) = rw (em-is j x.2) (open-back-nearest p.n (order_of p) io j x.1 k)
      bf j k (inr x) = rw x.0 (go (dec_lt j p.n) (dec_lt k p.n))
        where
          go : Dec (j < p.n) → Dec (k < p.n) → gap p.n io j j ≤ gap p.n io j k
          go (no h) d = omega (arith, gap-far p.n io j j h)
          go (yes h) (yes e) = let one : ¬ (1 < p.n) = λ b. x.1 b h in omega (arith, gap≤n p.n io j j h h, gap≥1 p.n io j k h e)
          go (yes h) (no e) = omega (arith, gap≤n p.n io j j h h, gap-out p.n io j k h e)

      ml : (j : ℕ) → Shape p pl j → (nd (nd j).emitter).observer ≡ j
      ml j (inl x) =
          let there : nd (before j) ≡ ringed (order_of p) p.h p.w (before j) =
          in-ring (before j) x.0 (open-back-below p.n (order_of p) io j x.1) in
          rw (em-is j x.2, ob-is (before j) there) (next-back p.n 0 (order_of p) io j x.1 (listed-none j))
      ml j (inr x) = let e : (nd j).emitter ≡ j = ap (λ (a : Node). a.emitter) x.0 in rw (e, x.0)

      mr : (j : ℕ) → Shape p pl j → (nd (nd j).observer).emitter ≡ j
      mr j (inl x) =
          let there : nd (behind j) ≡ ringed (order_of p) p.h p.w (behind j) =
          in-ring (behind j) x.0 (open-next-below p.n (order_of p) io j x.1) in
          rw (ob-is j x.2, em-is (behind j) there) (back-next p.n 0 (order_of p) io j x.1 (listed-none j))
      mr j (inr x) = let e : (nd j).observer ≡ j = ap (λ (a : Node). a.observer) x.0 in rw (e, x.0)

      ww : (j : ℕ) → Shape p pl j → (nd j).emitter ≢ j → (is_on (nd j).watch ≡ true) × (tick_of (nd j).watch ≡ p.w)
      ww j (inl x) n = rw x.2 (refl, refl)
      ww j (inr x) n = absurd (n (rw x.0))

      hh : (j : ℕ) → Shape p pl j → (nd j).emitter ≢ j → (is_on (nd j).heartbeat ≡ true) × (tick_of (nd j).heartbeat ≡ p.h)
      hh j (inl x) n = rw x.2 (refl, refl)
      hh j (inr x) n = absurd (n (rw x.0))

      of : (j : ℕ) → Shape p pl j → (nd j).emitter ≡ j → (is_on (nd j).watch ≡ false) × (is_on (nd j).heartbeat ≡ false)
      of j (inl x) n = absurd (open-back-other p.n (order_of p) io j x.1 x.0 (sym (em-is j x.2) ∙ n))
      of j (inr x) n = rw x.0 (refl, refl)
