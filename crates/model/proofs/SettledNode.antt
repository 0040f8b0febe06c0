-- A joined node in the words of Claims: its neighbours are the nearest survivors; and a settled one, whose list is also the number of the
-- crashed nodes. Assumes nothing.
use mathlib.Core.Path.{◌≡◌, refl, sym, ap, ◌∙◌}
use mathlib.Core.Bool.{Bool, true, false, not, true≢false, not-not}
use mathlib.Core.List.{List, reverse}
use Prim.Native.Nat.{ℕ, suc, ◌^◌, ◌<◌}
use native.Mathlib.Omega.{arith}
use lib.ListN.{length, get_or, take, length-take}
use lib.Seq.{get_or-take}
use lib.Pow.{pow_pos}
use Rattle.plans.proofs.Listed.{listed-hits, with-small}
use Rattle.ring.specs.Ring.{keep, none, listed, round, place, InOrder}
use Rattle.ring.proofs.Unlisted.{count_by, back_by, next_by, next_by-back, count_by-some}
use Rattle.ring.proofs.GoingBack.{back_by-only}
use Rattle.ring.proofs.Laws.{keep-ext}
use Rattle.ring.proofs.Lists.{listed-ext}
use Rattle.plans.specs.Plan.{Plan, hits, order_of}
use Rattle.model.specs.Platform.{State, alive, next_survivor, survivor_before, crashed_list, node_of}
use Rattle.plans.specs.Plain.{no_crash, Plain}
use Rattle.model.specs.Range.{EndsInE, Sound}
use Rattle.model.specs.Claims.{JoinedAt, SettledAt}
use Rattle.model.proofs.Phases.{crashed_in}
use Rattle.model.proofs.SpacedRuns.{JoinedIn, SettledIn}
use Rattle.model.proofs.Viewed.{P, view}

module _ (p : Plan) (pl : Plain p) where
  -- the crashed list holds the crashed nodes
  pub crashed-listed : (n k : ℕ) → listed (crashed_list p n) k ≡ not (alive p n k)
  unfolding crashed_list alive
  crashed-listed n k = listed-hits (take n p.crashes) k ∙ sym (not-not (hits (take n p.crashes) k))

  pub crashed-lt : (n : ℕ) → crashed_list p n < 2 ^ p.n
  unfolding crashed_list
  crashed-lt n = with-small p.n (take n p.crashes) 0 (pow_pos p.n) below
    where
      below : (i : ℕ) → i < length (take n p.crashes) → (get_or (take n p.crashes) i no_crash).node < p.n
      below i h =
          let a : i < n = omega (arith, length-take n p.crashes) in
          let b : i < length p.crashes = omega (arith, length-take n p.crashes) in
          rw (get_or-take n p.crashes i no_crash a) (pl.node i b)

module _ (p : Plan) (ac : EndsInE p) where
  abbrev io' : InOrder p.n (order_of p)
  io' = ac.plain.order

  module _ (s : State) (j : ℕ) (j_n : j < p.n) (l : alive p s.done j ≡ true) where
    abbrev dead : ℕ → Bool
    dead = crashed_in (view p s)

    up_is : (k : ℕ) → alive p s.done k ≡ true → dead k ≡ false
    up_is k h = ap not h

    some-live : 0 < count_by p.n dead
    some-live = count_by-some p.n dead (order_of p) io' j j_n (up_is j l)

    kept : (xs : List ℕ) → keep (λ k. not (dead k)) xs ≡ keep (alive p s.done) xs
    kept xs = keep-ext (λ k. not (dead k)) (alive p s.done) xs (λ k. not-not (alive p s.done k))

    before-is : back_by (order_of p) dead (place (order_of p) j) ≡ survivor_before p s.done j
    unfolding survivor_before back_by
    before-is = ap (λ (xs : List ℕ). get_or xs 0 none) (kept (reverse (round (order_of p) (place (order_of p) j))))

    after_is : next_by (order_of p) dead (place (order_of p) j) ≡ next_survivor p s.done j
    unfolding next_survivor next_by
    after_is = ap (λ (xs : List ℕ). get_or xs 0 none) (kept (round (order_of p) (suc (place (order_of p) j))))

    pub joined_at : JoinedIn (P p ac) (view p s) j → JoinedAt p s j
    joined_at in-ring = record { emitter = em; observer = ob }
      where
        em : (node_of s j).emitter ≡ survivor_before p s.done j
        em =
            back_by-only p.n io' dead j j_n some-live (node_of s j).emitter (up_is _ in-ring.observes.1) (λ k h. ap not (in-ring.before k h))
            ∙ before-is

        -- j is the survivor before its observer
        ob : (node_of s j).observer ≡ next_survivor p s.done j
        ob =
            let o : ℕ = (node_of s j).observer in
            let u : dead o ≡ false = up_is o in-ring.emits.1 in
            let e : j ≡ back_by (order_of p) dead (place (order_of p) o) =
            back_by-only p.n io' dead o in-ring.emits.0 some-live j (up_is j l) (λ k h. ap not (in-ring.ahead k h)) in
            sym (next_by-back p.n dead (order_of p) io' o in-ring.emits.0 u)
            ∙ ap (λ (z : ℕ). next_by (order_of p) dead (place (order_of p) z)) (sym e)
            ∙ after_is

    pub settled_at : Sound p s → SettledIn (P p ac) (view p s) j → SettledAt p s j
    settled_at r st = record { list = lst; emitter = (joined_at st.joined).emitter; observer = (joined_at st.joined).observer }
      where
        lst : (node_of s j).list ≡ crashed_list p s.done
        lst =
            listed-ext p.n (node_of s j).list (crashed_list p s.done) (r.fields j j_n).list (crashed-lt p ac.plain s.done)
            (λ k. each k (listed (node_of s j).list k) refl (alive p s.done k) refl ∙ sym (crashed-listed p ac.plain s.done k))
          where
            each : (k : ℕ) (a : Bool) → listed (node_of s j).list k ≡ a → (b : Bool) → alive p s.done k ≡ b
                → listed (node_of s j).list k ≡ not (alive p s.done k)
            each k true e true g = absurd (true≢false (sym g ∙ st.sound k e))
            each k true e false g = rw (e, g)
            each k false e true g = rw (e, g)
            each k false e false g = absurd (true≢false (sym (st.full k g) ∙ e))
