-- THE NODES PASSED by the search for the node before: all are listed, and their number is the count of listed nodes from where the search begins up to the
-- node found. Assumes nothing.
use mathlib.Core.Path.{◌≡◌, refl, sym, ap, ◌∙◌}
use mathlib.Core.Bool.{Bool, true, false, not, true≢false}
use mathlib.Core.List.{List, [], ◌∷◌, ◌++◌, reverse, reverse-append, reverse-cons, append_assoc, append-nil}
use mathlib.Core.Logic.{◌≢◌}
use Prim.Native.Nat.{ℕ, zero, suc, ◌<◌}
use native.Mathlib.Omega.{arith}
use borrow.Author.Tests.{eq-eqb, ne_eqb}
use lib.ListN.{length, get_or, take, drop, length-reverse, get_or-append}
use lib.Seq.{take-suc, drop-cons}
use Rattle.ring.specs.declared.NodeBefore.{NodeBefore}
use Rattle.ring.specs.Ring.{keep, none, passing, listed, unlisted, place, round, first_unlisted, back, back_from, count, InOrder}
use Rattle.ring.proofs.Laws.{keep_append, keep-reverse, keep-round, unlisted-no, length-round}
use Rattle.ring.proofs.Lists.{listed-none}
use Rattle.ring.proofs.Orders.{order-kept}
use Rattle.ring.proofs.Gaps.{gap, gap_back}

-- ---- of nodes in turn

-- the node found is the first that is not listed
pub first-node : (d : ℕ) (xs : List ℕ) → (first_unlisted d xs).node ≡ get_or (unlisted d xs) 0 none
unfolding first_unlisted unlisted keep passing
first-node d [] = refl
first-node d (x ∷ xs) = go (listed d x) refl (first-node d xs)
  where
    go : (b : Bool) → listed d x ≡ b → (first_unlisted d xs).node ≡ get_or (unlisted d xs) 0 none
        → (first_unlisted d (x ∷ xs)).node ≡ get_or (unlisted d (x ∷ xs)) 0 none
    go true e rest = rw e rest
    go false e rest = rw e

-- where nobody is listed, none is passed
pub first-none : (xs : List ℕ) → (first_unlisted 0 xs).passed ≡ 0
unfolding first_unlisted
first-none [] = refl
first-none (x ∷ xs) = rw (listed-none x)

-- so many of xs are passed, and the one found stands after them and is not listed
pub record Passes (d : ℕ) (xs : List ℕ) (b : NodeBefore) : Type 0 where
  pub inside : b.passed < length xs
  pub found : get_or xs b.passed 0 ≡ b.node
  pub unlisted : listed d b.node ≡ false

-- where one of xs is not listed
module _ (d : ℕ) where
  pub first_passes : (xs : List ℕ) → 0 < length (unlisted d xs) → Passes d xs (first_unlisted d xs)
  unfolding first_unlisted unlisted keep passing
  first_passes [] h = absurd (omega arith)
  first_passes (x ∷ xs) h = go (listed d x) refl (first_passes xs)
    where
      go : (b : Bool) → listed d x ≡ b → (0 < length (unlisted d xs) → Passes d xs (first_unlisted d xs))
          → Passes d (x ∷ xs) (first_unlisted d (x ∷ xs))
      go true e f =
          let rest : Passes d xs (first_unlisted d xs) = f (rw (unlisted-no d x xs e) at h) in
          rw e (record { inside = omega (arith, rest.inside); found = rest.found; unlisted = rest.unlisted })
      go false e f = rw e (record { inside = omega arith; found = refl; unlisted = e })

  -- the number passed is the count of listed nodes among those before the one found
  abbrev Counts : List ℕ → Type 0
  Counts xs = (first_unlisted d xs).passed ≡ length (keep (listed d) (take (place xs (first_unlisted d xs).node) xs))

  pub first_count : (xs : List ℕ) → 0 < length (unlisted d xs) → Counts xs
  unfolding first_unlisted place keep passing
  first_count [] h = refl
  first_count (x ∷ xs) h = go (listed d x) refl (first_count xs)
    where
      go : (b : Bool) → listed d x ≡ b → (0 < length (unlisted d xs) → Counts xs) → Counts (x ∷ xs)
      go true e f =
          let some : 0 < length (unlisted d xs) = rw (unlisted-no d x xs e) at h in
          let other : x ≢ (first_unlisted d xs).node = λ q. true≢false (sym e ∙ ap (listed d) q ∙ (first_passes xs some).unlisted) in
          rw (e, ne_eqb x (first_unlisted d xs).node other, e) (ap suc (f some))
      go false e f = rw (e, eq-eqb x x refl)

-- ---- from a node e that is left, in the ring

module _ (n d : ℕ) (order : List ℕ) (r : InOrder n order) (e : ℕ) (e_n : e < n) where
  -- the nodes in turn going back from e, e itself the first
  abbrev pub way : List ℕ
  way = reverse (round order (suc (place order e)))

  -- the others
  others : List ℕ
  others = reverse (drop (suc (place order e)) order ++ take (place order e) order)

  at : get_or order (place order e) 0 ≡ e
  at = r.has e e_n

  spot : place order e < length order
  spot = rw r.size (r.placed e e_n)

  way-first : way ≡ e ∷ others
  unfolding round others
  way-first =
      let p : ℕ = place order e in
      let rest : List ℕ = drop (suc p) order in
      ap (λ (l : List ℕ). reverse (rest ++ l)) (take-suc order p 0 spot ∙ ap (λ (x : ℕ). take p order ++ (x ∷ [])) at)
      ∙ ap reverse (sym (append_assoc rest (take p order) (e ∷ [])))
      ∙ reverse-append (rest ++ take p order) (e ∷ [])

  before_last : reverse (round order (place order e)) ≡ others ++ (e ∷ [])
  unfolding round others
  before_last =
      let p : ℕ = place order e in
      ap (λ (l : List ℕ). reverse (l ++ take p order)) (drop-cons order p 0 spot ∙ ap (λ (x : ℕ). x ∷ drop (suc p) order) at)
      ∙ reverse-cons e (drop (suc p) order ++ take p order)

  -- one that is unlisted is met
  some-unlisted : (p : ℕ) → 0 < count n d → 0 < length (unlisted d (reverse (round order p)))
  unfolding unlisted count
  some-unlisted p h =
      rw (
        keep-reverse (λ i. not (listed d i)) (round order p),
        length-reverse,
        keep-round (λ i. not (listed d i)) order p,
        order-kept (λ i. not (listed d i)) n order r,
      ) h

  -- THE NUMBER PASSED is the count of listed nodes from e back to the node found, which is not counted
  pub from-count : 0 < count n d → (back_from order d e).passed ≡ length (keep (listed d) (take (place way (back_from order d e).node) way))
  unfolding back
  from-count some = first_count d way (some-unlisted (suc (place order e)) some)

  -- there are fewer of them than nodes
  pub from-below : 0 < count n d → (back_from order d e).passed < n
  unfolding back
  from-below some =
      let long : length way ≡ n = length-reverse (round order (suc (place order e))) ∙ length-round order (suc (place order e)) ∙ r.size in
      omega (arith, long, (first_passes d way (some-unlisted (suc (place order e)) some)).inside)

  -- where e is listed, as a node is that is left
  module _ (l : listed d e ≡ true) where
    -- it is passed itself, "the one just left included"
    pub from-left : 0 < (back_from order d e).passed
    unfolding back first_unlisted passing
    from-left = rw (way-first, l) (omega arith)

    -- and the node found is the one that is found from the place before it
    pub from-node : (back_from order d e).node ≡ (back order d (place order e)).node
    unfolding back unlisted keep
    from-node =
        first-node d way
        ∙ ap (λ (xs : List ℕ). get_or (unlisted d xs) 0 none) way-first
        ∙ ap (λ (xs : List ℕ). get_or xs 0 none) (unlisted-no d e others l ∙ sym (keep_append (λ i. not (listed d i)) others (e ∷ []) ∙ alone))
        ∙ sym (first-node d (reverse (round order (place order e))) ∙ ap (λ (xs : List ℕ). get_or (unlisted d xs) 0 none) before_last)
      where
        alone : unlisted d others ++ unlisted d (e ∷ []) ≡ unlisted d others
        alone = rw (unlisted-no d e [] l) (append-nil (unlisted d others))

    -- all between are listed, so the number is how many steps back the node found stands from e
    pub from-gap : 0 < count n d → (back_from order d e).passed ≡ gap n r e (back_from order d e).node
    unfolding back
    from-gap some = go (back_from order d e).passed refl from-left
      where
        met : Passes d way (back_from order d e)
        met = first_passes d way (some-unlisted (suc (place order e)) some)

        go : (k : ℕ) → (back_from order d e).passed ≡ k → 0 < (back_from order d e).passed → k ≡ gap n r e (back_from order d e).node
        go zero q h = absurd (omega arith)
        go (suc i) q h =
            let inside : suc i < suc (length others) = rw (q, way-first) at met.inside in
            let below : (back_from order d e).passed < n = from-below some in
            let there : (back_from order d e).node ≡ get_or (reverse (round order (place order e))) i 0 =
            sym met.found ∙ ap (λ (k : ℕ). get_or way k 0) q ∙ ap (λ (xs : List ℕ). get_or xs (suc i) 0) way-first
            ∙ sym (get_or-append others (e ∷ []) 0 i (omega arith)) ∙ ap (λ (xs : List ℕ). get_or xs i 0) (sym before_last) in
            sym (ap (gap n r e) there ∙ gap_back n r e i e_n (omega arith))
