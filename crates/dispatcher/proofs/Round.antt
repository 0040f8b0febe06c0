-- Which stores the turns of a call are of, for any stores and any length of a turn: at most as many turns as are stated, fewer only once no store can
-- go on; each of a store that can go on; and a store that can go on waits fewer turns of others than there are stores. Assumes nothing.
use mathlib.Core.Path.{◌≡◌, refl, sym, ap, subst, ◌∙◌}
use mathlib.Core.Logic.{◌≢◌, inl, inr}
use mathlib.Core.Bool.{Bool, true, false, cond, true≢false}
use mathlib.Core.List.{List, [], ◌∷◌, ◌++◌, map, nil≢cons, head-eq_of_cons-eq, tail-eq_of_cons-eq}
use Rattle.std.specs.Prelude.{Option, Some, None}
use Prim.Native.Nat.{ℕ, zero, suc, ◌+◌, ◌-◌, ◌≤◌, ◌<◌}
use native.Mathlib.Nat.{zero-add}
use native.Mathlib.Omega.{arith}
use native.Mathlib.Decide.{dec_lt}
use borrow.Author.Tests.{eqb-false}
use lib.Dec.{eqb}
use lib.ListN.{length, get_or, length-set, length-map, get_or-eq_default}
use lib.Seq.{get_or-set_other}
use Rattle.ring.specs.Ring.{numbers, round}
use Rattle.ring.proofs.Laws.{length-round, round-near, round-far}
use Rattle.ring.proofs.Rows.{length-numbers}
use Rattle.ring.proofs.Orders.{get_or-numbers}
use Rattle.dispatcher.specs.Dispatch.{Standing, fresh, can_go, after_turn, standing_at, turn_of, after_turns, first_marked, next_able, turns_from}
use Rattle.dispatcher.specs.Claims.{turns_at, Earlier}

-- ---- a turn is of one store

module _ (turn_length : ℕ) where
  -- no store comes or goes
  pub turn-length : (j : ℕ) (xs : List Standing) → length (turn_of turn_length j xs) ≡ length xs
  unfolding turn_of
  turn-length j xs = length-set xs j (after_turn turn_length (standing_at xs j))

  pub turns-length : (is : List ℕ) (xs : List Standing) → length (after_turns turn_length is xs) ≡ length xs
  unfolding after_turns
  turns-length [] xs = refl
  turns-length (j ∷ is) xs = turns-length is (turn_of turn_length j xs) ∙ turn-length j xs

  -- turns one after another
  pub turns_then : (i : ℕ) (is : List ℕ) (xs : List Standing)
      → after_turns turn_length (is ++ (i ∷ [])) xs ≡ turn_of turn_length i (after_turns turn_length is xs)
  unfolding after_turns
  turns_then i [] xs = refl
  turns_then i (j ∷ is) xs = turns_then i is (turn_of turn_length j xs)

  -- the other stores stand as before
  pub turn-other : (i j : ℕ) (xs : List Standing) → i ≢ j → standing_at (turn_of turn_length j xs) i ≡ standing_at xs i
  unfolding turn_of
  turn-other i j xs other = get_or-set_other xs j i (after_turn turn_length (standing_at xs j)) (fresh []) other

-- ---- the marks

-- a store's mark says whether it can go on
pub mark-at : (xs : List Standing) (i : ℕ) → i < length xs → get_or (map can_go xs) i false ≡ can_go (standing_at xs i)
mark-at [] i h = absurd (omega arith)
mark-at (x ∷ xs) zero h = refl
mark-at (x ∷ xs) (suc i) h = mark-at xs i (omega arith)

-- there is no mark beyond the last
marked-below : (marks : List Bool) (i : ℕ) → get_or marks i false ≡ true → i < length marks
marked-below marks i e = go (dec_lt i (length marks))
  where
    go : Dec (i < length marks) → i < length marks
    go (yes h) = h
    go (no h) = absurd (true≢false (sym e ∙ get_or-eq_default marks false {n = i} (omega arith)))

-- of these indexes, j is the first that is marked
record First (marks : List Bool) (is : List ℕ) (j : ℕ) : Type 0 where
  place : ℕ
  inside : place < length is
  there : get_or is place 0 ≡ j
  marked : get_or marks j false ≡ true
  before : (q : ℕ) → q < place → get_or marks (get_or is q 0) false ≡ false

-- what a search for the first marked index has to find
unfoldable Found : List Bool → List ℕ → Option ℕ → Type 0
Found marks is None = (q : ℕ) → q < length is → get_or marks (get_or is q 0) false ≡ false
Found marks is (Some j) = First marks is j

found : (marks : List Bool) (is : List ℕ) → Found marks is (first_marked marks is)
unfolding Found first_marked
found marks [] = λ q h. absurd (omega arith)
found marks (i ∷ is) = go (get_or marks i false) refl (first_marked marks is) (found marks is)
  where
    after : get_or marks i false ≡ false → (n : ℕ) → ((q : ℕ) → q < n → get_or marks (get_or is q 0) false ≡ false)
        → (q : ℕ) → q < suc n → get_or marks (get_or (i ∷ is) q 0) false ≡ false
    after e n f zero h = e
    after e n f (suc q) h = f q (omega arith)

    go : (b : Bool) → get_or marks i false ≡ b → (o : Option ℕ) → Found marks is o → Found marks (i ∷ is) (cond b (Some i) o)
    go true e o f = record { place = 0; inside = omega arith; there = refl; marked = e; before = λ q h. absurd (omega arith) }
    go false e None f = after e (length is) f
    go false e (Some j) f = record {
      place = suc f.place;
      inside = omega (arith, f.inside);
      there = f.there;
      marked = f.marked;
      before = after e f.place f.before;
    }

-- ---- the round

-- where the round of n indexes stands at one of them, index i is s further on: before the round comes to its end, or after that
data Further (n at i s : ℕ) : Type 0 where
  near : at + s ≡ i → Further n at i s
  far : at + s ≡ i + n → Further n at i s

module _ (n at : ℕ) (in_round : at ≤ n) where
  -- each index is less than a round further on
  further : (i : ℕ) → i < n → (s : ℕ) × (s < n) × Further n at i s
  further i h = go (dec_lt i at)
    where
      go : Dec (i < at) → (s : ℕ) × (s < n) × Further n at i s
      go (yes l) = (i + n - at, omega arith, far (omega arith))
      go (no l) = (i - at, omega arith, near (omega arith))

  -- the round has it there
  round-has : (i s : ℕ) → i < n → s < n → Further n at i s → get_or (round (numbers 0 n) at) s 0 ≡ i
  round-has i s h l (near e) =
      round-near (numbers 0 n) at s 0 (rw length-numbers (omega arith)) ∙ get_or-numbers n 0 (at + s) 0 (omega arith) ∙ zero-add (at + s) ∙ e
  round-has i s h l (far e) =
      let same : s - (n - at) ≡ i = omega arith in
      round-far (numbers 0 n) at s 0 (rw length-numbers in_round) (rw length-numbers (omega arith)) (rw length-numbers l)
      ∙ rw length-numbers (get_or-numbers n 0 (s - (n - at)) 0 (omega arith) ∙ zero-add (s - (n - at)) ∙ same)

  -- and has nothing else
  round-further : (s : ℕ) → s < n → (i : ℕ) × (i < n) × (get_or (round (numbers 0 n) at) s 0 ≡ i) × Further n at i s
  round-further s l = go (dec_lt (at + s) n)
    where
      go : Dec (at + s < n) → (i : ℕ) × (i < n) × (get_or (round (numbers 0 n) at) s 0 ≡ i) × Further n at i s
      go (yes h) = (at + s, h, round-has (at + s) s h l (near refl), near refl)
      go (no h) =
          let e : at + s ≡ at + s - n + n = omega arith in
          (at + s - n, omega arith, round-has (at + s - n) s (omega arith) l (far e), far e)

  -- where the round goes on after an index that comes earlier, i is nearer
  nearer : (j q i s : ℕ) → j < n → i < n → q < s → s < n → Further n at j q → Further n at i s → Further n (suc j) i (s - suc q)
  nearer j q i s hj hi h l (near e) (near f) = near (omega arith)
  nearer j q i s hj hi h l (near e) (far f) = far (omega arith)
  nearer j q i s hj hi h l (far e) (near f) = absurd (omega arith)
  nearer j q i s hj hi h l (far e) (far f) = near (omega arith)

-- an index that comes earlier is less far on
sooner : (n at k j s q : ℕ) → k < n → s < n → Earlier at k j → Further n at k s → Further n at j q → s < q
unfolding Earlier
sooner n at k j s q h l (inl o) (near a) (near b) = omega (arith, o.1)
sooner n at k j s q h l (inl o) (near a) (far b) = omega (arith, o.1)
sooner n at k j s q h l (inl o) (far a) b = absurd (omega (arith, o.0))
sooner n at k j s q h l (inr (o, p)) a (near b) = absurd (omega arith)
sooner n at k j s q h l (inr (o, inl p)) (near a) (far b) = omega arith
sooner n at k j s q h l (inr (o, inl p)) (far a) (far b) = absurd (omega arith)
sooner n at k j s q h l (inr (o, inr p)) (near a) (far b) = absurd (omega arith)
sooner n at k j s q h l (inr (o, inr p)) (far a) (far b) = omega arith

-- ---- whose turn it is

module _ (xs : List Standing) (at : ℕ) where
  abbrev places : List ℕ
  places = round (numbers 0 (length xs)) at

  length-places : length places ≡ length xs
  length-places = length-round (numbers 0 (length xs)) at ∙ length-numbers (length xs) 0

  found-next : (o : Option ℕ) → next_able xs at ≡ o → Found (map can_go xs) places o
  unfolding next_able
  found-next o e = subst (Found (map can_go xs) places) e (found (map can_go xs) places)

  first_next : (j : ℕ) → next_able xs at ≡ Some j → First (map can_go xs) places j
  unfolding Found
  first_next j e = found-next (Some j) e

  -- the store whose turn it is can go on
  pub next-able : (j : ℕ) → next_able xs at ≡ Some j → (j < length xs) × (can_go (standing_at xs j) ≡ true)
  next-able j e =
      let f : First (map can_go xs) places j = first_next j e in
      let h : j < length xs = rw length-map at (marked-below (map can_go xs) j f.marked) in
      (h, sym (mark-at xs j h) ∙ f.marked)

  module _ (in_round : at ≤ length xs) (i : ℕ) (h : i < length xs) where
    -- it is nobody's turn: no store can go on
    next-none : next_able xs at ≡ None → can_go (standing_at xs i) ≡ false
    unfolding Found
    next-none e =
        let w : (s : ℕ) × (s < length xs) × Further (length xs) at i s = further (length xs) at in_round i h in
        let has : get_or places w.0 0 ≡ i = round-has (length xs) at in_round i w.0 h w.1 w.2 in
        let off : get_or (map can_go xs) (get_or places w.0 0) false ≡ false = found-next None e w.0 (rw length-places w.1) in
        sym (mark-at xs i h) ∙ ap (λ (k : ℕ). get_or (map can_go xs) k false) (sym has) ∙ off

    -- it is the turn of another than i, which can go on: the turn after it is nearer to i
    next-nearer : (j s : ℕ) → next_able xs at ≡ Some j → i ≢ j → can_go (standing_at xs i) ≡ true → s < length xs → Further (length xs) at i s
        → (r : ℕ) × (r < s) × Further (length xs) (suc j) i r
    next-nearer j s e other able l w = go (dec_lt q s)
      where
        f : First (map can_go xs) places j
        f = first_next j e

        q : ℕ
        q = f.place

        has : get_or places s 0 ≡ i
        has = round-has (length xs) at in_round i s h l w

        inside : q < length xs
        inside = rw length-places at f.inside

        at_place : (k : ℕ) × (k < length xs) × (get_or places q 0 ≡ k) × Further (length xs) at k q
        at_place = round-further (length xs) at in_round q inside

        here : Further (length xs) at j q
        here = subst (λ (k : ℕ). Further (length xs) at k q) (sym at_place.2 ∙ f.there) at_place.3

        -- as i is marked and is not j, j comes before it
        late : Dec (s < q) → (q < s → ⊥) → ⊥
        late (yes b) g = true≢false (sym able ∙ sym (mark-at xs i h) ∙ ap (λ (k : ℕ). get_or (map can_go xs) k false) (sym has) ∙ f.before s b)
        late (no b) g =
            let same : s ≡ q = omega arith in
            other (sym has ∙ ap (λ (k : ℕ). get_or places k 0) same ∙ f.there)

        go : Dec (q < s) → (r : ℕ) × (r < s) × Further (length xs) (suc j) i r
        go (yes g) = (s - suc q, omega arith, nearer (length xs) at in_round j q i s (next-able j e).0 h g l here w)
        go (no g) = absurd (late (dec_lt s q) g)

-- what comes before it in the round cannot go on
pub passed-over : (xs : List Standing) (at : ℕ) → at ≤ length xs → (j : ℕ) → next_able xs at ≡ Some j
    → (k : ℕ) → k < length xs → Earlier at k j → can_go (standing_at xs k) ≡ false
passed-over xs at in_round j e k h earlier =
    sym (mark-at xs k h) ∙ ap (λ (i : ℕ). get_or (map can_go xs) i false) (sym has)
    ∙ f.before w.0 (sooner n at k j w.0 f.place h w.1 earlier w.2 here)
  where
    n : ℕ
    n = length xs

    f : First (map can_go xs) (places xs at) j
    f = first_next xs at j e

    inside : f.place < n
    inside = rw (length-places xs at) at f.inside

    at_place : (i : ℕ) × (i < n) × (get_or (places xs at) f.place 0 ≡ i) × Further n at i f.place
    at_place = round-further n at in_round f.place inside

    here : Further n at j f.place
    here = subst (λ (i : ℕ). Further n at i f.place) (sym at_place.2 ∙ f.there) at_place.3

    w : (s : ℕ) × (s < n) × Further n at k s
    w = further n at in_round k h

    has : get_or (places xs at) w.0 0 ≡ k
    has = round-has n at in_round k w.0 h w.1 w.2

-- ---- the turns of a call

module _ (turn_length : ℕ) where
  -- none where it is nobody's turn; else that store's, and then the rest, with the round at the index after it
  pub turns-none : (turns at : ℕ) (xs : List Standing) → next_able xs at ≡ None → turns_from turn_length (suc turns) at xs ≡ []
  unfolding turns_from
  turns-none turns at xs e =
      ap (λ (o : Option ℕ). elim o [ None ↦ [] | Some i ↦ i ∷ turns_from turn_length turns (suc i) (turn_of turn_length i xs) ]) e

  pub turns-some : (turns at : ℕ) (xs : List Standing) (j : ℕ) → next_able xs at ≡ Some j
      → turns_from turn_length (suc turns) at xs ≡ j ∷ turns_from turn_length turns (suc j) (turn_of turn_length j xs)
  unfolding turns_from
  turns-some turns at xs j e =
      ap (λ (o : Option ℕ). elim o [ None ↦ [] | Some i ↦ i ∷ turns_from turn_length turns (suc i) (turn_of turn_length i xs) ]) e

  -- AT MOST AS MANY AS ARE STATED
  pub most : (turns at : ℕ) (xs : List Standing) → length (turns_from turn_length turns at xs) ≤ turns
  unfolding turns_from
  most zero at xs = omega arith
  most (suc turns) at xs = go (next_able xs at) refl (λ j. most turns (suc j) (turn_of turn_length j xs))
    where
      go : (o : Option ℕ) → next_able xs at ≡ o → ((j : ℕ) → length (turns_from turn_length turns (suc j) (turn_of turn_length j xs)) ≤ turns)
          → length (turns_from turn_length (suc turns) at xs) ≤ suc turns
      go None e rest = rw (turns-none turns at xs e) (omega arith)
      go (Some j) e rest = rw (turns-some turns at xs j e) (omega (arith, rest j))

  -- after these turns no store can go on
  abbrev NoneCan : ℕ → ℕ → List Standing → Type 0
  NoneCan turns at xs = (i : ℕ) → i < length xs → can_go (standing_at (after_turns turn_length (turns_from turn_length turns at xs) xs) i) ≡ false

  -- FEWER ONLY ONCE NO STORE CAN GO ON
  pub fewer : (turns at : ℕ) (xs : List Standing) → length (turns_from turn_length turns at xs) < turns → at ≤ length xs → (i : ℕ) → i < length xs
      → can_go (standing_at (after_turns turn_length (turns_from turn_length turns at xs) xs) i) ≡ false
  unfolding turns_from after_turns
  fewer zero at xs few in_round i h = absurd (omega arith)
  fewer (suc turns) at xs few in_round i h =
      go (next_able xs at) refl (λ j few in_round. fewer turns (suc j) (turn_of turn_length j xs) few in_round)
    where
      go : (o : Option ℕ) → next_able xs at ≡ o
          → ((j : ℕ) → length (turns_from turn_length turns (suc j) (turn_of turn_length j xs)) < turns → suc j ≤ length (turn_of turn_length j xs)
          → NoneCan turns (suc j) (turn_of turn_length j xs))
          → can_go (standing_at (after_turns turn_length (turns_from turn_length (suc turns) at xs) xs) i) ≡ false
      go None e rest = rw (turns-none turns at xs e) (next-none xs at in_round i h e)
      go (Some j) e rest =
          let all : List ℕ = turns_from turn_length turns (suc j) (turn_of turn_length j xs) in
          let one : suc (length all) < suc turns = rw (turns-some turns at xs j e) at few in
          rw (turns-some turns at xs j e) (rest j (omega arith) (rw turn-length (next-able xs at j e).0) i (rw turn-length h))

  -- the first turn of a call is of store j: it is its turn, and the rest are given after it
  record Turned (at : ℕ) (xs : List Standing) (j : ℕ) (rest : List ℕ) : Type 0 where
    left : ℕ
    next : next_able xs at ≡ Some j
    later : turns_from turn_length left (suc j) (turn_of turn_length j xs) ≡ rest

  turned : (turns at : ℕ) (xs : List Standing) (j : ℕ) (rest : List ℕ) → turns_from turn_length turns at xs ≡ j ∷ rest → Turned at xs j rest
  unfolding turns_from
  turned zero at xs j rest e = absurd (nil≢cons e)
  turned (suc turns) at xs j rest e = go (next_able xs at) refl
    where
      go : (o : Option ℕ) → next_able xs at ≡ o → Turned at xs j rest
      go None n = absurd (nil≢cons (sym (turns-none turns at xs n) ∙ e))
      go (Some k) n =
          let both : k ∷ turns_from turn_length turns (suc k) (turn_of turn_length k xs) ≡ j ∷ rest = sym (turns-some turns at xs k n) ∙ e in
          let same : k ≡ j = head-eq_of_cons-eq both in
          record {
            left = turns;
            next = n ∙ ap Some same;
            later = ap (λ (m : ℕ). turns_from turn_length turns (suc m) (turn_of turn_length m xs)) (sym same) ∙ tail-eq_of_cons-eq both;
          }

  -- after the first turns of a call, the rest are those of a call that goes on with the stores as they stand by then
  record Parted (at : ℕ) (xs : List Standing) (before rest : List ℕ) : Type 0 where
    left : ℕ
    place : ℕ
    in_round : at ≤ length xs → place ≤ length xs
    later : turns_from turn_length left place (after_turns turn_length before xs) ≡ rest

  parted : (turns at : ℕ) (xs : List Standing) (before rest : List ℕ) → turns_from turn_length turns at xs ≡ before ++ rest → Parted at xs before rest
  unfolding after_turns
  parted turns at xs [] rest e = record { left = turns; place = at; in_round = λ h. h; later = e }
  parted turns at xs (j ∷ before) rest e =
      let t : Turned at xs j (before ++ rest) = turned turns at xs j (before ++ rest) e in
      let p : Parted (suc j) (turn_of turn_length j xs) before rest = parted t.left (suc j) (turn_of turn_length j xs) before rest t.later in
      record {
        left = p.left;
        place = p.place;
        in_round = λ h. rw turn-length at (p.in_round (rw turn-length (next-able xs at j t.next).0));
        later = p.later;
      }

  -- EACH TURN IS OF A STORE THAT CAN GO ON
  pub able : (turns at : ℕ) (xs : List Standing) (before rest : List ℕ) (i : ℕ) → turns_from turn_length turns at xs ≡ before ++ (i ∷ rest)
      → (i < length xs) × (can_go (standing_at (after_turns turn_length before xs) i) ≡ true)
  able turns at xs before rest i e =
      let ys : List Standing = after_turns turn_length before xs in
      let p : Parted at xs before (i ∷ rest) = parted turns at xs before (i ∷ rest) e in
      let t : Turned p.place ys i rest = turned p.left p.place ys i rest p.later in
      let a : (i < length ys) × (can_go (standing_at ys i) ≡ true) = next-able ys p.place i t.next in
      (rw turns-length at a.0, a.1)

  -- THE FIRST TURN, and the next after each: no store that can go on is passed
  pub starts : (turns at : ℕ) (xs : List Standing) → at ≤ length xs → (i : ℕ) (rest : List ℕ) → turns_from turn_length turns at xs ≡ i ∷ rest
      → (k : ℕ) → k < length xs → Earlier at k i → can_go (standing_at xs k) ≡ false
  starts turns at xs in_round i rest e = passed-over xs at in_round i (turned turns at xs i rest e).next

  pub follows : (turns at : ℕ) (xs : List Standing) (before : List ℕ) (i j : ℕ) (rest : List ℕ)
      → turns_from turn_length turns at xs ≡ before ++ (i ∷ (j ∷ rest)) → (k : ℕ) → k < length xs → Earlier (suc i) k j
      → can_go (standing_at (after_turns turn_length (before ++ (i ∷ [])) xs) k) ≡ false
  follows turns at xs before i j rest e k h earlier =
      let ys : List Standing = after_turns turn_length before xs in
      let zs : List Standing = turn_of turn_length i ys in
      let p : Parted at xs before (i ∷ (j ∷ rest)) = parted turns at xs before (i ∷ (j ∷ rest)) e in
      let t : Turned p.place ys i (j ∷ rest) = turned p.left p.place ys i (j ∷ rest) p.later in
      let size : length zs ≡ length xs = turn-length turn_length i ys ∙ turns-length turn_length before xs in
      let inside : suc i ≤ length zs = rw turn-length (next-able ys p.place i t.next).0 in
      ap (λ (l : List Standing). can_go (standing_at l k)) (turns_then turn_length i before xs)
      ∙ starts t.left (suc i) zs inside j rest t.later k (rw size h) earlier

  -- turns of which none is of store i: the first is not, and none of the rest is
  none-at : (i j : ℕ) (js : List ℕ) → turns_at i (j ∷ js) ≡ 0 → (i ≢ j) × (turns_at i js ≡ 0)
  unfolding turns_at
  none-at i j js e = go (eqb j i) refl e
    where
      go : (b : Bool) → eqb j i ≡ b → cond b 1 0 + turns_at i js ≡ 0 → (i ≢ j) × (turns_at i js ≡ 0)
      go true t z = absurd (omega arith)
      go false t z = (λ same. eqb-false j i t (sym same), omega arith)

  -- where store i can go on and is s further on in the round, at most s turns are of others before its own
  waits-from : (others rest : List ℕ) (turns at : ℕ) (xs : List Standing) (i s : ℕ) → turns_from turn_length turns at xs ≡ others ++ rest
      → at ≤ length xs → i < length xs → can_go (standing_at xs i) ≡ true → turns_at i others ≡ 0 → s < length xs → Further (length xs) at i s
      → length others ≤ s
  waits-from [] rest turns at xs i s e in_round h can off l w = omega arith
  waits-from (j ∷ others) rest turns at xs i s e in_round h can off l w =
      let t : Turned at xs j (others ++ rest) = turned turns at xs j (others ++ rest) e in
      let o : (i ≢ j) × (turns_at i others ≡ 0) = none-at i j others off in
      let r : (r : ℕ) × (r < s) × Further (length xs) (suc j) i r = next-nearer xs at in_round i h j s t.next o.0 can l w in
      let below : j < length xs = (next-able xs at j t.next).0 in
      let few : length others ≤ r.0 =
      waits-from others rest t.left (suc j) (turn_of turn_length j xs) i r.0 t.later (rw turn-length below) (rw turn-length h)
      (ap can_go (turn-other turn_length i j xs o.0) ∙ can) o.1 (rw turn-length (omega (arith, r.1))) (rw turn-length r.2) in
      omega (arith, r.1)

  -- A STORE THAT CAN GO ON WAITS fewer turns of others than there are stores
  pub waits : (turns at : ℕ) (xs : List Standing) (before others rest : List ℕ) (i : ℕ)
      → turns_from turn_length turns at xs ≡ before ++ (others ++ rest) → at ≤ length xs → i < length xs
      → can_go (standing_at (after_turns turn_length before xs) i) ≡ true → turns_at i others ≡ 0 → length others < length xs
  waits turns at xs before others rest i e in_round h can off =
      let ys : List Standing = after_turns turn_length before xs in
      let same : length ys ≡ length xs = turns-length turn_length before xs in
      let p : Parted at xs before (others ++ rest) = parted turns at xs before (others ++ rest) e in
      let inside : p.place ≤ length ys = rw same (p.in_round in_round) in
      let below : i < length ys = rw same h in
      let w : (s : ℕ) × (s < length ys) × Further (length ys) p.place i s = further (length ys) p.place inside i below in
      let few : length others ≤ w.0 =
      waits-from others rest p.left p.place ys i w.0 p.later inside below can off w.1 w.2 in
      omega (arith, w.1)
