-- The turns of a call, one after another, as the code keeps them: the tallies, the stores in the part, and how many turns were given. Assumes
-- nothing.
use mathlib.Core.Path.{◌≡◌, refl, sym, ap, ◌∙◌, subst}
use mathlib.Core.Bool.{Bool, true, false, not, ◌&&◌}
use mathlib.Core.List.{List, [], ◌∷◌, ◌++◌, map, append_assoc, append-nil}
use Prim.Native.Nat.{ℕ, zero, suc, ◌+◌, ◌*◌, ◌-◌, ◌^◌, ◌≤◌, ◌<◌}
use native.Mathlib.Nat.{zero-add}
use native.Mathlib.Omega.{arith}
use lib.ListN.{length, get_or, set, take, drop, length-append, length-map, get_or-map}
use Rattle.std.specs.Prelude.{Option, Some, None, Result}
use Rattle.std.proofs.lemmas.Simd.{map-map}
use Rattle.limits.specs.Limits.{store_size, most_stores}
use Rattle.ring.specs.Ring.{numbers, round}
use Rattle.event.specs.Ready.{Ready}
use Rattle.platform.specs.declared.Ran.{Ran}
use Rattle.platform.specs.declared.RunRefusal.{RunRefusal}
use Rattle.platform.specs.Calls.{AfterRun, run_next, events_done}
use Rattle.dispatcher.specs.declared.Dispatched.{Dispatched}
use Rattle.dispatcher.specs.declared.tally.Tally.{Tally}
use Rattle.dispatcher.specs.Dispatch.{pieces, joined, stores_in, Standing, fresh, event_left, can_go, after_turn, standing_at, turn_of, after_turns}
use Rattle.dispatcher.specs.Dispatch.{first_marked, next_able, turns_from, standings, turns_of, standings_after, for_eight, bits, given, part_after}
use Rattle.dispatcher.specs.Tally.{tally_of, new_tally, able_marks, stopped_marks, after_ran, answer_of, Whole, AllReady}
use Rattle.dispatcher.specs.Claims.{turns_at}
use Rattle.dispatcher.proofs.Pieces.{piece-at, pieces-joined, replaced, replaced-pieces, length-replaced}
use Rattle.dispatcher.proofs.Parts.{cut, stores-count, lent-piece}
use Rattle.dispatcher.proofs.Marks.{eight-at, eight-set, eight-map, eight-marked, eight-bits}
use Rattle.dispatcher.proofs.Round.{turns-length, turns_then, turns-none, next-able, turns-some}
use Rattle.dispatcher.proofs.Alone.{alone, at_first, goes-on, after-turns, alone-ready, alone-few}
use Rattle.dispatcher.proofs.Alone.{turn_stopped, turn-able}

-- ---- the tally

-- they tell how the stores stand
abbrev pub Tells : List Tally → List Standing → Type 0
Tells ts xs = ts ≡ for_eight (new_tally false) (map tally_of xs)

map-set : {A : Type 0} (f : Standing → A) (xs : List Standing) (i : ℕ) (x : Standing) → map f (set xs i x) ≡ set (map f xs) i (f x)
map-set f [] i x = refl
map-set f (y ∷ xs) zero x = refl
map-set f (y ∷ xs) (suc i) x = ap (λ l. f y ∷ l) (map-set f xs i x)

-- an element of a mapped list
pub map_at : {A : Type 0} (z : A) (f : Standing → A) (xs : List Standing) (i : ℕ) → i < length xs → get_or (map f xs) i z ≡ f (standing_at xs i)
map_at z f [] i h = absurd (omega arith)
map_at z f (x ∷ xs) zero h = refl
map_at z f (x ∷ xs) (suc i) h = map_at z f xs i (omega arith)

-- what is told of a store is told anew after its turn
module _ {A : Type 0} (z : A) (f : Standing → A) (xs : List Standing) (i : ℕ) (h : i < length xs) (l : List A) (e : l ≡ for_eight z (map f xs)) where
  pub told_at : get_or l i z ≡ f (standing_at xs i)
  told_at = ap (λ (m : List A). get_or m i z) e ∙ eight-at z (map f xs) i ∙ map_at z f xs i h

  pub told-anew : (x : Standing) {y : A} → y ≡ f x → set l i y ≡ for_eight z (map f (set xs i x))
  told-anew x {y} same =
      let inside : i < length (map f xs) = rw (length-map xs f) h in
      rw (same, e) (sym (ap (for_eight z) (map-set f xs i x) ∙ eight-set z (map f xs) i (f x) inside))

-- what the tallies tell of each store
told-all : {A : Type 0} (f : Tally → A) {ts : List Tally} (xs : List Standing) → Tells ts xs
    → map f ts ≡ for_eight (f (new_tally false)) (map (λ (x : Standing). f (tally_of x)) xs)
told-all f xs w = ap (map f) w ∙ eight-map f (new_tally false) (map tally_of xs) ∙ ap (for_eight (f (new_tally false))) (map-map f tally_of xs)

module _ (each : ℕ) (xs : List Standing) (i : ℕ) (h : i < length xs) (ready : Ready (standing_at xs i).store) {ts : List Tally} (w : Tells ts xs) where
  abbrev stood : Standing
  stood = standing_at xs i

  -- a turn, by its run's answer
  abbrev a : Result Ran RunRefusal
  a = (run_next stood.store each).answer

  pub told : get_or ts i (new_tally false) ≡ tally_of stood
  told = told_at (new_tally false) tally_of xs i h ts w

  pub tells-turn : Tells (set ts i (after_ran (get_or ts i (new_tally false)) a)) (turn_of each i xs)
  unfolding after_ran tally_of turn_of after_turn
  tells-turn =
      let now : Standing = after_turn each stood in
      let same : after_ran (get_or ts i (new_tally false)) a ≡ tally_of now =
      ap (λ (t : Tally). after_ran t a) told ∙ tallied (sym (turn-able each stood ready)) (sym (turn_stopped each stood ready)) in
      told-anew (new_tally false) tally_of xs i h ts w now same
    where
      tallied : {able stopped : Bool} {events : ℕ} {c d : Bool} → able ≡ c → stopped ≡ d
          → ◌≡◌ {A = Tally} (record { able = able; stopped = stopped; events = events }) (record { able = c; stopped = d; events = events })
      tallied e f = rw (e, f)

-- ---- before the first turn

fresh-stores : (bs : List (List ℕ)) → map (λ (x : Standing). x.store) (map fresh bs) ≡ bs
unfolding fresh
fresh-stores [] = refl
fresh-stores (b ∷ bs) = ap (λ (l : List (List ℕ)). b ∷ l) (fresh-stores bs)

fresh-tallies : (bs : List (List ℕ)) → map tally_of (map fresh bs) ≡ map (λ (b : List ℕ). new_tally (event_left b)) bs
unfolding fresh can_go tally_of
fresh-tallies [] = refl
fresh-tallies (b ∷ bs) =
    ap (λ (l : List Tally). tally_of (fresh b) ∷ l) (fresh-tallies bs)
    ∙ ap (λ (c : Bool). new_tally c ∷ map (λ (b : List ℕ). new_tally (event_left b)) bs) (not_stopped (event_left b))
  where
    not_stopped : (c : Bool) → (c && not false) ≡ c
    not_stopped true = refl
    not_stopped false = refl

-- ---- the turns of a call

-- no store's turn, and a store's turn, whatever the number of turns is
turns-end : (each k at : ℕ) (xs : List Standing) → next_able xs at ≡ None → turns_from each k at xs ≡ []
unfolding turns_from
turns-end each zero at xs e = refl
turns-end each (suc k) at xs e = turns-none each k at xs e

turns_next : (each k at : ℕ) (xs : List Standing) (i : ℕ) → 0 < k → next_able xs at ≡ Some i
    → turns_from each k at xs ≡ i ∷ turns_from each (k - 1) (i + 1) (turn_of each i xs)
turns_next each zero at xs i h e = absurd (omega arith)
turns_next each (suc k) at xs i h e =
    let one_less : suc k - 1 ≡ k = omega arith in
    let next : i + 1 ≡ suc i = omega arith in
    turns-some each k at xs i e ∙ rw (one_less, next) refl

module _ (part : List ℕ) (n : ℕ) (whole : Whole n part) (ready : AllReady (stores_in part)) (each turns : ℕ) (long : 1 ≤ each) where
  pub standings-count : length (standings part) ≡ n
  unfolding standings
  standings-count = length-map (stores_in part) fresh ∙ stores-count n part whole

  -- how the stores stand after some turns
  abbrev pub stand : List ℕ → List Standing
  stand is = after_turns each is (standings part)

  pub stand-count : (is : List ℕ) → length (stand is) ≡ n
  stand-count is = turns-length each is (standings part) ∙ standings-count

  module _ (i : ℕ) (h : i < n) where
    -- the store at index i, as it was lent
    abbrev pub first : List ℕ
    first = get_or (stores_in part) i []

    first-ready : Ready first
    first-ready = ready i (rw (stores-count n part whole) h)

    -- it stands as after one run of it by itself
    pub stands : (is : List ℕ) → standing_at (stand is) i ≡ alone first (turns_at i is * each)
    unfolding standings
    stands is =
        after-turns each long first first-ready i is (standings part) 0 (rw standings-count h)
        (get_or-map fresh (stores_in part) i [] ∙ at_first first first-ready) ∙ ap (alone first) (zero-add (turns_at i is * each))

    pub stand-ready : (is : List ℕ) → Ready (standing_at (stand is) i).store
    stand-ready is = subst (λ (x : Standing). Ready x.store) (sym (stands is)) (alone-ready first first-ready (turns_at i is * each))

    -- after one turn more
    stand-next : (is : List ℕ) → after_turn each (standing_at (stand is) i) ≡ alone first (turns_at i is * each + each)
    stand-next is = ap (after_turn each) (stands is) ∙ goes-on first first-ready (turns_at i is * each) each long

  -- an answer, number by number
  answered : {k m : ℕ} {es fs : List ℕ} {c d : ℕ} → k ≡ m → es ≡ fs → c ≡ d
      → ◌≡◌ {A = Dispatched} (record { turns = k; events = es; stopped = c }) (record { turns = m; events = fs; stopped = d })
  answered e f g = rw (e, f, g)

  -- so far: the turns given, and how the stores stand after them
  pub record Gives (done at : ℕ) (b : List ℕ) (ts : List Tally) : Type 0 where
    pub past : List ℕ
    pub order : turns_of part each turns ≡ past ++ turns_from each (turns - done) at (stand past)
    pub count : length past ≡ done
    pub place : at ≤ n
    pub tells : Tells ts (stand past)
    pub stores : pieces store_size n b ≡ map (λ (x : Standing). x.store) (stand past)
    pub size : length b ≡ n * store_size

  -- before the first turn
  pub gives-first : (ts : List Tally) → ts ≡ for_eight (new_tally false) (map (λ (b : List ℕ). new_tally (event_left b)) (stores_in part)) → Gives 0 0 part ts
  unfolding turns_of after_turns standings
  gives-first ts tells =
      let bs : List (List ℕ) = stores_in part in
      let all : turns - 0 ≡ turns = omega arith in
      record {
        past = [];
        order = rw all;
        count = refl;
        place = omega arith;
        tells = tells ∙ ap (for_eight (new_tally false)) (sym (fresh-tallies bs));
        stores = sym (cut n part whole) ∙ sym (fresh-stores bs);
        size = whole.size;
      }

  module _ (done at : ℕ) (b : List ℕ) (ts : List Tally) (w : Gives done at b ts) where
    abbrev xs : List Standing
    xs = stand w.past

    -- whose turn it is, by the code's marks
    pub next-index : first_marked (able_marks ts) (round (numbers 0 n) at) ≡ next_able xs at
    unfolding next_able tally_of
    next-index =
        rw (told-all (λ (t : Tally). t.able) xs w.tells, eight-marked (map can_go xs) (round (numbers 0 n) at))
        (ap (λ (k : ℕ). first_marked (map can_go xs) (round (numbers 0 k) at)) (sym (stand-count w.past)))

    -- no turn is left to give
    pub used-up : turns ≤ done → turns_from each (turns - done) at xs ≡ []
    unfolding turns_from
    used-up h = let none_left : turns - done ≡ 0 = omega arith in rw none_left refl

    pub none-able : next_able xs at ≡ None → turns_from each (turns - done) at xs ≡ []
    none-able e = turns-end each (turns - done) at xs e

    -- what the call then answers and leaves
    module _ (all : turns_from each (turns - done) at xs ≡ []) where
      past_all : turns_of part each turns ≡ w.past
      past_all = w.order ∙ ap (λ (is : List ℕ). w.past ++ is) all ∙ append-nil w.past

      pub gave-answer : answer_of ts done ≡ given (length (turns_of part each turns)) (standings_after part each turns)
      unfolding answer_of given standings_after tally_of
      gave-answer =
          let stops : bits (stopped_marks ts) ≡ bits (map (λ (x : Standing). x.stopped) xs) =
          ap bits (told-all (λ (t : Tally). t.stopped) xs w.tells) ∙ eight-bits _ in
          answered (sym w.count) (told-all (λ (t : Tally). t.events) xs w.tells) stops ∙ ap (λ (is : List ℕ). given (length is) (stand is)) (sym past_all)

      pub gave-part : b ≡ part_after (standings_after part each turns)
      unfolding part_after standings_after
      gave-part =
          sym (pieces-joined store_size n b w.size) ∙ ap joined w.stores
          ∙ ap (λ (is : List ℕ). joined (map (λ (x : Standing). x.store) (stand is))) (sym past_all)

    -- the next turn is of store i
    module _ (more : done < turns) (i : ℕ) (e : next_able xs at ≡ Some i) where
      here : (i < length xs) × (can_go (standing_at xs i) ≡ true)
      here = next-able xs at i e

      pub inside : i < n
      inside = rw (stand-count w.past) at here.0

      -- its bytes are lent to the run
      abbrev piece : List ℕ
      piece = take store_size (drop (i * store_size) b)

      pub piece_is : piece ≡ (standing_at xs i).store
      piece_is =
          sym (piece-at store_size n i b inside) ∙ ap (λ (bs : List (List ℕ)). get_or bs i []) w.stores
          ∙ map_at [] (λ (x : Standing). x.store) xs i here.0

      pub piece-ready : Ready piece
      piece-ready = rw piece_is (stand-ready i inside w.past)

      abbrev ran-there : AfterRun
      ran-there = run_next piece each

      pub events-fit : (get_or ts i (new_tally false)).events + events_done ran-there.answer < 2 ^ 64
      unfolding after_turn tally_of
      events-fit =
          let sum : (after_turn each (standing_at xs i)).events < 2 ^ 64 =
          subst (λ (x : Standing). x.events < 2 ^ 64) (sym (stand-next i inside w.past))
          (alone-few (first i inside) (first-ready i inside) (turns_at i w.past * each + each)) in
          rw (told_at (new_tally false) tally_of xs i here.0 ts w.tells, piece_is) sum

      pub goes-round : Gives (done + 1) (i + 1) (replaced store_size i ran-there.store b)
          (set ts i (after_ran (get_or ts i (new_tally false)) ran-there.answer))
      unfolding after_turn turn_of
      goes-round =
          let fewer : (turns - done) - 1 ≡ turns - (done + 1) = omega arith in
          let rest : List ℕ = turns_from each (turns - (done + 1)) (i + 1) (turn_of each i xs) in
          let turn = rw fewer at (turns_next each (turns - done) at xs i (omega arith) e) in
          let later : stand (w.past ++ (i ∷ [])) ≡ turn_of each i xs = turns_then each i w.past (standings part) in
          let fits : length ran-there.store ≡ store_size = (alone-ready piece piece-ready each).held.size in
          record {
            past = w.past ++ (i ∷ []);
            order =
                w.order ∙ ap (λ (is : List ℕ). w.past ++ is) turn ∙ sym (append_assoc w.past (i ∷ []) rest)
                ∙ ap (λ (ys : List Standing). (w.past ++ (i ∷ [])) ++ turns_from each (turns - (done + 1)) (i + 1) ys) (sym later);
            count = rw (length-append w.past (i ∷ [])) (omega (arith, w.count));
            place = omega (arith, inside);
            tells = rw later (rw piece_is (tells-turn each xs i here.0 (stand-ready i inside w.past) w.tells));
            stores =
                replaced-pieces store_size ran-there.store fits n i b w.size inside
                ∙ ap (λ (bs : List (List ℕ)). set bs i ran-there.store) w.stores
                ∙ ap (λ (c : List ℕ). set (map (λ (x : Standing). x.store) xs) i (run_next c each).store) piece_is
                ∙ sym (map-set (λ (x : Standing). x.store) xs i (after_turn each (standing_at xs i)))
                ∙ ap (map (λ (x : Standing). x.store)) (sym later);
            size = length-replaced store_size ran-there.store fits n i b w.size inside ∙ w.size;
          }

-- ---- what the code knows at each turn

pub record Turning (part : List ℕ) (n each turns done at : ℕ) (b : List ℕ) (ts : List Tally) : Type 0 where
  pub whole : Whole n part
  pub ready : AllReady (stores_in part)
  pub long : 1 ≤ each
  pub gives : Gives part n whole ready each turns long done at b ts

pub turning-first : (part : List ℕ) (n each turns : ℕ) (ts : List Tally) → Whole n part → AllReady (stores_in part) → 1 ≤ each
    → ts ≡ for_eight (new_tally false) (map (λ (b : List ℕ). new_tally (event_left b)) (stores_in part)) → Turning part n each turns 0 0 part ts
turning-first part n each turns ts whole ready long e = record {
  whole = whole;
  ready = ready;
  long = long;
  gives = gives-first part n whole ready each turns long ts e;
}

module _ {part : List ℕ} {n each turns done at : ℕ} {b : List ℕ} {ts : List Tally} (w : Turning part n each turns done at b ts) where
  pub turning-place : (at ≤ n) × (n ≤ most_stores)
  turning-place = (w.gives.place, w.whole.most)

  pub turning-size : length b ≡ length part
  turning-size = w.gives.size ∙ sym w.whole.size

  -- the call ends, with this answer and these stores
  abbrev Ends : Dispatched → Type 0
  Ends a = (a ≡ given (length (turns_of part each turns)) (standings_after part each turns)) × (b ≡ part_after (standings_after part each turns))

  ended : turns_from each (turns - done) at (stand part n w.whole w.ready each turns w.long w.gives.past) ≡ [] → Ends (answer_of ts done)
  ended all = (
    gave-answer part n w.whole w.ready each turns w.long done at b ts w.gives all,
    gave-part part n w.whole w.ready each turns w.long done at b ts w.gives all,
  )

  pub ends-used : done ≤ turns → turns ≤ done → {a : Dispatched} → a ≡ answer_of ts turns → Ends a
  ends-used g h e =
      let all : done ≡ turns = omega arith in
      let u = ended (used-up part n w.whole w.ready each turns w.long done at b ts w.gives h) in
      (e ∙ ap (answer_of ts) (sym all) ∙ u.0, u.1)

  -- whose turn the code finds
  module _ {r : Option ℕ} (e : r ≡ first_marked (able_marks ts) (round (numbers 0 n) at)) where
    found : r ≡ next_able (stand part n w.whole w.ready each turns w.long w.gives.past) at
    found = e ∙ next-index part n w.whole w.ready each turns w.long done at b ts w.gives

    pub ends-none : ((i : ℕ) → r ≡ Some i → ⊥) → {a : Dispatched} → a ≡ answer_of ts done → Ends a
    ends-none f g =
        let u = ended (none-able part n w.whole w.ready each turns w.long done at b ts w.gives (sym found ∙ nobody r f)) in
        (g ∙ u.0, u.1)
      where
        nobody : (o : Option ℕ) → ((i : ℕ) → o ≡ Some i → ⊥) → o ≡ None
        nobody None h = refl
        nobody (Some i) h = absurd (h i refl)

    module _ (more : done < turns) {i : ℕ} (f : r ≡ Some i) where
      its : next_able (stand part n w.whole w.ready each turns w.long w.gives.past) at ≡ Some i
      its = sym found ∙ f

      pub turn_inside : i < n
      turn_inside = inside part n w.whole w.ready each turns w.long done at b ts w.gives more i its

      -- the bytes that are lent to its run
      abbrev pub lent : List ℕ
      lent = take ((i * store_size + store_size) - i * store_size) (drop (i * store_size) b)

      pub turn-ready : Ready lent
      turn-ready =
          subst Ready (sym (lent-piece b i)) (piece-ready part n w.whole w.ready each turns w.long done at b ts w.gives more i its)

      pub turn-fits : {a : Result Ran RunRefusal} → a ≡ (run_next lent each).answer → (get_or ts i (new_tally false)).events + events_done a < 2 ^ 64
      turn-fits g =
          rw (g, lent-piece b i) (events-fit part n w.whole w.ready each turns w.long done at b ts w.gives more i its)

      pub turning-on : {a : Result Ran RunRefusal} {back : List ℕ} {t : Tally} → a ≡ (run_next lent each).answer → back ≡ (run_next lent each).store
          → t ≡ after_ran (get_or ts i (new_tally false)) a
          → Turning part n each turns (done + 1) (i + 1)
          (take (i * store_size) b ++ (back ++ drop ((i * store_size + store_size) - i * store_size) (drop (i * store_size) b))) (set ts i t)
      turning-on g k h =
          let size : (i * store_size + store_size) - i * store_size ≡ store_size = omega arith in
          record {
            whole = w.whole;
            ready = w.ready;
            long = w.long;
            gives = rw (h, g, k, size) (goes-round part n w.whole w.ready each turns w.long done at b ts w.gives more i its);
          }
