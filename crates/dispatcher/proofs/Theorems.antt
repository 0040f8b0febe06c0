-- THE THEOREM of request 104: what it claims holds of every accepted call of the dispatcher. The statement stands in specs/Claims.antt. Assumes
-- nothing.
use mathlib.Core.Path.{◌≡◌, refl, sym, ap, ◌∙◌}
use mathlib.Core.Logic.{◌≢◌}
use mathlib.Core.Bool.{Bool, true, false, cond, and-eq-true_iff, true≢false}
use mathlib.Core.List.{List, [], ◌∷◌, map}
use Prim.Native.Nat.{ℕ, suc, ◌*◌, ◌/◌, ◌%◌, ◌≤◌, ◌<◌}
use native.Mathlib.Omega.{arith}
use borrow.Author.Tests.{eqb-true, leb-true, eq-eqb}
use lib.Dec.{eqb, leb}
use lib.ListN.{length, get_or, length-map, get_or-eq_default}
use Rattle.limits.specs.Limits.{store_size, most_stores, most_turn}
use Rattle.std.specs.Prelude.{Ok, is_ok}
use Rattle.limits.specs.declared.Refusal.TheVariants.{BadStore, TooMany, BadPart, BadTurn}
use Rattle.limits.specs.Refusals.{number_of, answer_of}
use Rattle.ring.specs.Ring.{listed}
use Rattle.plans.specs.Plan.{within}
use Rattle.store.specs.Store.{store_in_range}
use Rattle.platform.specs.Calls.{AfterRun, run_next, run, run_refusal, events_done}
use Rattle.platform.proofs.Stores.{run_in}
use Rattle.dispatcher.specs.Dispatch.{joined, stores_in, Standing, standing_at, after_turns, standings, turns_of, standings_after}
use Rattle.dispatcher.specs.declared.Dispatched.{Dispatched}
use Rattle.dispatcher.specs.Dispatch.{AfterDispatch, given, part_after, gave, turned_down, all_in_range, part_in_range, dispatch}
use Rattle.dispatcher.specs.Tally.{Whole, AllReady}
use Rattle.dispatcher.specs.Claims.{turns_at, Dispatches, store_left, alone}
use Rattle.dispatcher.proofs.Pieces.{AllSized, length-joined, joined-pieces}
use Rattle.dispatcher.proofs.Marks.{eight-at, eight-length, bit_at}
use Rattle.dispatcher.proofs.Parts.{stores-count, each-in-range, lent-ready}
use Rattle.dispatcher.proofs.Round.{most, fewer, starts, follows, able, waits}
use Rattle.dispatcher.proofs.Alone.{alone as by_itself}
use Rattle.dispatcher.proofs.Giving.{map_at, standings-count, stand-count, stands, stand-ready}

-- stores put together are cut into the same stores again
pub stores-joined : (bs : List (List ℕ)) → AllSized store_size bs → stores_in (joined bs) ≡ bs
unfolding stores_in
stores-joined bs all =
    let count : length (joined bs) / store_size ≡ length bs = omega (arith, length-joined store_size bs all) in
    rw count (joined-pieces store_size bs all)

-- ---- an accepted call

-- it passes the three tests, and its part is whole stores in range
pub record Accepts (part : List ℕ) (turn_length turns : ℕ) : Type 0 where
  pub whole : Whole (length part / store_size) part
  pub long : 1 ≤ turn_length
  pub in_range : all_in_range (stores_in part) ≡ true
  pub gives : dispatch part turn_length turns ≡ gave part turn_length turns

pub accepts : (part : List ℕ) (turn_length turns : ℕ) → is_ok (dispatch part turn_length turns).answer ≡ true → Accepts part turn_length turns
unfolding dispatch within part_in_range
accepts part turn_length turns e =
    go (within 1 (most_stores * store_size) (length part)) (within 1 most_turn turn_length) (part_in_range part) refl refl refl e
  where
    by : Bool → Bool → Bool → AfterDispatch
    by a b c = cond a (cond b (cond c (gave part turn_length turns) (turned_down BadStore part)) (turned_down BadTurn part)) (turned_down BadPart part)

    go : (a b c : Bool) → within 1 (most_stores * store_size) (length part) ≡ a → within 1 most_turn turn_length ≡ b → part_in_range part ≡ c
        → is_ok (by a b c).answer ≡ true → Accepts part turn_length turns
    go false b c p q r z = absurd (true≢false (sym z))
    go true false c p q r z = absurd (true≢false (sym z))
    go true true false p q r z = absurd (true≢false (sym z))
    go true true true p q r z =
        let size = (and-eq-true_iff (leb 1 (length part)) _).0 p in
        let turn = (and-eq-true_iff (leb 1 turn_length) _).0 q in
        let stores = (and-eq-true_iff (eqb (length part % store_size) 0) _).0 r in
        let least : 1 ≤ length part = leb-true 1 (length part) size.0 in
        let up : length part ≤ most_stores * store_size = leb-true (length part) (most_stores * store_size) size.1 in
        let even : length part % store_size ≡ 0 = eqb-true (length part % store_size) 0 stores.0 in
        record {
          whole = record { size = omega arith; some = omega arith; most = omega arith };
          long = leb-true 1 turn_length turn.0;
          in_range = stores.1;
          gives = rw (p, q, r);
        }

-- any other call leaves its part
pub part_left : (part : List ℕ) (turn_length turns : ℕ) → is_ok (dispatch part turn_length turns).answer ≡ false
    → (dispatch part turn_length turns).part ≡ part
unfolding dispatch gave
part_left part turn_length turns other =
    go (within 1 (most_stores * store_size) (length part)) (within 1 most_turn turn_length) (part_in_range part) other
  where
    by : Bool → Bool → Bool → AfterDispatch
    by a b c = cond a (cond b (cond c (gave part turn_length turns) (turned_down BadStore part)) (turned_down BadTurn part)) (turned_down BadPart part)

    go : (a b c : Bool) → is_ok (by a b c).answer ≡ false → (by a b c).part ≡ part
    go false b c o = refl
    go true false c o = refl
    go true true false o = refl
    go true true true o = absurd (true≢false o)

-- and 7 refuses none whose part is in range
pub not-seven : (part : List ℕ) (turn_length turns : ℕ) → part_in_range part ≡ true
    → answer_of (dispatch part turn_length turns).answer ≢ number_of BadStore
unfolding dispatch gave
not-seven part turn_length turns e =
    go (within 1 (most_stores * store_size) (length part)) (within 1 most_turn turn_length) (part_in_range part) e
  where
    go : (a b c : Bool) → c ≡ true
        → answer_of (cond a (cond b (cond c (gave part turn_length turns) (turned_down BadStore part)) (turned_down BadTurn part))
        (turned_down BadPart part)).answer ≢ number_of BadStore
    go false b c t = λ z. omega arith
    go true false c t = λ z. omega arith
    go true true false t = absurd (true≢false (sym t))
    go true true true t = λ z. omega arith

-- stores in range, put together, are a part in range
all-in-range : (bs : List (List ℕ)) → ((i : ℕ) → i < length bs → store_in_range (get_or bs i []) ≡ true) → all_in_range bs ≡ true
unfolding all_in_range
all-in-range [] all = refl
all-in-range (b ∷ bs) all = rw (all 0 (omega arith)) (all-in-range bs (λ i h. all (suc i) (omega arith)))

pub joined-in-range : (bs : List (List ℕ)) → AllSized store_size bs → ((i : ℕ) → i < length bs → store_in_range (get_or bs i []) ≡ true)
    → part_in_range (joined bs) ≡ true
unfolding part_in_range
joined-in-range bs sized all =
    let whole : length (joined bs) % store_size ≡ 0 = omega (arith, length-joined store_size bs sized) in
    rw (eq-eqb (length (joined bs) % store_size) 0 whole, stores-joined bs sized) (all-in-range bs all)

module _ (part : List ℕ) (turn_length turns : ℕ) (ready : AllReady (stores_in part)) (a : Accepts part turn_length turns) where
  abbrev n : ℕ
  n = length part / store_size

  -- how the stores stand after the call
  abbrev xs : List Standing
  xs = standings_after part turn_length turns

  abbrev is : List ℕ
  is = turns_of part turn_length turns

  -- what it answers
  abbrev answer : Dispatched
  answer = given (length is) xs

  pub answers : (dispatch part turn_length turns).answer ≡ Ok answer
  unfolding gave
  answers = ap (λ (d : AfterDispatch). d.answer) a.gives

  count : length (stores_in part) ≡ n
  count = stores-count n part a.whole

  first_count : length (standings part) ≡ n
  first_count = standings-count part n a.whole ready turn_length turns a.long

  last-count : length xs ≡ n
  unfolding standings_after
  last-count = stand-count part n a.whole ready turn_length turns a.long is

  -- the stores that the call leaves
  abbrev left : List (List ℕ)
  left = map (λ (x : Standing). x.store) xs

  left-count : length left ≡ n
  left-count = length-map xs (λ (x : Standing). x.store) ∙ last-count

  left_at : (i : ℕ) → i < n → get_or left i [] ≡ (standing_at xs i).store
  left_at i h = map_at [] (λ (x : Standing). x.store) xs i (rw last-count h)

  left-sized : AllSized store_size left
  unfolding standings_after
  left-sized i h =
      let inside : i < n = rw left-count at h in
      ap length (left_at i inside) ∙ (stand-ready part n a.whole ready turn_length turns a.long i inside is).held.size

  -- they are cut out of the part that it leaves
  pub left-stores : stores_in (dispatch part turn_length turns).part ≡ left
  unfolding gave part_after
  left-stores = ap (λ (d : AfterDispatch). stores_in d.part) a.gives ∙ stores-joined left left-sized

  pub left-length : length (stores_in (dispatch part turn_length turns).part) ≡ length (stores_in part)
  left-length = ap length left-stores ∙ left-count ∙ sym count

  -- the store at an index
  module _ (i : ℕ) (h : i < length (stores_in part)) where
    inside : i < n
    inside = rw count at h

    -- number 7's test lets it run by itself
    ran : (k : ℕ) → run (get_or (stores_in part) i []) k ≡ run_next (get_or (stores_in part) i []) k
    ran k = run_in (get_or (stores_in part) i []) _ _ (each-in-range (stores_in part) a.in_range i h) refl refl k

    stands-so : standing_at xs i ≡ by_itself (get_or (stores_in part) i []) (turns_at i is * turn_length)
    unfolding standings_after
    stands-so = stands part n a.whole ready turn_length turns a.long i inside is

    pub store-so : store_left part turn_length turns i ≡ (alone part turn_length turns i).store
    store-so =
        ap (λ (bs : List (List ℕ)). get_or bs i []) left-stores ∙ left_at i inside ∙ ap (λ (x : Standing). x.store) stands-so
        ∙ ap (λ (r : AfterRun). r.store) (sym (ran (turns_at i is * turn_length)))

    pub events-so : get_or answer.events i 0 ≡ events_done (alone part turn_length turns i).answer
    unfolding given
    events-so =
        eight-at 0 (map (λ (x : Standing). x.events) xs) i
        ∙ map_at 0 (λ (x : Standing). x.events) xs i (rw last-count inside)
        ∙ ap (λ (x : Standing). x.events) stands-so
        ∙ ap (λ (r : AfterRun). events_done r.answer) (sym (ran (turns_at i is * turn_length)))

    pub stopped-so : listed answer.stopped i ≡ eqb (run_refusal (alone part turn_length turns i).answer) (number_of TooMany)
    unfolding given
    stopped-so =
        bit_at (map (λ (x : Standing). x.stopped) xs) i
        ∙ map_at false (λ (x : Standing). x.stopped) xs i (rw last-count inside)
        ∙ ap (λ (x : Standing). x.stopped) stands-so
        ∙ ap (λ (r : AfterRun). eqb (run_refusal r.answer) (number_of TooMany)) (sym (ran (turns_at i is * turn_length)))

  few-left : length (map (λ (x : Standing). x.events) xs) ≤ most_stores
  few-left = rw (length-map xs (λ (x : Standing). x.events), last-count) a.whole.most

  -- where there is no store
  module _ (i : ℕ) (h : length (stores_in part) ≤ i) where
    beyond : {A : Type 0} (z : A) (f : Standing → A) → get_or (map f xs) i z ≡ z
    beyond z f = get_or-eq_default (map f xs) z {n = i} (rw (length-map xs f, last-count) (rw count at h))

    no-events : get_or answer.events i 0 ≡ 0
    unfolding given
    no-events = eight-at 0 (map (λ (x : Standing). x.events) xs) i ∙ beyond 0 (λ (x : Standing). x.events)

    no_stop : listed answer.stopped i ≡ false
    unfolding given
    no_stop = bit_at (map (λ (x : Standing). x.stopped) xs) i ∙ beyond false (λ (x : Standing). x.stopped)

  -- THE CLAIMS, for stores that are ready
  pub accepted-dispatches : Dispatches part turn_length turns answer
  unfolding turns_of standings_after given after_turns
  accepted-dispatches = record {
    store = store-so;
    events = events-so;
    stopped = stopped-so;
    eight = eight-length 0 (map (λ (x : Standing). x.events) xs) few-left;
    others = λ i h. (no-events i h, no_stop i h);
    starts = λ i rest e k h. starts turn_length turns 0 (standings part) (omega arith) i rest e k (rw first_count (rw count at h));
    round = λ before i j rest e k h. follows turn_length turns 0 (standings part) before i j rest e k (rw first_count (rw count at h));
    able = λ before rest i e.
        let w = able turn_length turns 0 (standings part) before rest i e in
        (rw count (rw first_count at w.0), w.1);
    waits = λ before others rest i e h can off.
        let few : length others < length (standings part) =
        waits turn_length turns 0 (standings part) before others rest i e (omega arith) (rw first_count (rw count at h)) can off in
        omega (arith, first_count, a.whole.most);
    given = refl;
    most = most turn_length turns 0 (standings part);
    fewer = λ few i h. fewer turn_length turns 0 (standings part) few (omega arith) i (rw first_count (rw count at h));
  }

-- ---- a lent part, of bytes: number 7's test of each store of the part is enough

pub dispatches-lent : (part : List ℕ) → ((i : ℕ) → get_or part i 0 < 256) → (turn_length turns : ℕ)
    → (answer : Dispatched) → (dispatch part turn_length turns).answer ≡ Ok answer → Dispatches part turn_length turns answer
dispatches-lent part byte turn_length turns answer e =
    let a : Accepts part turn_length turns = accepts part turn_length turns (ap is_ok e) in
    let ready = lent-ready (length part / store_size) part a.whole byte a.in_range in
    let both = sym (answers part turn_length turns ready a) ∙ e in
    let same : given (length (turns_of part turn_length turns)) (standings_after part turn_length turns) ≡ answer = cc in
    rw (← same) (accepted-dispatches part turn_length turns ready a)
