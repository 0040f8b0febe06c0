-- What request 104 claims of every accepted call of the dispatcher. proofs/Theorems.antt proves it. Assumes nothing.
use Rattle.std.specs.Prelude.{◌≡◌, true, false, cond, List, [], ◌∷◌, ◌++◌, ◌⊎◌}
use Rattle.std.specs.Prelude.{ℕ, suc, ◌+◌, ◌*◌, ◌≤◌, ◌<◌, eqb, length, get_or}
use Rattle.limits.specs.declared.Refusal.TheVariants.{TooMany}
use Rattle.limits.specs.Refusals.{number_of}
use Rattle.ring.specs.Ring.{listed}
use Rattle.platform.specs.Calls.{AfterRun, run, run_refusal, events_done}
use Rattle.dispatcher.specs.declared.Dispatched.{Dispatched}
use Rattle.dispatcher.specs.Dispatch.{stores_in, Standing, can_go, standing_at, after_turns, standings, turns_of, standings_after, dispatch}

-- how many turns of a list are of the store at index i
unfoldable pub turns_at : ℕ → List ℕ → ℕ
turns_at i [] = 0
turns_at i (j ∷ js) = cond (eqb j i) 1 0 + turns_at i js

-- going round by index from `at` on, k comes before j
unfoldable pub Earlier : ℕ → ℕ → ℕ → Type 0
Earlier at k j = ((at ≤ k) × (k < j)) ⊎ ((j < at) × ((at ≤ k) ⊎ (k < j)))

module _ (part : List ℕ) (turn_length turns : ℕ) where
  -- the store at an index of the part, before the call and after it
  abbrev pub store_before : ℕ → List ℕ
  store_before i = get_or (stores_in part) i []

  abbrev pub store_left : ℕ → List ℕ
  store_left i = get_or (stores_in (dispatch part turn_length turns).part) i []

  -- a run of a store by itself 'with the length of all its turns as budget'
  abbrev pub alone : ℕ → AfterRun
  alone i = run (store_before i) (turns_at i (turns_of part turn_length turns) * turn_length)

  -- how the store at an index stands after some of the call's turns
  abbrev pub stands_after : List ℕ → ℕ → Standing
  stands_after is i = standing_at (after_turns turn_length is (standings part)) i

  -- a is the call's answer
  pub record Dispatches (a : Dispatched) : Type 0 where
    -- 'After its turns each store holds what a run of it by itself would', and its events are that run's; it is stopped where 8 refuses that run
    pub store : (i : ℕ) → i < length (stores_in part) → store_left i ≡ (alone i).store
    pub events : (i : ℕ) → i < length (stores_in part) → get_or a.events i 0 ≡ events_done (alone i).answer
    pub stopped : (i : ℕ) → i < length (stores_in part) → listed a.stopped i ≡ eqb (run_refusal (alone i).answer) (number_of TooMany)
    -- eight stores have events in the answer: 0 where there is no such store, and no such store is stopped
    pub eight : length a.events ≡ 8
    pub others : (i : ℕ) → length (stores_in part) ≤ i → (get_or a.events i 0 ≡ 0) × (listed a.stopped i ≡ false)
    -- 'A call starts at index 0': the first turn passes no store that can go on
    pub starts : (i : ℕ) (rest : List ℕ) → turns_of part turn_length turns ≡ i ∷ rest
        → (k : ℕ) → k < length (stores_in part) → Earlier 0 k i → can_go (stands_after [] k) ≡ false
    -- 'Stores go round by index, skipping those that are done', and those that are stopped: from one turn to the next no other is passed
    pub round : (before : List ℕ) (i j : ℕ) (rest : List ℕ) → turns_of part turn_length turns ≡ before ++ (i ∷ (j ∷ rest))
        → (k : ℕ) → k < length (stores_in part) → Earlier (suc i) k j → can_go (stands_after (before ++ (i ∷ [])) k) ≡ false
    -- each turn is of a store that can go on
    pub able : (before rest : List ℕ) (i : ℕ) → turns_of part turn_length turns ≡ before ++ (i ∷ rest)
        → (i < length (stores_in part)) × (can_go (stands_after before i) ≡ true)
    -- 'a store that has an event left and is not stopped by a refusal waits at most seven turns of others': of turns one after another, before its
    -- first turn, between two or after its last, none of which is its own, though it can go on
    pub waits : (before others rest : List ℕ) (i : ℕ) → turns_of part turn_length turns ≡ before ++ (others ++ rest) → i < length (stores_in part)
        → can_go (stands_after before i) ≡ true → turns_at i others ≡ 0 → length others ≤ 7
    -- 'a stated number of turns, fewer once no store can go on'
    pub given : a.turns ≡ length (turns_of part turn_length turns)
    pub most : length (turns_of part turn_length turns) ≤ turns
    pub fewer : length (turns_of part turn_length turns) < turns → (i : ℕ) → i < length (stores_in part)
        → can_go (standing_at (standings_after part turn_length turns) i) ≡ false
