-- The dispatcher, as request 104 of document 02 states it: which turns a call gives, what each store holds after them, and what the call answers.
-- A call that is refused leaves what it was lent. Assumes nothing.
use Rattle.std.specs.Prelude.{Bool, true, false, cond, not, ◌&&◌, List, [], ◌∷◌, ◌++◌, map, ℕ, zero}
use Rattle.std.specs.Prelude.{suc, ◌+◌, ◌*◌, ◌-◌, ◌/◌, ◌%◌, eqb, length, get_or, take, drop, set, replicate}
use Rattle.std.specs.Prelude.{Option, Some, None, Result, Ok, Err}
use Rattle.std.proofs.Math.Option.{Option as Maybe, none, some}
use Rattle.limits.specs.Limits.{store_size, most_stores, most_turn}
use Rattle.limits.specs.declared.Refusal.{Refusal}
use Rattle.limits.specs.declared.Refusal.TheVariants.{BadStore, TooMany, BadPart, BadTurn}
use Rattle.limits.specs.Refusals.{number_of}
use Rattle.ring.specs.Ring.{numbers, round}
use Rattle.plans.specs.Plan.{within}
use Rattle.model.specs.Platform.{Entry, next_event}
use Rattle.store.specs.Store.{plan_in, state_in, store_in_range}
use Rattle.platform.specs.Calls.{AfterRun, run_next, run_refusal, events_done}
use Rattle.dispatcher.specs.declared.Dispatched.{Dispatched}

-- ---- the stores: 'lent one after another in one part'

-- the first n pieces of a list, each of so many elements
unfoldable pub pieces : {A : Type 0} → ℕ → ℕ → List A → List (List A)
pieces size zero l = []
pieces size (suc n) l = take size l ∷ pieces size n (drop size l)

-- lists one after another
unfoldable pub joined : {A : Type 0} → List (List A) → List A
joined [] = []
joined (l ∷ ls) = l ++ joined ls

unfoldable pub stores_in : List ℕ → List (List ℕ)
stores_in part = pieces store_size (length part / store_size) part

-- ---- how a store stands in a call: its bytes, the events that its turns did, and whether it is stopped

pub record Standing : Type 0 where
  pub store : List ℕ
  pub events : ℕ
  pub stopped : Bool

-- before its first turn
unfoldable pub fresh : List ℕ → Standing
fresh store = record { store = store; events = 0; stopped = false }

unfoldable pub is_left : Maybe Entry → Bool
is_left none = false
is_left (some e) = true

-- a store is done where it has no event left up to its end tick
unfoldable pub event_left : List ℕ → Bool
event_left store = is_left (next_event (plan_in store) (state_in store))

-- it can go on: it has an event left, and is not stopped
unfoldable pub can_go : Standing → Bool
can_go x = event_left x.store && not x.stopped

-- ---- turns

-- a turn is a run of so many events: 'A store that refuses by 8 has used its turn, is marked stopped in the answer'
unfoldable pub after_turn : ℕ → Standing → Standing
after_turn turn_length x =
    let r : AfterRun = run_next x.store turn_length in
    record { store = r.store; events = x.events + events_done r.answer; stopped = eqb (run_refusal r.answer) (number_of TooMany) }

-- the store at an index; there is none beyond the last
abbrev pub standing_at : List Standing → ℕ → Standing
standing_at xs i = get_or xs i (fresh [])

-- the store at index i has a turn
unfoldable pub turn_of : ℕ → ℕ → List Standing → List Standing
turn_of turn_length i xs = set xs i (after_turn turn_length (standing_at xs i))

-- the stores at these indexes have a turn, one after another
unfoldable pub after_turns : ℕ → List ℕ → List Standing → List Standing
after_turns turn_length [] xs = xs
after_turns turn_length (i ∷ is) xs = after_turns turn_length is (turn_of turn_length i xs)

-- ---- whose turn it is: 'Stores go round by index, skipping those that are done', and 'skipped for the rest of the call' those that are stopped

-- the first of these indexes that is marked
unfoldable pub first_marked : List Bool → List ℕ → Option ℕ
first_marked marks [] = None
first_marked marks (i ∷ is) = cond (get_or marks i false) (Some i) (first_marked marks is)

-- the next store that can go on, where the round stands at an index: from there on to the last, then from 0
unfoldable pub next_able : List Standing → ℕ → Option ℕ
next_able xs at = first_marked (map can_go xs) (round (numbers 0 (length xs)) at)

-- the turns that a call gives, each by the index of its store: 'a stated number of turns, fewer once no store can go on'
unfoldable pub turns_from : ℕ → ℕ → ℕ → List Standing → List ℕ
turns_from turn_length zero at xs = []
turns_from turn_length (suc turns) at xs =
    elim (next_able xs at) [ None ↦ [] | Some i ↦ i ∷ turns_from turn_length turns (suc i) (turn_of turn_length i xs) ]

-- ---- a call

-- how the stores stand before the first turn
unfoldable pub standings : List ℕ → List Standing
standings part = map fresh (stores_in part)

-- 'A call starts at index 0'
unfoldable pub turns_of : List ℕ → ℕ → ℕ → List ℕ
turns_of part turn_length turns = turns_from turn_length turns 0 (standings part)

-- how they stand after the last turn
unfoldable pub standings_after : List ℕ → ℕ → ℕ → List Standing
standings_after part turn_length turns = after_turns turn_length (turns_of part turn_length turns) (standings part)

-- for each of eight stores; z where there is no such store
unfoldable pub for_eight : {A : Type 0} → A → List A → List A
for_eight z l = l ++ replicate (most_stores - length l) z

-- marks as the bits of a number, the first as bit 0
unfoldable pub bits : List Bool → ℕ
bits [] = 0
bits (b ∷ bs) = cond b 1 0 + 2 * bits bs

pub record AfterDispatch : Type 0 where
  pub answer : Result Dispatched Refusal
  pub part : List ℕ

-- 'The answer gives the turns and each store's events', and which stores are stopped, as bits
unfoldable pub given : ℕ → List Standing → Dispatched
given turns xs = record {
  turns = turns;
  events = for_eight 0 (map (λ (x : Standing). x.events) xs);
  stopped = bits (map (λ (x : Standing). x.stopped) xs);
}

-- the stores, one after another again
unfoldable pub part_after : List Standing → List ℕ
part_after xs = joined (map (λ (x : Standing). x.store) xs)

unfoldable pub gave : List ℕ → ℕ → ℕ → AfterDispatch
gave part turn_length turns =
    let xs : List Standing = standings_after part turn_length turns in
    record { answer = Ok (given (length (turns_of part turn_length turns)) xs); part = part_after xs }

-- a refused call gives no turn
abbrev pub turned_down : Refusal → List ℕ → AfterDispatch
turned_down refusal part = record { answer = Err refusal; part = part }

-- every store of a part is in range
unfoldable pub all_in_range : List (List ℕ) → Bool
all_in_range [] = true
all_in_range (store ∷ stores) = store_in_range store && all_in_range stores

-- 7 is given 'for a part that isn't whole stores or for any store in it'
unfoldable pub part_in_range : List ℕ → Bool
part_in_range part = eqb (length part % store_size) 0 && all_in_range (stores_in part)

-- 14, then 15, 'both before any store is read', then 7, which 'refuses the whole call'
unfoldable pub dispatch : List ℕ → ℕ → ℕ → AfterDispatch
dispatch part turn_length turns =
    cond (within 1 (most_stores * store_size) (length part))
    (cond (within 1 most_turn turn_length)
    (cond (part_in_range part) (gave part turn_length turns) (turned_down BadStore part))
    (turned_down BadTurn part))
    (turned_down BadPart part)
