-- Any list of calls on stores that stand one after another: steps and runs on one of them, and the dispatcher's calls over some of them in a row.
-- What they leave of each store, and the steps and runs on that store alone that leave the same. Then the same of one store, where something else
-- may stand around it at each call of the dispatcher. Assumes nothing.
use Rattle.std.specs.Prelude.{◌≡◌, ◌≢◌, cond, ◌&&◌, List, [], ◌∷◌, ◌++◌, ℕ, ◌+◌, ◌*◌}
use Rattle.std.specs.Prelude.{◌-◌, ◌/◌, ◌%◌, ◌<◌, eqb, leb, ltb, length, get_or, take, drop, set, is_ok}
use Rattle.limits.specs.Limits.{store_size}
use Rattle.limits.specs.Refusals.{accepted, answer_of}
use Rattle.platform.specs.CallLists.{Call, a_run, store_after, refusal}
use Rattle.dispatcher.specs.Dispatch.{joined, stores_in, turns_of, AfterDispatch, dispatch}
use Rattle.dispatcher.specs.Claims.{turns_at}

-- a step or a run on the store at an index; a call of the dispatcher over so many stores from an index on, with a turn length and a number of turns
pub data PartCall : Type 0 where
  on_one : ℕ → Call → PartCall
  over_some : ℕ → ℕ → ℕ → ℕ → PartCall

-- the part of n stores from an index on, as it is lent
unfoldable pub lent : ℕ → ℕ → List (List ℕ) → List ℕ
lent first n stores = joined (take n (drop first stores))

-- ---- what calls leave

unfoldable pub stores_after : PartCall → List (List ℕ) → List (List ℕ)
stores_after (on_one i c) stores = set stores i (store_after c (get_or stores i []))
stores_after (over_some first n turn_length turns) stores =
    let a : AfterDispatch = dispatch (lent first n stores) turn_length turns in
    take first stores ++ (stores_in a.part ++ drop n (drop first stores))

unfoldable pub stores_after_all : List PartCall → List (List ℕ) → List (List ℕ)
stores_after_all [] stores = stores
stores_after_all (c ∷ cs) stores = stores_after_all cs (stores_after c stores)

-- the number that refuses a call, 0 where it is not refused; beyond the last store there is none to call on
unfoldable pub number_of : PartCall → List (List ℕ) → ℕ
number_of (on_one i c) stores = cond (ltb i (length stores)) (refusal c (get_or stores i [])) accepted
number_of (over_some first n turn_length turns) stores = answer_of (dispatch (lent first n stores) turn_length turns).answer

-- ---- what they come to for the store at index i

-- a call of the dispatcher comes to a run with the length of that store's turns as budget, where it is accepted and has the store in its part
unfoldable pub calls_of : ℕ → PartCall → List (List ℕ) → List Call
calls_of i (on_one j c) stores = cond (eqb j i) (c ∷ []) []
calls_of i (over_some first n turn_length turns) stores =
    let part : List ℕ = lent first n stores in
    cond ((leb first i && ltb i (first + n)) && is_ok (dispatch part turn_length turns).answer)
    (a_run (turns_at (i - first) (turns_of part turn_length turns) * turn_length) ∷ []) []

unfoldable pub calls_on : ℕ → List PartCall → List (List ℕ) → List Call
calls_on i [] stores = []
calls_on i (c ∷ cs) stores = calls_of i c stores ++ calls_on i cs (stores_after c stores)

-- no call in the list answers a number
unfoldable pub NoCallAnswers : ℕ → List PartCall → List (List ℕ) → Type 0
NoCallAnswers number [] stores = Unit
NoCallAnswers number (c ∷ cs) stores = (number_of c stores ≢ number) × NoCallAnswers number cs (stores_after c stores)

-- ---- ONE STORE, whatever stands around it

-- a step or a run on it; a call of the dispatcher over a part in which it stands after `before` and before `after`, with a turn length and a number
-- of turns
pub data LentCall : Type 0 where
  on_it : Call → LentCall
  among : List ℕ → List ℕ → ℕ → ℕ → LentCall

-- what stands around it is bytes, other stores or not, and it stands at the place of a store
unfoldable pub Around : LentCall → Type 0
Around (on_it c) = Unit
Around (among before after turn_length turns) =
    (length before % store_size ≡ 0) × ((i : ℕ) → get_or before i 0 < 256) × ((i : ℕ) → get_or after i 0 < 256)

unfoldable pub AllAround : List LentCall → Type 0
AllAround [] = Unit
AllAround (c ∷ cs) = Around c × AllAround cs

-- what a call leaves at its place
unfoldable pub store_after_lent : LentCall → List ℕ → List ℕ
store_after_lent (on_it c) store = store_after c store
store_after_lent (among before after turn_length turns) store =
    take store_size (drop (length before) (dispatch (before ++ (store ++ after)) turn_length turns).part)

-- each call gets the store that the last one left, with something else around it
unfoldable pub store_after_all_lent : List LentCall → List ℕ → List ℕ
store_after_all_lent [] store = store
store_after_all_lent (c ∷ cs) store = store_after_all_lent cs (store_after_lent c store)

-- what a call comes to for the store: an accepted one of the dispatcher to a run with the length of that store's turns as budget
unfoldable pub comes_to : LentCall → List ℕ → List Call
comes_to (on_it c) store = c ∷ []
comes_to (among before after turn_length turns) store =
    let part : List ℕ = before ++ (store ++ after) in
    cond (is_ok (dispatch part turn_length turns).answer)
    (a_run (turns_at (length before / store_size) (turns_of part turn_length turns) * turn_length) ∷ []) []

unfoldable pub lent_calls : List LentCall → List ℕ → List Call
lent_calls [] store = []
lent_calls (c ∷ cs) store = comes_to c store ++ lent_calls cs (store_after_lent c store)
