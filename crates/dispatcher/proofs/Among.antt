-- One store that a file leads to, whatever stands around it at each call of the dispatcher: any list of calls leaves of it what the steps and runs
-- leave that they come to. Assumes nothing.
use mathlib.Core.Path.{◌≡◌, refl, sym, ap, ◌∙◌, subst}
use mathlib.Core.Logic.{◌⊎◌, inl, inr}
use mathlib.Core.Bool.{Bool, true, false}
use mathlib.Core.List.{List, [], ◌∷◌, ◌++◌}
use Prim.Native.Nat.{ℕ, ◌+◌, ◌*◌, ◌-◌, ◌/◌, ◌%◌, ◌≤◌, ◌<◌}
use native.Mathlib.Omega.{arith}
use native.Mathlib.Decide.{dec_lt}
use lib.ListN.{length, get_or, take, drop, length-append, get_or-append}
use lib.Seq.{drop-append_seam, take_at, get_or-append-add}
use Rattle.limits.specs.Limits.{store_size}
use Rattle.std.specs.Prelude.{is_ok}
use Rattle.plans.specs.Plan.{Plan}
use Rattle.event.specs.Ready.{Ready}
use Rattle.platform.specs.CallLists.{a_run, store_after, store_after_all}
use Rattle.dispatcher.specs.Dispatch.{stores_in, turns_of, AfterDispatch, dispatch}
use Rattle.dispatcher.specs.Tally.{AllReady}
use Rattle.dispatcher.specs.Claims.{turns_at}
use Rattle.dispatcher.specs.PartCalls.{LentCall, on_it, among, Around, AllAround, store_after_lent, store_after_all_lent, comes_to, lent_calls}
use Rattle.dispatcher.proofs.Pieces.{length-pieces, piece-at}
use Rattle.dispatcher.proofs.Parts.{piece, OfBytes, piece_is, stores-count, all-ready}
use Rattle.dispatcher.proofs.Theorems.{Accepts, accepts, part_left, left-length, store-so}
use Rattle.dispatcher.proofs.PartCalls.{Led, led-ready, led-sized, led-calls, calls-append}

-- ---- a part in which a store stands after whole stores' lengths

module _ (before b after : List ℕ) (sized : length b ≡ store_size) (whole : length before % store_size ≡ 0) where
  abbrev part : List ℕ
  part = before ++ (b ++ after)

  -- the store's index
  abbrev at : ℕ
  at = length before / store_size

  start : length before ≡ at * store_size
  start = omega arith

  -- it stands there
  in_place : take store_size (drop (length before) part) ≡ b
  in_place = ap (take store_size) (drop-append_seam before (b ++ after)) ∙ take_at b after store_size sized

  piece-in-place : piece part at ≡ b
  piece-in-place = ap (λ (k : ℕ). take store_size (drop k part)) (sym start) ∙ in_place

  part_length : length part ≡ length before + (store_size + length after)
  part_length = length-append before (b ++ after) ∙ ap (λ (k : ℕ). length before + k) (length-append b after ∙ ap (λ (k : ℕ). k + length after) sized)

  module _ (front : (i : ℕ) → get_or before i 0 < 256) (back : (i : ℕ) → get_or after i 0 < 256) (ready : Ready b) where
    byte-before : (k : ℕ) → k < length before → get_or part k 0 < 256
    byte-before k h = rw (get_or-append before (b ++ after) 0 k h) (front k)

    byte-after : (k : ℕ) → length before + store_size ≤ k → get_or part k 0 < 256
    byte-after k h =
        let off : ℕ = k - (length before + store_size) in
        let there : length before + (length b + off) ≡ k = rw sized (omega arith) in
        let same : get_or part k 0 ≡ get_or after off 0 =
        ap (λ (j : ℕ). get_or part j 0) (sym there) ∙ get_or-append-add before (b ++ after) (length b + off) 0 ∙ get_or-append-add b after off 0 in
        rw same (back off)

    -- the store is ready, and each other is of bytes
    each : (i : ℕ) → Ready (piece part i) ⊎ OfBytes part i
    each i = go (dec_lt i at) (dec_lt at i)
      where
        go : Dec (i < at) → Dec (at < i) → Ready (piece part i) ⊎ OfBytes part i
        go (yes low) d = inr (λ j h. byte-before (i * store_size + j) (omega arith))
        go (no low) (yes high) = inr (λ j h. byte-after (i * store_size + j) (omega arith))
        go (no low) (no high) =
            let same : at ≡ i = omega arith in
            inl (subst Ready (sym piece-in-place ∙ ap (piece part) same) ready)

    -- ---- a call of the dispatcher over it

    module _ (turn_length turns : ℕ) where
      abbrev after_call : AfterDispatch
      after_call = dispatch part turn_length turns

      -- an accepted one leaves there what a run of the store by itself leaves
      module _ (a : Accepts part turn_length turns) where
        all : AllReady (stores_in part)
        all = all-ready (length part / store_size) part a.whole each a.in_range

        count : length (stores_in part) ≡ length part / store_size
        count = stores-count (length part / store_size) part a.whole

        inside : at < length part / store_size
        inside = rw part_length (omega arith)

        left-inside : at < length after_call.part / store_size
        unfolding stores_in
        left-inside =
            let same : length after_call.part / store_size ≡ length part / store_size =
            sym (length-pieces store_size (length after_call.part / store_size) after_call.part) ∙ left-length part turn_length turns all a ∙ count in
            rw same inside

        -- the store at that index, before the call and after it
        was-there : get_or (stores_in part) at [] ≡ b
        was-there =
            sym (piece_is (length part / store_size) part a.whole at inside) ∙ piece-in-place

        is-there : take store_size (drop (length before) after_call.part) ≡ get_or (stores_in after_call.part) at []
        unfolding stores_in
        is-there =
            ap (λ (k : ℕ). take store_size (drop k after_call.part)) start
            ∙ sym (piece-at store_size (length after_call.part / store_size) at after_call.part left-inside)

        run-there : take store_size (drop (length before) after_call.part)
            ≡ store_after (a_run (turns_at at (turns_of part turn_length turns) * turn_length)) b
        unfolding store_after
        run-there =
            is-there ∙ store-so part turn_length turns all a at (rw count inside)
            ∙ ap (λ (s : List ℕ). store_after (a_run (turns_at at (turns_of part turn_length turns) * turn_length)) s) was-there

      -- a refused one leaves the store
      among-leaves : store_after_lent (among before after turn_length turns) b ≡ store_after_all (comes_to (among before after turn_length turns) b) b
      unfolding store_after_lent comes_to store_after_all
      among-leaves = go (is_ok after_call.answer) refl
        where
          go : (r : Bool) → is_ok after_call.answer ≡ r
              → take store_size (drop (length before) after_call.part) ≡ store_after_all (comes_to (among before after turn_length turns) b) b
          go true e = rw e (run-there (accepts part turn_length turns e))
          go false e =
              rw e
              (ap (λ (l : List ℕ). take store_size (drop (length before) l)) (part_left part turn_length turns e) ∙ in_place)

-- ---- ONE CALL, and ANY LIST OF CALLS

module _ (p : Plan) where
  lent-leaves : (c : LentCall) (b : List ℕ) → Led p b → Around c → store_after_lent c b ≡ store_after_all (comes_to c b) b
  unfolding Around store_after_lent comes_to store_after_all
  lent-leaves (on_it c) b l w = refl
  lent-leaves (among before after turn_length turns) b l w =
      among-leaves before b after (led-sized p b l) w.0 w.1 w.2 (led-ready p b l) turn_length turns

  pub all-lent-leave : (cs : List LentCall) (b : List ℕ) → Led p b → AllAround cs → store_after_all_lent cs b ≡ store_after_all (lent_calls cs b) b
  unfolding AllAround store_after_all_lent lent_calls store_after_all
  all-lent-leave [] b l w = refl
  all-lent-leave (c ∷ cs) b l w =
      let one : store_after_lent c b ≡ store_after_all (comes_to c b) b = lent-leaves c b l w.0 in
      all-lent-leave cs (store_after_lent c b) (subst (Led p) (sym one) (led-calls p (comes_to c b) b l)) w.1
      ∙ ap (store_after_all (lent_calls cs (store_after_lent c b))) one
      ∙ sym (calls-append (comes_to c b) (lent_calls cs (store_after_lent c b)) b)
