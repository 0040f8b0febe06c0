-- What a call answers and leaves, by the first of its tests that fails, or where none does. Assumes nothing.
use mathlib.Core.Path.{◌≡◌, refl, sym, ap}
use mathlib.Core.Logic.{◌≢◌}
use mathlib.Core.Bool.{Bool, true, false, ◌&&◌}
use mathlib.Core.List.{List}
use Prim.Native.Nat.{ℕ, ◌*◌, ◌/◌, ◌%◌, ◌≤◌, ◌<◌}
use native.Mathlib.Omega.{arith}
use borrow.Author.Tests.{le-leb, lt-leb, eq-eqb, ne_eqb}
use lib.Dec.{leb}
use lib.ListN.{length}
use Rattle.limits.specs.Limits.{store_size, most_stores, most_turn}
use Rattle.std.specs.Prelude.{Result, Ok, Err}
use Rattle.limits.specs.declared.Refusal.{Refusal}
use Rattle.limits.specs.declared.Refusal.TheVariants.{BadStore, BadPart, BadTurn}
use Rattle.plans.specs.Plan.{within}
use Rattle.dispatcher.specs.declared.Dispatched.{Dispatched}
use Rattle.dispatcher.specs.Dispatch.{stores_in, turns_of, standings_after, given, part_after, gave, all_in_range, part_in_range}
use Rattle.dispatcher.specs.Dispatch.{AfterDispatch, dispatch}
use Rattle.dispatcher.specs.Tally.{Whole}

-- ---- a number within its range, and outside

module _ (low high x : ℕ) where
  pub under : x < low → within low high x ≡ false
  unfolding within
  under h = rw (lt-leb low x h) refl

  pub over : high < x → within low high x ≡ false
  unfolding within
  over h = rw (lt-leb x high h) (go (leb low x))
    where
      go : (b : Bool) → (b && false) ≡ false
      go true = refl
      go false = refl

  pub inside : low ≤ x → x ≤ high → within low high x ≡ true
  unfolding within
  inside g h = rw (le-leb low x g, le-leb x high h) refl

-- ---- the call

module _ (part : List ℕ) (each turns : ℕ) where
  -- its answer, and the part that it leaves
  pub record Is (a : Result Dispatched Refusal) (left : List ℕ) : Type 0 where
    pub value : a ≡ (dispatch part each turns).answer
    pub part_after : left ≡ (dispatch part each turns).part

  is : {d : AfterDispatch} → dispatch part each turns ≡ d → Is d.answer d.part
  is e = record { value = ap (λ (d : AfterDispatch). d.answer) (sym e); part_after = ap (λ (d : AfterDispatch). d.part) (sym e) }

  -- 14
  pub bad-part : within 1 (most_stores * store_size) (length part) ≡ false → Is (Err BadPart) part
  unfolding dispatch
  bad-part h = is (rw h refl)

  module _ (size : within 1 (most_stores * store_size) (length part) ≡ true) where
    -- 15
    pub bad-turn : within 1 most_turn each ≡ false → Is (Err BadTurn) part
    unfolding dispatch
    bad-turn h = is (rw (size, h) refl)

    module _ (turn : within 1 most_turn each ≡ true) where
      -- 7
      bad-store : part_in_range part ≡ false → Is (Err BadStore) part
      unfolding dispatch
      bad-store h = is (rw (size, turn, h) refl)

      pub not-whole : length part % store_size ≢ 0 → Is (Err BadStore) part
      unfolding part_in_range
      not-whole h = bad-store (rw (ne_eqb (length part % store_size) 0 h) refl)

      module _ (even : length part % store_size ≡ 0) where
        pub one-bad : all_in_range (stores_in part) ≡ false → Is (Err BadStore) part
        unfolding part_in_range
        one-bad h = bad-store (rw (eq-eqb (length part % store_size) 0 even, h) refl)

        pub all-good : all_in_range (stores_in part) ≡ true → {a : Dispatched} {left : List ℕ}
            → a ≡ given (length (turns_of part each turns)) (standings_after part each turns) → left ≡ part_after (standings_after part each turns)
            → Is (Ok a) left
        unfolding dispatch part_in_range gave
        all-good h e f = rw (e, f) (is (rw (size, turn, eq-eqb (length part % store_size) 0 even, h) refl))

-- a part of whole stores
pub whole_part : (part : List ℕ) → 1 ≤ length part → length part ≤ most_stores * store_size → length part % store_size ≡ 0
    → Whole (length part / store_size) part
whole_part part low high even = record { size = omega arith; some = omega arith; most = omega arith }
