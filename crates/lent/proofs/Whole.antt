-- Number 7's test of a whole store, part by part, as the code goes through it. Assumes nothing.
use Prim.Native.Nat.{ℕ}
use mathlib.Core.Path.{◌≡◌, refl, ap, ◌∙◌}
use mathlib.Core.Bool.{Bool, true, ◌&&◌, and_assoc, and-true}
use mathlib.Core.List.{List, [], ◌∷◌, map}
use lib.Dec.{eqb, leb}
use lib.ListN.{length}
use Rattle.plans.specs.Plan.{plan_test}
use Rattle.limits.specs.Limits.{most_next, store_size}
use Rattle.model.specs.Range.{sound_test, store_test}
use Rattle.store.specs.Columns.{Part, rest_zero, rest_test, room_test, unused_test}
use Rattle.store.specs.Store.{spare_head, ring_nodes, spare_tail, crash_ticks, crash_nodes, delay_numbers, delay_ticks}
use Rattle.store.specs.Store.{emitters, observers, watches, heartbeats, dead_lists, marks}
use Rattle.store.specs.Store.{message_numbers, message_dues, message_kinds, message_senders, message_receivers, message_subjects, message_lists}
use Rattle.store.specs.Store.{ring_parts, node_parts, crash_parts, delay_parts, time_parts, route_parts, message_parts}
use Rattle.store.specs.Store.{columns, plan_in, state_in, store_in_range}
use Rattle.store.specs.Inside.{Sized}
use Rattle.store.proofs.Store.{length-nodes, room-parts, room-counts}
use Rattle.store.proofs.Blank.{unused-parts}
use Rattle.lent.specs.Rests.{rests_zero}

module _ (b : List ℕ) where
  -- the counts
  pub room-here : room_test (columns (plan_in b) (state_in b))
      ≡ (leb (length (plan_in b).ring) 64 && (leb (plan_in b).n 64
      && (leb (length (plan_in b).crashes) 64 && (leb (length (plan_in b).delays) 2048 && leb (length (state_in b).flight) 2048))))
  room-here = room-parts (plan_in b) (state_in b) ∙ rw (length-nodes b)

  -- bytes of a store's length that pass are what the readers ask for
  pub sized_of : length b ≡ store_size → room_test (columns (plan_in b) (state_in b)) ≡ true → Sized b
  sized_of size room = record { size = size; counts = room-counts (plan_in b) (state_in b) (length-nodes b) room }

  -- the whole test, place by place
  pub range-parts : store_in_range b
      ≡ (eqb (length b) store_size
      && (room_test (columns (plan_in b) (state_in b))
      && (plan_test (plan_in b) && ((sound_test (plan_in b) (state_in b) && leb (state_in b).next most_next)
      && unused_test b (columns (plan_in b) (state_in b))))))
  unfolding store_in_range store_test
  range-parts = ap (λ (x : Bool). eqb (length b) store_size && (room_test (columns (plan_in b) (state_in b)) && x))
      (and_assoc (plan_test (plan_in b)) (sound_test (plan_in b) (state_in b) && leb (state_in b).next most_next)
      (unused_test b (columns (plan_in b) (state_in b))))

  -- the places of rows beyond the first n are zero, part by part and field by field
  rest-fields : {A : Type 0} (gs : List (Part A)) (n : ℕ) → rest_test gs b n ≡ rests_zero b (map (λ (g : Part A). g.field) gs) n
  unfolding rest_test rests_zero
  rest-fields [] n = refl
  rest-fields (g ∷ gs) n = ap (λ (x : Bool). rest_zero b g.field n && x) (rest-fields gs n)

  -- the unused bytes, as the code goes through them
  pub unused-here : unused_test b (columns (plan_in b) (state_in b))
      ≡ (rest_zero b spare_head 0 && (rest_zero b ring_nodes (length (plan_in b).ring)
      && (rests_zero b (emitters ∷ observers ∷ watches ∷ heartbeats ∷ dead_lists ∷ marks ∷ []) (plan_in b).n
      && (rests_zero b (crash_ticks ∷ crash_nodes ∷ []) (length (plan_in b).crashes)
      && (rests_zero b (delay_numbers ∷ delay_ticks ∷ []) (length (plan_in b).delays)
      && (rests_zero b (message_numbers ∷ message_dues ∷ message_kinds ∷ message_senders ∷ message_receivers ∷ message_subjects
      ∷ message_lists ∷ [])
      (length (state_in b).flight) && rest_zero b spare_tail 0))))))
  unfolding rest_test ring_parts node_parts crash_parts delay_parts time_parts route_parts
  unused-here =
      unused-parts b (plan_in b) (state_in b)
      ∙ rw (
        length-nodes b,
        and-true (rest_zero b ring_nodes (length (plan_in b).ring)),
        rest-fields node_parts (plan_in b).n,
        rest-fields crash_parts (length (plan_in b).crashes),
        rest-fields delay_parts (length (plan_in b).delays),
        rest-fields message_parts (length (state_in b).flight),
      )
