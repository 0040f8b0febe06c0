-- The store that encoding makes passes the test of number 7 where what was encoded does. Assumes nothing.
use mathlib.Core.Path.{◌≡◌}
use mathlib.Core.Bool.{true, and-true}
use lib.Dec.{leb}
use Rattle.limits.specs.Limits.{most_next}
use Rattle.plans.specs.Plan.{Plan, plan_test}
use Rattle.model.specs.Platform.{State}
use Rattle.plans.specs.Plain.{Plain}
use Rattle.model.specs.Range.{Sound, store_test}
use Rattle.model.proofs.Tests.{range-test}
use Rattle.store.specs.Store.{encode, store_in_range}
use Rattle.store.specs.Inside.{Fits}
use Rattle.store.proofs.Store.{room-encode, length-encode, plan-encode, state-encode}
use Rattle.store.proofs.Blank.{unused-encode}

module _ (p : Plan) (s : State) (f : Fits p s) where
  -- the encoding of a sound state of a plan that a file may hold is in range, but for the cap on the next number
  pub in-range-encode : Plain p → plan_test p ≡ true → Sound p s → store_in_range (encode p s) ≡ leb s.next most_next
  unfolding store_in_range store_test
  in-range-encode pl good sound =
      rw (length-encode p s f, plan-encode p s f, state-encode p s f, room-encode p s f, good, range-test p pl s sound, unused-encode p s f)
      (and-true (leb s.next most_next))
