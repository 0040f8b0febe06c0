-- The crashed nodes of a store, row by row. Assumes nothing.
use Prim.Native.Nat.{ℕ, ◌+◌, ◌<◌}
use mathlib.Core.Path.{◌≡◌}
use native.Mathlib.Numerals.{add-one}
use lib.ListN.{length, take}
use lib.Seq.{take-suc}
use Rattle.plans.proofs.Listed.{with-snoc}
use Rattle.ring.specs.Ring.{listing}
use Rattle.plans.specs.Plan.{Plan}
use Rattle.model.specs.Platform.{crashed_list}
use Rattle.plans.specs.Plain.{no_crash, row_at}

pub crashed-next : (p : Plan) (i : ℕ) → i < length p.crashes → crashed_list p (i + 1) ≡ listing (crashed_list p i) (row_at p i).node
unfolding crashed_list
crashed-next p i h = rw (add-one i, take-suc p.crashes i no_crash h) (with-snoc (take i p.crashes) 0 (row_at p i))
