-- `platform::fill::add_numbers` meets its contract. Assumes nothing.
use mathlib.Core.Path.{◌≡◌}
use lib.ListN.{length}
use Rattle.runfile.specs.Reader.{ring_place}
use Rattle.limits.specs.Limits.{store_size}
use Rattle.platform.specs.Accepts.{plan_of}
use Rattle.store.specs.Filling.{begun}
use Rattle.platform.proofs.fill.add_numbers.Given as goal

abbrev pub invariant-loop-i : goal.invariant-loop-i
invariant-loop-i l =
    (l.at ≡ ring_place (plan_of l.file) l.i) × (l.s ≡ begun (plan_of l.file) l.i) × (length l.s ≡ store_size)
