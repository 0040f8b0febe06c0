-- `platform::fill::add_crashes` meets its contract. Assumes nothing.
use mathlib.Core.Path.{◌≡◌}
use lib.ListN.{length}
use Rattle.runfile.specs.Reader.{crash_place}
use Rattle.limits.specs.Limits.{store_size}
use Rattle.platform.specs.Accepts.{plan_of}
use Rattle.store.specs.Filling.{filled}
use Rattle.platform.proofs.fill.add_crashes.Given as goal

abbrev pub invariant-loop-i : goal.invariant-loop-i
invariant-loop-i l =
    (l.at ≡ crash_place (plan_of l.file) l.i) × (l.s ≡ filled (plan_of l.file) l.i 0) × (length l.s ≡ store_size)
