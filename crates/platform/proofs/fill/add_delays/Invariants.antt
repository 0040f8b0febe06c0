-- `platform::fill::add_delays` meets its contract. Assumes nothing.
use mathlib.Core.Path.{◌≡◌}
use lib.ListN.{length}
use Rattle.runfile.specs.Reader.{delay_place}
use Rattle.limits.specs.Limits.{store_size}
use Rattle.platform.specs.Accepts.{plan_of}
use Rattle.store.specs.Filling.{filled}
use Rattle.platform.proofs.fill.add_delays.Given as goal

abbrev pub invariant-loop-i : goal.invariant-loop-i
invariant-loop-i l =
    (l.at ≡ delay_place (plan_of l.file) l.i) × (l.s ≡ filled (plan_of l.file) (length (plan_of l.file).crashes) l.i)
    × (length l.s ≡ store_size)
