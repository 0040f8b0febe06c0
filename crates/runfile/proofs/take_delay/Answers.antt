-- `runfile::take_delay` meets its contract: its tests are those of the step. Assumes nothing.
use Rattle.std.proofs.Common.{arith}
use Rattle.std.proofs.lemmas.Bool.Decides.{nat_tests}
use Rattle.std.proofs.lemmas.Grind.{common_steps}
use Rattle.plans.specs.Plan.{within}
use Rattle.runfile.proofs.Steps.{delay-told}
use Rattle.runfile.proofs.take_delay.Goals as goal

pub returns-then-number-gt-MOST_NUMBER : goal.returns-then-number-gt-MOST_NUMBER
unfolding within
returns-then-number-gt-MOST_NUMBER c p kept = rw (delay-told p _ kept _ _) (grind (arith, nat_tests, common_steps))

pub returns-then-number-st : goal.returns-then-number-st
unfolding within
returns-then-number-st c p kept = rw (delay-told p _ kept _ _) (grind (arith, nat_tests, common_steps))

pub returns-then-outline-ge-MOST_DELAYS : goal.returns-then-outline-ge-MOST_DELAYS
unfolding within
returns-then-outline-ge-MOST_DELAYS c p kept = rw (delay-told p _ kept _ _) (grind (arith, nat_tests, common_steps))

pub returns : goal.returns
unfolding within
returns c p kept = rw (delay-told p _ kept _ _) (grind (arith, nat_tests, common_steps))
