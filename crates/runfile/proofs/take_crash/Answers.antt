-- `runfile::take_crash` meets its contract: its tests are those of the step. Assumes nothing.
use Rattle.std.proofs.Common.{arith}
use Rattle.std.proofs.lemmas.Bool.Decides.{nat_tests}
use Rattle.std.proofs.lemmas.Grind.{common_steps}
use Rattle.runfile.proofs.Steps.{crash-told}
use Rattle.runfile.proofs.take_crash.Goals as goal

pub returns-then-outline-ne0 : goal.returns-then-outline-ne0
returns-then-outline-ne0 c p kept = rw (crash-told p _ kept _ _) (grind (arith, nat_tests, common_steps))

pub returns-then-outline-tick : goal.returns-then-outline-tick
returns-then-outline-tick c p kept = rw (crash-told p _ kept _ _) (grind (arith, nat_tests, common_steps))

pub returns-then-not-follows : goal.returns-then-not-follows
returns-then-not-follows c p kept = rw (crash-told p _ kept _ _) (grind (arith, nat_tests, common_steps))

pub returns : goal.returns
returns c p kept = rw (crash-told p _ kept _ _) (grind (arith, nat_tests, common_steps))
