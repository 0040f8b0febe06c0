-- `runfile::ring_line` meets its contract: its tests are those of the step. Assumes nothing.
use Rattle.std.proofs.Common.{arith}
use Rattle.std.proofs.lemmas.Bool.Decides.{nat_tests}
use Rattle.std.proofs.lemmas.Grind.{common_steps}
use Rattle.runfile.proofs.Steps.{ring-told}
use Rattle.runfile.proofs.ring_line.Goals as goal

pub returns-then-outline-ne0 : goal.returns-then-outline-ne0
returns-then-outline-ne0 c p kept = rw (ring-told p _ kept _) (grind (arith, nat_tests, common_steps))

pub returns-in_err-ring_refusal : goal.returns-in_err-ring_refusal
returns-in_err-ring_refusal c p kept = rw (ring-told p _ kept _) (grind (arith, nat_tests, common_steps))

pub returns : goal.returns
returns c p kept = rw (ring-told p _ kept _) (grind (arith, nat_tests, common_steps))
