-- What a refused opening answers for C: the number and the line are small, so that they stand in one number and are taken out of it again. Assumes
-- nothing.
use mathlib.Core.Path.{◌≡◌, sym}
use mathlib.Core.List.{List}
use Prim.Native.Nat.{ℕ, ◌+◌, ◌*◌, ◌/◌, ◌%◌, ◌^◌, ◌≤◌, ◌<◌}
use native.Mathlib.Omega.{arith}
use Rattle.std.specs.Prelude.{Err}
use Rattle.limits.specs.Refusals.{number_of}
use Rattle.runfile.specs.declared.FileRefusal.{FileRefusal}
use Rattle.platform.specs.Calls.{open_file}
use Rattle.platform.proofs.Opening.{opening-small}
use Rattle.planner.specs.Answers.{number_and_line}

-- it fits
pub sum-fits : (file store : List ℕ) {r : FileRefusal} → Err r ≡ (open_file file store).answer → number_of r.refusal + 256 * r.line < 2 ^ 64
sum-fits file store {r} e = let s = opening-small file store r (sym e) in omega (arith, s.1, s.2)

-- what the header's KELBRAUT_NUMBER and KELBRAUT_LINE take out of a refused opening's answer, which is never 0
pub taken-apart : (file store : List ℕ) (r : FileRefusal) → (open_file file store).answer ≡ Err r
    → (1 ≤ number_of r.refusal) × (number_and_line (open_file file store).answer % 256 ≡ number_of r.refusal)
    × (number_and_line (open_file file store).answer / 256 ≡ r.line)
unfolding number_and_line
taken-apart file store r e = let s = opening-small file store r e in rw e (omega (arith, s.0, s.1))
