-- `host::put_messages` meets its contract. Assumes nothing.
use mathlib.Core.Path.{◌≡◌}
use lib.ListN.{length}
use Rattle.host.proofs.Parts.{rest}
use Rattle.host.proofs.put_messages.Given as goal

abbrev pub invariant-loop-i : goal.invariant-loop-i
invariant-loop-i l =
    (length l.part ≡ length l.initial.part) × (rest l.sender l.messages l.initial.part 0 ≡ rest l.sender l.messages l.part l.i)
