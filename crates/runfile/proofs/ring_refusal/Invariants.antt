-- `runfile::ring_refusal` meets its contract: the loop has tried the numbers before the place i. Assumes nothing.
use Prim.Native.Nat.{◌-◌}
use Rattle.runfile.proofs.Rings.{Tried}
use Rattle.runfile.proofs.ring_refusal.Given as goal

abbrev pub invariant-loop : goal.invariant-loop
invariant-loop l = Tried l.n l.l l.seen l.once (l.n - l.counter) l.i
