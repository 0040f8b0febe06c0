-- `runfile::has_numbers` meets its contract: the numbers that are left stand from the place i on. Assumes nothing.
use Prim.Native.Nat.{◌-◌}
use mathlib.Core.Path.{◌≡◌}
use Rattle.runfile.specs.Reader.{numbers_there}
use Rattle.runfile.proofs.has_numbers.Given as goal

abbrev pub invariant-loop : goal.invariant-loop
invariant-loop l = numbers_there l.n l.l 1 ≡ numbers_there (l.n - l.counter) l.l l.i
