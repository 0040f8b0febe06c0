-- `platform::advance::run_searching` meets its contract. Assumes nothing.
use Rattle.platform.proofs.Running.{Runs}
use Rattle.platform.proofs.advance.run_searching.Given as goal

abbrev pub invariant-loop-done : goal.invariant-loop-done
invariant-loop-done l = Runs l.initial.store l.budget l.done l.store
