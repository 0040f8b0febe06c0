-- `dispatcher::turns::give` meets its contract. Assumes nothing.
use Rattle.dispatcher.proofs.Giving.{Turning}
use Rattle.dispatcher.proofs.turns.give.Given as goal

abbrev pub invariant-loop-given : goal.invariant-loop-given
invariant-loop-given l = Turning l.initial.part l.n l.each l.turns l.given l.at l.part l.tallies
