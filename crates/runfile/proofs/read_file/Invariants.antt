-- `runfile::read_file` meets its contract: the lines that the iterator gave were passed. Assumes nothing.
use Rattle.runfile.proofs.Reading.{Passed}
use Rattle.runfile.proofs.read_file.Given as goal

abbrev pub invariant-loop-bytes : goal.invariant-loop-bytes
invariant-loop-bytes l = Passed l.s l.st l.line l.bytes-iterator.rest.now
