-- `node::put_reports` meets its contract. Assumes nothing.
use mathlib.Core.Path.{◌≡◌}
use lib.Seq.{sets}
use Rattle.node.specs.Node.{reports}
use Rattle.node.proofs.Messages.{rest}
use Rattle.node.proofs.put_reports.Given as goal

abbrev pub invariant-loop-i : goal.invariant-loop-i
invariant-loop-i l =
    sets l.initial.out l.from (reports l.subject l.nodes) ≡ rest l.subject l.nodes l.from l.out l.i
