-- `node::on_report` meets its contract. Assumes nothing.
use mathlib.Core.Path.{sym, ap, ◌∙◌}
use Rattle.node.specs.Node.{silent, relayed}
use Rattle.node.proofs.Messages.{turned-count}
use Rattle.node.proofs.Rules.{report-new}
use borrow.Author.Rules.{rules}
use Rattle.node.proofs.on_report.Goals as goal

pub relay-requires : goal.relay-requires
relay-requires c = let one = turned-count _ (silent _) c.quiet-2.ensures in search rules

pub returns : goal.returns
returns c =
    c.relay.ensures
    ∙ ap (relayed _ _ _) c.quiet-2.ensures
    ∙ sym
    (report-new _ _ _ _ _ _ _ c.is_listed.ensures c.if-is_listed.false c.if-subject-me.false c.if-subject-n.false _ _
    c.with_listed.ensures c.with_listed-2.ensures (search rules))
