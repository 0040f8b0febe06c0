-- `node::put_reports` meets its contract. Assumes nothing.
use mathlib.Core.Path.{sym, ◌∙◌}
use Rattle.node.proofs.Messages.{rest-start, rest-turn, rest_end}
use borrow.Author.Rules.{rules}
use Rattle.node.proofs.put_reports.Goals as goal

pub loop-i-init : goal.loop-i-init
loop-i-init c = rest-start _ _ _ _

pub loop-i-preserved : goal.loop-i-preserved
loop-i-preserved c = c.loop-i.invariant ∙ rest-turn _ _ _ _ _ (search rules)

pub returns : goal.returns
returns c = sym (c.loop-i.invariant ∙ rest_end _ _ _ _ _ (search rules))
