-- `host::put_messages` meets its contract. Assumes nothing.
use mathlib.Core.Path.{◌∙◌}
use borrow.Author.Rules.{rules}
use Rattle.host.proofs.Parts.{rest-turn, put_all}
use Rattle.host.proofs.put_messages.Goals as goal

pub loop-i-preserved : goal.loop-i-preserved
loop-i-preserved c =
    let inv = c.loop-i.invariant in
    (search rules, rw c.put_message.ensures (inv.1 ∙ rest-turn _ _ _ _ (search rules) _))

pub returns : goal.returns
returns c = put_all _ _ _ _ _ _ c.clear.ensures c.loop-i.invariant.1 (search rules) c.requires.0 c.requires.1
