-- `fields::put` meets its contract. Assumes nothing.
use mathlib.Core.Path.{sym, ◌∙◌}
use Rattle.fields.proofs.Fields.{put-turn, put-end}
use Rattle.fields.proofs.put.Goals as goal

pub loop-i-preserved : goal.loop-i-preserved
loop-i-preserved c = c.loop-i.invariant ∙ put-turn _ _ _ _ c.loop-i-test.true

pub returns : goal.returns
returns c = sym (c.loop-i.invariant ∙ put-end _ _ _ _ c.loop-i-test.false)
