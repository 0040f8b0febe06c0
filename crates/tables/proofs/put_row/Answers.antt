-- `tables::put_row` meets its contract: target after target. Assumes nothing.
use native.Mathlib.Omega.{arith}
use mathlib.Core.Path.{◌∙◌}
use Rattle.tables.proofs.put_row.Goals as goal

pub put_target-requires : goal.put_target-requires
put_target-requires c =
    let i = c.loop-target.invariant in omega (arith, i.1, i.2, c.requires.room, c.loop-target-test.true)

pub loop-target-preserved : goal.loop-target-preserved
loop-target-preserved c =
    let i = c.loop-target.invariant in
    let p = c.put_target.ensures in
    (p.same ∙ i.0, p.size ∙ i.1, omega (arith, i.2, p.within))
