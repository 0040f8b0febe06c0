-- `platform::write::put_delays` meets its contract: a row is written, then those after it. Assumes nothing.
use native.Mathlib.Omega.{arith}
use mathlib.Core.Path.{sym}
use Rattle.text.proofs.PutLaws.{first-part, second-part, both-parts, writes-text, writes-none}
use Rattle.runfile.specs.Text.{delay_text}
use Rattle.store.specs.Store.{plan_in}
use Rattle.platform.proofs.Writing.{delay-next, rows-last}
use Rattle.platform.proofs.write.put_delays.Goals as goal

pub put_delay-requires : goal.put_delay-requires
put_delay-requires c =
    let parts = delay-next (plan_in c.args.store.now) c.loop-i.i c.delay_at-row.result c.delay_at-row.ensures (omega (arith, c.delay_count-i-end.ensures)) in
    first-part c.loop-i.out _ _ _ parts c.loop-i.invariant.0

pub loop-i-preserved : goal.loop-i-preserved
loop-i-preserved c =
    let parts = delay-next (plan_in c.args.store.now) c.loop-i.i c.delay_at-row.result c.delay_at-row.ensures (omega (arith, c.delay_count-i-end.ensures)) in
    let i = c.loop-i.invariant in
    (second-part _ _ parts i.0 c.put_delay.ensures, λ v a. i.1 v (both-parts _ parts i.0 c.put_delay.ensures a))

pub returns : goal.returns
returns c =
    let none = rows-last delay_text (plan_in c.args.store.now).delays c.loop-i.i (omega (arith, c.delay_count-i-end.ensures)) in
    c.loop-i.invariant.1 _ (writes-text (sym none) (writes-none _))
