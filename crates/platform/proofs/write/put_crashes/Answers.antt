-- `platform::write::put_crashes` meets its contract: a row is written, then those after it. Assumes nothing.
use native.Mathlib.Omega.{arith}
use mathlib.Core.Path.{sym}
use Rattle.text.proofs.PutLaws.{first-part, second-part, both-parts, writes-text, writes-none}
use Rattle.runfile.specs.Text.{crash_text}
use Rattle.store.specs.Store.{plan_in}
use Rattle.platform.proofs.Writing.{crash-next, rows-last}
use Rattle.platform.proofs.write.put_crashes.Goals as goal

pub put_crash-requires : goal.put_crash-requires
put_crash-requires c =
    let parts = crash-next (plan_in c.args.store.now) c.loop-i.i c.crash_at-row.result c.crash_at-row.ensures (omega (arith, c.crash_count-i-end.ensures)) in
    first-part c.loop-i.out _ _ _ parts c.loop-i.invariant.0

pub loop-i-preserved : goal.loop-i-preserved
loop-i-preserved c =
    let parts = crash-next (plan_in c.args.store.now) c.loop-i.i c.crash_at-row.result c.crash_at-row.ensures (omega (arith, c.crash_count-i-end.ensures)) in
    let i = c.loop-i.invariant in
    (second-part _ _ parts i.0 c.put_crash.ensures, λ v a. i.1 v (both-parts _ parts i.0 c.put_crash.ensures a))

pub returns : goal.returns
returns c =
    let none = rows-last crash_text (plan_in c.args.store.now).crashes c.loop-i.i (omega (arith, c.crash_count-i-end.ensures)) in
    c.loop-i.invariant.1 _ (writes-text (sym none) (writes-none _))
