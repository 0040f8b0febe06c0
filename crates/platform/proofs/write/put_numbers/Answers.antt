-- `platform::write::put_numbers` meets its contract: a number is written, then those after it. Assumes nothing.
use native.Mathlib.Omega.{arith}
use Prim.Native.Nat.{◌+◌}
use mathlib.Core.Path.{sym}
use lib.ListN.{drop}
use Rattle.text.specs.Field.{field}
use Rattle.text.proofs.PutLaws.{first-part, second-part, both-parts, writes-text, writes-none}
use Rattle.runfile.specs.Text.{rows_text}
use Rattle.store.specs.Store.{plan_in}
use Rattle.platform.proofs.Writing.{number-next, rows-last}
use Rattle.platform.proofs.write.put_numbers.Goals as goal

pub field-requires : goal.field-requires
field-requires c =
    let p = plan_in c.args.store.now in
    let parts = number-next p c.loop-i.i c.ring_at.result c.ring_at.ensures (omega (arith, c.ring_size-i-end.ensures)) in
    first-part c.loop-i.out _ (field c.ring_at.result) (rows_text field (drop (c.loop-i.i + 1) p.ring)) parts c.loop-i.invariant.0

pub loop-i-preserved : goal.loop-i-preserved
loop-i-preserved c =
    let parts = number-next (plan_in c.args.store.now) c.loop-i.i c.ring_at.result c.ring_at.ensures (omega (arith, c.ring_size-i-end.ensures)) in
    let i = c.loop-i.invariant in
    (second-part _ _ parts i.0 c.field.ensures, λ v a. i.1 v (both-parts _ parts i.0 c.field.ensures a))

pub returns : goal.returns
returns c =
    let none = rows-last field (plan_in c.args.store.now).ring c.loop-i.i (omega (arith, c.ring_size-i-end.ensures)) in
    c.loop-i.invariant.1 _ (writes-text (sym none) (writes-none _))
