-- `runfile::put_line` meets its contract: the letter, the fields one after another, the line feed. Assumes nothing.
use native.Mathlib.Omega.{arith}
use mathlib.Core.Path.{sym, ap}
use Prim.Native.Nat.{◌+◌}
use lib.ListN.{length, drop, get_or}
use Rattle.text.specs.Field.{field}
use Rattle.text.proofs.PutLaws.{first-part, second-part, both-parts, writes-text}
use Rattle.runfile.specs.Text.{fields_text}
use Rattle.runfile.proofs.Writing.{line-parts, fields-next, fields-last}
use Rattle.runfile.proofs.put_line.Goals as goal

pub byte-requires : goal.byte-requires
byte-requires c = omega (arith, c.requires, ap length (line-parts c.args.letter c.args.numbers.now))

pub loop-number-init : goal.loop-number-init
loop-number-init c =
    let parts = line-parts c.args.letter c.args.numbers.now in
    (second-part _ _ parts c.requires c.byte.ensures, λ v. both-parts _ parts c.requires c.byte.ensures)

pub field-requires : goal.field-requires
field-requires c =
    let xs = c.args.numbers.now in
    let i = c.loop-number.number-index in
    let parts = fields-next xs i (omega arith) in
    first-part c.loop-number.out _ (field (get_or xs i 0)) (fields_text (drop (i + 1) xs)) parts c.loop-number.invariant.0

pub loop-number-preserved : goal.loop-number-preserved
loop-number-preserved c =
    let parts = fields-next c.args.numbers.now c.loop-number.number-index (omega arith) in
    let i = c.loop-number.invariant in
    (second-part _ _ parts i.0 c.field.ensures, λ v a. i.1 v (both-parts _ parts i.0 c.field.ensures a))

pub byte-requires-2 : goal.byte-requires-2
byte-requires-2 c =
    let end = fields-last c.args.numbers.now c.loop-number.number-index (omega arith) in
    omega (arith, c.loop-number.invariant.0, ap length end)

pub returns : goal.returns
returns c =
    let end = fields-last c.args.numbers.now c.loop-number.number-index (omega arith) in
    c.loop-number.invariant.1 _ (writes-text (sym end) c.byte-2.ensures)
