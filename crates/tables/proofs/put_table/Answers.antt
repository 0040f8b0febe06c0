-- `tables::put_table` meets its contract: the answer's number has at most 20 digits. Assumes nothing.
use native.Mathlib.Omega.{arith}
use mathlib.Core.Path.{refl, sym, ◌∙◌, ap}
use Prim.Native.Nat.{ℕ, ◌<◌, ◌≤◌, ◌^◌}
use lib.ListN.{length}
use Rattle.text.specs.Number.{decimal}
use Rattle.text.proofs.NumberLaws.{decimal-length}
use Rattle.tables.proofs.put_table.Goals as goal

few : (n : ℕ) → n < 2 ^ 64 → length (decimal n) ≤ 20
few n h = decimal-length 19 n (omega (arith, h))

pub number-requires : goal.number-requires
number-requires c =
    omega (arith, c.new-out.ensures.start, ap length c.new-out.ensures.value, c.told-line, few c.answer.result c.answer.type_inv)

pub loop-row-init : goal.loop-row-init
loop-row-init c =
    let few = few c.answer.result c.answer.type_inv in
    (refl, c.number.ensures.size ∙ ap length c.new-out.ensures.value ∙ c.told-line, omega (arith, c.new-out.ensures.start, c.number.ensures.put.next, few))

pub shape_of-line : goal.shape_of-line
shape_of-line c = sym c.new-out.ensures.same ∙ sym c.number.ensures.same ∙ sym c.loop-row.invariant.0 ∙ sym c.byte.ensures.same
