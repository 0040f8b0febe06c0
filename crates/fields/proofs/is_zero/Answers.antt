-- `fields::is_zero` meets its contract: round after round, then the rest. Assumes nothing.
use native.Mathlib.Omega.{arith}
use Prim.Native.Nat.{ℕ, ◌+◌, ◌-◌, ◌*◌, ◌/◌}
use mathlib.Core.Path.{◌≡◌, sym, ap, ◌∙◌}
use mathlib.Core.Bool.{Bool, true, false, ◌&&◌}
use lib.ListN.{take, drop}
use lib.Seq.{slice}
use Rattle.std.proofs.lemmas.Slice.{between_is}
use Rattle.fields.specs.Fields.{zeros}
use Rattle.fields.proofs.Zeros.{zeros-split}
use Rattle.fields.proofs.is_zero.Goals as goal

pub loop-i-init : goal.loop-i-init
loop-i-init c = let at : c.args.from ≡ c.args.from + 0 = omega arith in ap (λ (n : ℕ). zeros (slice n c.args.to c.args.s.now)) at

pub loop-i-preserved : goal.loop-i-preserved
loop-i-preserved c =
    let s = c.args.s.now in
    let at : ℕ = c.args.from + 8 * c.loop-i.i in
    let n : at + 8 - at ≡ 8 = omega arith in
    let next : at + 8 ≡ c.args.from + 8 * (c.loop-i.i + 1) = omega arith in
    let round : zeros (take 8 (drop at s)) ≡ true =
    ap (λ (k : ℕ). zeros (take k (drop at s))) (sym n) ∙ sym c.no_bit.ensures ∙ c.if-not-no_bit.false in
    c.loop-i.invariant ∙ zeros-split s at 8 c.args.to (omega (arith, c.loop-i-test.true))
    ∙ ap (λ (b : Bool). b && zeros (slice (at + 8) c.args.to s)) round ∙ ap (λ (k : ℕ). zeros (slice k c.args.to s)) next

pub returns-then-not-no_bit : goal.returns-then-not-no_bit
returns-then-not-no_bit c =
    let s = c.args.s.now in
    let at : ℕ = c.args.from + 8 * c.loop-i.i in
    let n : at + 8 - at ≡ 8 = omega arith in
    let round : zeros (take 8 (drop at s)) ≡ false =
    ap (λ (k : ℕ). zeros (take k (drop at s))) (sym n) ∙ sym c.no_bit.ensures ∙ c.if-not-no_bit.true in
    sym (c.loop-i.invariant ∙ zeros-split s at 8 c.args.to (omega (arith, c.loop-i-test.true))
    ∙ ap (λ (b : Bool). b && zeros (slice (at + 8) c.args.to s)) round)

pub returns : goal.returns
returns c =
    let s = c.args.s.now in
    let all : c.args.from + 8 * c.loop-i.i ≡ c.args.from + 8 * ((c.args.to - c.args.from) / 8) = omega (arith, c.loop-i-test.false) in
    c.no_bit-2.ensures ∙ ap zeros (between_is s _ c.args.to) ∙ sym (c.loop-i.invariant ∙ ap (λ (k : ℕ). zeros (slice k c.args.to s)) all)
