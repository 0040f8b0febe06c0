-- `fields::clear` meets its contract: round after round, then the rest. Assumes nothing.
use native.Mathlib.Omega.{arith}
use mathlib.Core.Path.{◌≡◌, refl, ap, subst, ◌∙◌}
use mathlib.Core.List.{List}
use Prim.Native.Nat.{ℕ, ◌+◌, ◌*◌, ◌/◌, ◌-◌, ◌≤◌}
use lib.ListN.{length}
use borrow.Rule.Slice.PartMut.{put_mid}
use Rattle.fields.specs.Fields.{cleared}
use Rattle.fields.proofs.Zeros.{clear-part, clear-length, clear-both, clear-none}
use Rattle.fields.proofs.clear.Goals as goal

pub loop-i-init : goal.loop-i-init
loop-i-init c =
    let at : c.args.from ≡ c.args.from + 0 = omega arith in
    (refl, subst (λ (n : ℕ). c.args.s.now ≡ cleared c.args.s.now c.args.from n) at (clear-none c.args.s.now c.args.from))

pub loop-i-preserved : goal.loop-i-preserved
loop-i-preserved c =
    let s = c.args.s.now in
    let i = c.loop-i.invariant in
    let at : ℕ = c.args.from + 8 * c.loop-i.i in
    let room : at + 8 ≤ length c.loop-i.s = omega (arith, i.0, c.loop-i-test.true, c.requires.1) in
    let part : put_mid at (at + 8 - at) c.loop-i.s c.fill.new.self ≡ cleared c.loop-i.s at (at + 8) =
    clear-part c.loop-i.s _ at (at + 8) (c.fill.ensures.after (λ y h. h)) (omega arith) room in
    let both : cleared (cleared s c.args.from at) at (at + 8) ≡ cleared s c.args.from (at + 8) =
    clear-both s c.args.from at (omega arith) (omega (arith, room, i.0)) (at + 8) (omega arith) (omega (arith, room, i.0)) in
    let next : at + 8 ≡ c.args.from + 8 * (c.loop-i.i + 1) = omega arith in (
      ap length part ∙ clear-length c.loop-i.s at (at + 8) (omega arith) room ∙ i.0,
      part ∙ ap (λ (l : List ℕ). cleared l at (at + 8)) i.1 ∙ both ∙ ap (cleared s c.args.from) next,
    )

pub returns : goal.returns
returns c =
    let s = c.args.s.now in
    let i = c.loop-i.invariant in
    let at : ℕ = c.args.from + 8 * ((c.args.to - c.args.from) / 8) in
    let all : c.args.from + 8 * c.loop-i.i ≡ at = omega (arith, c.loop-i-test.false) in
    let is : c.loop-i.s ≡ cleared s c.args.from at = i.1 ∙ ap (cleared s c.args.from) all in
    clear-part c.loop-i.s _ at c.args.to (c.fill-2.ensures.after (λ y h. h)) (omega arith) (omega (arith, i.0, c.requires.1))
    ∙ ap (λ (l : List ℕ). cleared l at c.args.to) is
    ∙ clear-both s c.args.from at (omega arith) (omega (arith, c.requires.1)) c.args.to (omega arith) c.requires.1
