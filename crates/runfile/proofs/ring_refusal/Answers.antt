-- `runfile::ring_refusal` meets its contract: the loop has tried the numbers before the place i. Assumes nothing.
use Rattle.std.proofs.Common.{◌≡◌, ◌&&◌, not, Some, ◌-◌, ◌+◌, sym, arith}
use Rattle.std.proofs.lemmas.Grind.{common_steps}
use Rattle.text.specs.Field.{number_field_at}
use Rattle.ring.specs.Ring.{listed}
use Rattle.runfile.proofs.Rings.{tried-none, tried-more, tried-outside, tried-next, tried-all}
use Rattle.runfile.proofs.ring_refusal.Goals.{then-once, else-once}
use Rattle.runfile.proofs.ring_refusal.Goals as goal

pub loop-init : goal.loop-init
loop-init c = tried-none _ _ _ (omega arith) c.requires.2

pub returns-in_default : goal.returns-in_default
returns-in_default c = absurd (tried-more _ _ _ _ _ _ c.loop.invariant (omega arith) (grind (arith, common_steps)))

pub returns-then-n-x : goal.returns-then-n-x
returns-then-n-x c =
    let read : number_field_at c.args.l.now c.loop.i ≡ Some (c.in-Some.x, c.in-Some.j) = grind (arith, common_steps) in
    sym (tried-outside _ _ _ _ _ _ c.loop.invariant _ _ (c.args.n - (c.loop.counter + 1)) read (omega arith) c.if-n-x.true)

pub loop-preserved : goal.loop-preserved
loop-preserved c =
    let read : number_field_at c.args.l.now c.loop.i ≡ Some (c.in-Some.x, c.in-Some.j) = grind (arith, common_steps) in
    let once : c.if-once.once ≡ (c.loop.once && not (listed c.loop.seen c.in-Some.x)) =
    elim c.if-once.branch [ then-once w ↦ grind (arith, common_steps) | else-once w ↦ grind (arith, common_steps) ] in
    tried-next _ _ _ _ _ _ c.loop.invariant _ _ _ read (omega arith) c.if-n-x.false once c.with_listed-seen.ensures

pub returns-then-once-2 : goal.returns-then-once-2
returns-then-once-2 c = grind (arith, common_steps, tried-all _ _ _ _ _ _ c.loop.invariant (omega arith))

pub returns-else-once-2 : goal.returns-else-once-2
returns-else-once-2 c = grind (arith, common_steps, tried-all _ _ _ _ _ _ c.loop.invariant (omega arith))
