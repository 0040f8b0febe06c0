-- `fields::get` meets its contract. Assumes nothing.
use Prim.Native.Nat.{◌<◌, ◌+◌, ◌-◌}
use mathlib.Core.Path.{refl}
use native.Mathlib.Nat.{pow-suc}
use lib.Arith.{digits_lt}
use lib.Dec.{lit<}
use lib.ListN.{length, take, drop}
use Rattle.std.proofs.lemmas.Iterator.Adapters.{YieldsList-from_rev_slice}
use Rattle.std.proofs.lemmas.Iterator.Consumers.{YieldsList-turn, YieldsList-end}
use Rattle.std.proofs.lemmas.List.{length_push, map-append}
use Rattle.fields.specs.Fields.{value}
use Rattle.fields.proofs.Fields.{got-room, got-more, got-all, part-bound}
use borrow.Author.Rules.{rules}
use native.Mathlib.Omega.{arith}
use native.Mathlib.Numerals.{add-one}
use Rattle.fields.proofs.get.Goals as goal

pub loop-b-init : goal.loop-b-init
unfolding value
loop-b-init c = (tt, tt, refl, lit< tt)

-- what has been read leaves room for another byte
pub overflow_mul-x : goal.overflow_mul-x
overflow_mul-x c =
    let l = c.loop-b in
    let part = take (c.args.at + c.args.width - c.args.at) (drop c.args.at c.args.s.now) in
    let turn = YieldsList-turn (YieldsList-from_rev_slice part (cc)) l.yielded _ l.yielded_by _ _ c.in-Some.b c.in-Some.is c.next.ensures.steps in
    omega (arith, got-room l.x (length l.yielded) c.args.width l.invariant.3 (part-bound _ _ _ _ turn.0) c.requires.1)

pub overflow_add-x : goal.overflow_add-x
overflow_add-x c =
    let l = c.loop-b in
    let part = take (c.args.at + c.args.width - c.args.at) (drop c.args.at c.args.s.now) in
    let turn = YieldsList-turn (YieldsList-from_rev_slice part (cc)) l.yielded _ l.yielded_by _ _ c.in-Some.b c.in-Some.is c.next.ensures.steps in
    let byte : c.in-Some.b.now < 256 = search rules in
    omega (arith, byte, got-room l.x (length l.yielded) c.args.width l.invariant.3 (part-bound _ _ _ _ turn.0) c.requires.1)

pub loop-b-preserved : goal.loop-b-preserved
loop-b-preserved c =
    let l = c.loop-b in
    let byte : c.in-Some.b.now < 256 = search rules in
    let less = digits_lt l.invariant.3 byte in
    (tt, tt, rw (map-append, c.from.ensures, ← got-more, l.invariant.2), rw (length_push, add-one, pow-suc, c.from.ensures) less)

pub returns : goal.returns
returns c =
    let l = c.loop-b in
    let part = take (c.args.at + c.args.width - c.args.at) (drop c.args.at c.args.s.now) in
    let end = YieldsList-end (YieldsList-from_rev_slice part (cc)) l.yielded _ l.yielded_by _ _ c.in-None.is c.next.ensures.steps in
    got-all _ _ _ _ _ _ c.requires.0 l.invariant.2 l.invariant.3 end.0 end.1
