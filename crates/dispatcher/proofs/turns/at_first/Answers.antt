-- `dispatcher::turns::at_first` meets its contract. Assumes nothing.
use Rattle.std.proofs.Common.{◌≡◌, rules, arith}
use mathlib.Core.Path.{◌∙◌}
use Rattle.std.specs.Slice.Iter.{chunks_exact_rest}
use Rattle.dispatcher.proofs.Parts.{look-first, look-inside, look-ready, look-next, look-all}
use Rattle.dispatcher.proofs.turns.at_first.Goals as goal

pub loop-i-init : goal.loop-i-init
loop-i-init c =
    let count : c.into_iter-i-iterator.result.count ≡ 0 = cc in
    let rest : chunks_exact_rest c.into_iter-i-iterator.result.iter ≡ c.args.part.now = cc in
    (search rules, cc, rw (count, rest, c.new-tallies.ensures) (look-first c.args.part.now c.requires.0 c.requires.1))

pub bounds-tallies-i : goal.bounds-tallies-i
bounds-tallies-i c =
    let w = c.loop-i.invariant.2 in
    let s = c.in-Some.ensures.steps in
    omega (arith, s.1, look-inside _ w c.in-Some.store.now _ s.0.1.0 (s.0.1.1 ∙ c.loop-i.invariant.1), w.whole.most)

pub event_left-requires : goal.event_left-requires
event_left-requires c =
    let s = c.in-Some.ensures.steps in
    look-ready _ c.loop-i.invariant.2 c.in-Some.store.now _ s.0.1.0 (s.0.1.1 ∙ c.loop-i.invariant.1)

pub loop-i-preserved : goal.loop-i-preserved
loop-i-preserved c =
    let s = c.in-Some.ensures.steps in
    let next = look-next _ c.loop-i.invariant.2 c.in-Some.store.now _ s.0.1.0 (s.0.1.1 ∙ c.loop-i.invariant.1) c.event_left.ensures c.new.ensures in
    (search rules, s.0.0 ∙ c.loop-i.invariant.1, rw (s.1, s.2) next)

pub returns : goal.returns
returns c =
    let s = c.in-None.ensures.steps in look-all _ c.loop-i.invariant.2 (omega (arith, s.0.1.0, c.loop-i.invariant.1))
