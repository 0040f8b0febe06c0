-- `course::settle::settle` meets its contract. Assumes nothing.
use Prim.Native.Nat.{◌+◌, ◌≤◌}
use mathlib.Core.Path.{refl}
use lib.ListN.{length}
use Rattle.limits.specs.Limits.{most_in_flight}
use Rattle.store.specs.Store.{state_in}
use Rattle.course.specs.Progress.{SettledAs}
use Rattle.course.proofs.Progressing.{later-apart, apart-count}
use native.Mathlib.Omega.{arith}
use Rattle.course.proofs.settle.settle.Goals as goal

pub returns-then-c-u-gt-MOST_IN_FLIGHT : goal.returns-then-c-u-gt-MOST_IN_FLIGHT
unfolding SettledAs
returns-then-c-u-gt-MOST_IN_FLIGHT c =
    λ whole a h.
    record {
      refusal = refl;
      full = omega (arith, c.if-c-u-gt-MOST_IN_FLIGHT.true, apart-count _ _ _ _ whole a);
      store = refl;
      queue = refl;
      progress = refl;
    }

pub take_turn-requires : goal.take_turn-requires
take_turn-requires c =
    let p = c.requires in
    let t = p.turns (omega (arith, c.if-c-u-gt-MOST_IN_FLIGHT.false, apart-count _ _ _ _ p.whole p.apart)) in
    record { whole = p.whole; apart = p.apart; turns = t; room = p.room }

pub returns : goal.returns
unfolding SettledAs
returns c =
    λ whole a h.
    let room : length (state_in whole).flight + c.args.u.count ≤ most_in_flight =
    omega (arith, c.if-c-u-gt-MOST_IN_FLIGHT.false, apart-count _ _ _ _ whole a) in
    let t = c.take_turn.ensures whole a (h room) in
    record { room = room; later = c.later.ensures; apart = later-apart _ _ c.args.c.now _ _ _ _ c.later.ensures t }
