-- `course::carry::append` meets its contract. Assumes nothing.
use Prim.Native.Nat.{ℕ}
use mathlib.Core.Path.{refl, subst}
use native.Mathlib.Omega.{arith}
use Rattle.course.proofs.Carrying.{Prefix, prefix-none, append-room, append-turn, append-end}
use borrow.Author.Rules.{rules}
use Rattle.course.proofs.carry.append.Goals as goal

pub loop-m-init : goal.loop-m-init
loop-m-init c = (refl, λ whole g. prefix-none whole g.ready.held _ g.is)

pub put_message-requires : goal.put_message-requires
put_message-requires c =
    let p = c.requires in
    let r = append-room _ _ p.0 p.1 _ c.loop-m-test.true _ (c.loop-m.invariant.1 p.0 p.1) in record { held = r.0; s_len_bound = r.1 }

pub loop-m-preserved : goal.loop-m-preserved
loop-m-preserved c = (
  search rules,
  λ whole g. append-turn _ _ whole g _ c.loop-m-test.true _ (c.loop-m.invariant.1 whole g) _ refl _ c.put_message.ensures,
)

pub returns : goal.returns
returns c = λ whole g. append-end _ _ whole g _ (subst (λ (i : ℕ). Prefix whole i c.loop-m.b) (omega arith) (c.loop-m.invariant.1 whole g))
