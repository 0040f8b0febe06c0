-- `ring::find_back` meets its contract. Assumes nothing.
use mathlib.Core.Path.{sym, ◌∙◌}
use native.Mathlib.Omega.{arith}
use borrow.Author.Rules.{rules}
use Rattle.ring.proofs.Searches.{turn-back-start, turn-back-hit, turn-back-skip, turn-back-done}
use Rattle.ring.proofs.find_back.Goals as goal

pub loop-s-init : goal.loop-s-init
loop-s-init c = (omega arith, turn-back-start _ _ _)

pub returns-then-not-is_listed : goal.returns-then-not-is_listed
returns-then-not-is_listed c =
    let turn = c.loop-s in
    turn-back-hit _ _ _ _ _ _ (search rules) c.step-x.ensures c.is_listed.ensures turn.s turn.passed (omega arith) c.if-not-is_listed.true-raw
    ∙ sym turn.invariant.1

pub loop-s-preserved : goal.loop-s-preserved
loop-s-preserved c =
    let turn = c.loop-s in (
      search rules,
      turn.invariant.1
          ∙ turn-back-skip _ _ _ _ _ _ (search rules) c.step-x.ensures c.is_listed.ensures turn.s turn.passed
          (omega arith) c.if-not-is_listed.false-raw,
    )

pub returns : goal.returns
returns c = sym (c.loop-s.invariant.1 ∙ turn-back-done _ _ _ _ _ c.loop-s-test.false)
