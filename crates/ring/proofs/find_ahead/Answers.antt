-- `ring::find_ahead` meets its contract. Assumes nothing.
use mathlib.Core.Path.{refl, sym, ◌∙◌}
use borrow.Author.Rules.{rules}
use Rattle.ring.specs.Ring.{ahead}
use Rattle.ring.proofs.Searches.{turn-hit, turn-pass, turn-skip, turn-done}
use Rattle.ring.proofs.find_ahead.Goals as goal
use Rattle.ring.proofs.find_ahead.Goals.{then-not-is_listed+else-left-eq0, else-not-is_listed}

pub loop-s-init : goal.loop-s-init
unfolding ahead
loop-s-init c = refl

pub returns-then-left-eq0 : goal.returns-then-left-eq0
returns-then-left-eq0 c =
    turn-hit _ _ _ _ _ _ (search rules) c.step-x.ensures c.is_listed.ensures _ c.if-not-is_listed.true-raw c.if-left-eq0.true
    ∙ sym c.loop-s.invariant

pub loop-s-preserved : goal.loop-s-preserved
loop-s-preserved c =
    let inv = c.loop-s.invariant in
    let less = c.loop-s-test.true in
    let asked = c.is_listed.ensures in
    elim c.if-not-is_listed.branch [
      | then-not-is_listed+else-left-eq0 w ↦
          rw w.left-is (inv ∙ turn-pass _ _ _ _ _ _ less c.step-x.ensures asked _ w.if-not-is_listed.true-raw w.if-left-eq0.false)
      | else-not-is_listed w ↦ rw w.left-is (inv ∙ turn-skip _ _ _ _ _ _ less c.step-x.ensures asked _ w.if-not-is_listed.false-raw)
    ]

pub returns : goal.returns
returns c = sym (c.loop-s.invariant ∙ turn-done _ _ _ _ _ c.loop-s-test.false)
