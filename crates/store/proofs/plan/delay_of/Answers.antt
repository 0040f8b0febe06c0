-- `store::plan::delay_of` meets its contract. Assumes nothing.
use Rattle.std.proofs.Common.{sym, ◌∙◌, arith}
use Rattle.store.proofs.Delays.{delay-no-rows, delay-above, delay-past, delay-other, delay-found}
use Rattle.store.proofs.plan.delay_of.Goals as goal
use Rattle.store.proofs.plan.delay_of.Goals.{then-rows-eq0-via-then-rows-eq0, then-rows-eq0-via-else-rows-eq0+then-get-number}
use Rattle.store.proofs.plan.delay_of.Goals.{then-i-rows-via-then-i-rows, then-i-rows-via-else-i-rows+then-get-number-2}

pub returns-then-rows-eq0 : goal.returns-then-rows-eq0
returns-then-rows-eq0 c =
    let n = c.delay_count-rows in
    c.longest_delay.ensures ∙ elim c.then-rows-eq0.branch [
      | then-rows-eq0-via-then-rows-eq0 w ↦ delay-no-rows c.args.s.now c.args.number n.result c.requires.s_value n.ensures w.if-rows-eq0.true
      | then-rows-eq0-via-else-rows-eq0+then-get-number w ↦
          delay-above c.args.s.now c.args.number n.result c.requires.s_value n.ensures w.if-rows-eq0.false (omega (arith, w.get.ensures.value))
    ]

pub returns-then-i-rows : goal.returns-then-i-rows
returns-then-i-rows c =
    let n = c.delay_count-rows in
    c.longest_delay-then-i-rows.ensures ∙ elim c.then-i-rows.branch [
      | then-i-rows-via-then-i-rows w ↦
          delay-past c.args.s.now c.args.number n.result c.requires.s_value n.ensures _ c.first_row-i.ensures w.if-i-rows.true
      | then-i-rows-via-else-i-rows+then-get-number-2 w ↦
          delay-other c.args.s.now c.args.number n.result c.requires.s_value n.ensures _ c.first_row-i.ensures w.if-i-rows.false
          (λ e. w.if-get-number-2.true (w.get-else-i-rows.ensures.value ∙ e))
    ]

pub returns : goal.returns
returns c =
    let n = c.delay_count-rows in
    c.get-2.ensures.value
    ∙ delay-found c.args.s.now c.args.number n.result c.requires.s_value n.ensures _ c.first_row-i.ensures c.if-i-rows.false
    (sym c.get-else-i-rows.ensures.value ∙ c.if-get-number-2.false)
