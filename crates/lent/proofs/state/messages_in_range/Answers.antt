-- `lent::state::messages_in_range` meets its contract. Assumes nothing.
use Rattle.std.proofs.Common.{sym, ◌∙◌, arith}
use Rattle.store.specs.Store.{state_in}
use Rattle.lent.proofs.StateTests.{number-low, number-high, message-out, message-turn, flight-end}
use Rattle.lent.proofs.state.messages_in_range.Goals as goal
use Rattle.lent.proofs.state.messages_in_range.Goals.{then-m-low-via-then-m-low, then-m-low-via-else-m-low+then-next-m}
use Rattle.lent.proofs.state.messages_in_range.Goals.{then-m-low-via-else-m-low+else-next-m+then-not-message_fits}

pub returns-then-m-low : goal.returns-then-m-low
returns-then-m-low c =
    let f = (state_in c.args.s.now).flight in
    sym (c.loop-i.invariant.same ∙ elim c.then-m-low.branch [
      | then-m-low-via-then-m-low w ↦ number-low _ _ _ f _ _ _ (omega arith) c.message_at-m.ensures w.if-m-low.true
      | then-m-low-via-else-m-low+then-next-m w ↦ number-high _ _ _ f _ _ _ (omega arith) c.message_at-m.ensures w.if-next-m.true
      | then-m-low-via-else-m-low+else-next-m+then-not-message_fits w ↦
          message-out _ _ _ f _ _ _ (omega arith) c.message_at-m.ensures (sym w.message_fits.ensures ∙ w.if-not-message_fits.true)
    ])

pub loop-i-preserved : goal.loop-i-preserved
loop-i-preserved c = record {
  below = omega arith;
  same =
      c.loop-i.invariant.same ∙ message-turn _ _ _ (state_in c.args.s.now).flight _ _ _ (omega arith) c.message_at-m.ensures
      c.if-m-low.false (sym c.message_fits.ensures ∙ c.if-not-message_fits.false);
}

pub returns : goal.returns
returns c =
    let l = c.loop-i in
    sym (l.invariant.same ∙ flight-end _ _ _ (state_in c.args.s.now).flight l.i _ (omega arith) l.invariant.below)
