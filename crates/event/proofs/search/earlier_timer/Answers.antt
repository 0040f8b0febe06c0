-- `event::search::earlier_timer` meets its contract. Assumes nothing.
use Rattle.std.proofs.Common.{sym, ◌∙◌}
use Rattle.event.proofs.Searching.{timer-none, timer-min}
use Rattle.event.proofs.search.earlier_timer.Goals as goal

pub returns-then-timer-eq0 : goal.returns-then-timer-eq0
returns-then-timer-eq0 c = sym (timer-none c.args.t c.args.timer c.if-timer-eq0.true)

pub returns-else-timer-eq0 : goal.returns-else-timer-eq0
returns-else-timer-eq0 c = c.min.ensures ∙ sym (timer-min c.args.t c.args.timer c.if-timer-eq0.false)
