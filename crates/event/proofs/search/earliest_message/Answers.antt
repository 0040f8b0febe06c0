-- `event::search::earliest_message` meets its contract. Assumes nothing.
use Rattle.std.proofs.Common.{sym, ◌∙◌, arith}
use Rattle.store.specs.Store.{state_in}
use Rattle.event.proofs.Searching.{message-least, messages-over}
use Rattle.event.proofs.search.earliest_message.Goals as goal

pub loop-i-preserved : goal.loop-i-preserved
loop-i-preserved c =
    c.loop-i.invariant
    ∙ message-least (state_in c.args.s.now).flight c.loop-i.i c.loop-i.least (omega arith) c.due_at.ensures c.min-least.ensures

pub returns : goal.returns
returns c = sym (c.loop-i.invariant ∙ messages-over (state_in c.args.s.now).flight c.loop-i.i c.loop-i.least (omega arith))
