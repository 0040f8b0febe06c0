-- `event::search::earliest_message` meets its contract. The loop's invariant: the messages from i on decide, with the earliest so far.
-- Assumes nothing.
use Rattle.std.proofs.Common.{◌≡◌, drop}
use Rattle.model.specs.Platform.{message_entries}
use Rattle.store.specs.Store.{state_in}
use Rattle.event.specs.Search.{least_tick}
use Rattle.event.proofs.search.earliest_message.Given as goal

abbrev pub invariant-loop-i : goal.invariant-loop-i
invariant-loop-i l =
    least_tick l.t (message_entries 0 (state_in l.s).flight) ≡ least_tick l.least (message_entries l.i (drop l.i (state_in l.s).flight))
