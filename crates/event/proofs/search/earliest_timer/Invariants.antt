-- `event::search::earliest_timer` meets its contract. The loop's invariant: the timers from x on decide, with the earliest so far. Assumes nothing.
use Rattle.std.proofs.Common.{◌≡◌, drop}
use Rattle.model.specs.Platform.{timer_entries}
use Rattle.store.specs.Store.{plan_in, state_in}
use Rattle.event.specs.Search.{least_tick}
use Rattle.event.proofs.search.earliest_timer.Given as goal

abbrev pub invariant-loop-x : goal.invariant-loop-x
invariant-loop-x l =
    least_tick l.t (timer_entries (plan_in l.s) (state_in l.s).done 0 (state_in l.s).nodes)
    ≡ least_tick l.least (timer_entries (plan_in l.s) (state_in l.s).done l.x (drop l.x (state_in l.s).nodes))
