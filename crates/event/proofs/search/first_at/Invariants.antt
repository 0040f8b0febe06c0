-- `event::search::first_at` meets its contract. The loops' invariants: what is left to search decides, crashes from c on, then messages from i
-- on, then timers from node x on. Assumes nothing.
use Rattle.std.proofs.Common.{◌≡◌, ◌++◌, drop}
use Rattle.model.specs.Platform.{crash_entries, message_entries, timer_entries, pending}
use Rattle.store.specs.Store.{plan_in, state_in}
use Rattle.event.specs.Search.{first_at}
use Rattle.event.proofs.search.first_at.Given as goal

abbrev pub invariant-loop-c : goal.invariant-loop-c
invariant-loop-c l =
    first_at l.t (pending (plan_in l.s) (state_in l.s)) ≡ first_at l.t (crash_entries (drop l.c (plan_in l.s).crashes)
    ++ (message_entries 0 (state_in l.s).flight ++ timer_entries (plan_in l.s) (state_in l.s).done 0 (state_in l.s).nodes))

abbrev pub invariant-loop-i : goal.invariant-loop-i
invariant-loop-i l =
    first_at l.t (pending (plan_in l.s) (state_in l.s)) ≡ first_at l.t (message_entries l.i (drop l.i (state_in l.s).flight)
    ++ timer_entries (plan_in l.s) (state_in l.s).done 0 (state_in l.s).nodes)

abbrev pub invariant-loop-x : goal.invariant-loop-x
invariant-loop-x l =
    first_at l.t (pending (plan_in l.s) (state_in l.s))
    ≡ first_at l.t (timer_entries (plan_in l.s) (state_in l.s).done l.x (drop l.x (state_in l.s).nodes))
