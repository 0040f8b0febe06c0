-- `event::search::next_event` meets its contract. Assumes nothing.
use mathlib.Core.Path.{sym, ◌∙◌}
use Rattle.store.specs.Store.{plan_in, state_in}
use Rattle.event.proofs.Readiness.{ready-acting, ready-crashes}
use Rattle.event.proofs.Searching.{search-found}
use native.Mathlib.Omega.{arith}
use Rattle.event.proofs.search.next_event.Goals as goal

pub crashed_list-dead-requires : goal.crashed_list-dead-requires
crashed_list-dead-requires c = let r = ready-crashes _ c.requires in record { sized = r.0; s_value = r.1.0; s_in_bounds = r.1.1 }

pub earliest_crash-crash-requires : goal.earliest_crash-crash-requires
earliest_crash-crash-requires c = ready-acting _ c.requires

pub returns : goal.returns
returns c =
    c.first_at.ensures ∙ sym (search-found (plan_in c.args.s.now) (state_in c.args.s.now) _ _ _ c.earliest_crash-crash.ensures
    c.earliest_message-message.ensures c.earliest_timer-t.ensures
    (omega (arith, c.end_tick.ensures)))
