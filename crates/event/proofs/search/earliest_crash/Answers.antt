-- `event::search::earliest_crash` meets its contract. Assumes nothing.
use mathlib.Core.Path.{sym}
use native.Mathlib.Numerals.{add-one}
use Rattle.store.specs.Store.{plan_in, state_in}
use Rattle.event.proofs.Readiness.{acting-plain}
use Rattle.event.proofs.Searching.{crashes-over, crash-first}
use native.Mathlib.Omega.{arith}
use Rattle.event.proofs.search.earliest_crash.Goals as goal

pub overflow_add-result : goal.overflow_add-result
overflow_add-result c = omega (arith, c.end_tick.ensures, (acting-plain _ c.requires).end≤)

pub returns-then-crash_count-done : goal.returns-then-crash_count-done
returns-then-crash_count-done c =
    rw (c.end_tick.ensures, add-one) (sym (crashes-over (plan_in c.args.s.now) (state_in c.args.s.now)
    (omega (arith, c.if-crash_count-done.true, c.crash_count.ensures, c.crashes_done-done.ensures))))

pub returns : goal.returns
returns c =
    let e = c.crashes_done-done.ensures in
    rw (c.crash_at-row.ensures, e) (sym (crash-first (plan_in c.args.s.now) (acting-plain _ c.requires) (state_in c.args.s.now)
    (omega (arith, c.if-crash_count-done.false, c.crash_count.ensures, e))))
