-- `course::steps::timers` meets its contract. Assumes nothing.
use Rattle.event.proofs.Readiness.{held-sized, ready-plain}
use Rattle.course.specs.Look.{FirstTimer}
use Rattle.course.proofs.Parting.{apart-held, apart-plan, apart-acting}
use Rattle.course.proofs.Looking.{apart-dead, apart-timers}
use Rattle.course.proofs.Choosing.{timer-found, found-a-watch, found-a-beat, timer-acts, timer-told, chosen-later}
use mathlib.Core.Path.{sym, ◌∙◌}
use native.Mathlib.Omega.{arith}
use Rattle.course.proofs.steps.timers.Goals.{then-a-t, else-a-t}
use Rattle.course.proofs.steps.timers.Goals as goal

pub timer_node-requires : goal.timer_node-requires
timer_node-requires c =
    let p = c.requires in
    let k = p.underway in
    let dead = apart-dead k.apart _ k.dead in
    let timers = apart-timers k.apart _ _ k.timers in
    record {
      acting = apart-acting k.apart k.ready;
      dead_value = dead;
      t_bound = rw (apart-plan k.apart) p.quiet.tick;
      timers = timers;
    }

pub least_timer-c-requires : goal.least_timer-c-requires
unfolding FirstTimer
least_timer-c-requires c =
    let p = c.requires in
    let k = p.underway in record {
      acting = apart-acting k.apart k.ready;
      dead_value = apart-dead k.apart _ k.dead;
      t_bound = rw (apart-plan k.apart) p.quiet.tick;
      timers = c.in_default.ensures;
    }

pub returns-in_default : goal.returns-in_default
returns-in_default c = λ whole k u. chosen-later k u _ c.least_timer-c.ensures

pub node_at-a-requires : goal.node_at-a-requires
unfolding FirstTimer
node_at-a-requires c = record {
  sized = held-sized _ (apart-held c.requires.underway.apart);
  i_bound = c.in-Some.ensures.inside;
}

pub overflow_add-t : goal.overflow_add-t
overflow_add-t c =
    let p = c.requires in
    omega (arith, p.quiet.tick, (ready-plain p.whole p.underway.ready).end≤)

pub do_watch-step-requires : goal.do_watch-step-requires
unfolding FirstTimer
do_watch-step-requires c =
    let p = c.requires in
    let f = timer-found c.in-Some.ensures c.node_at-a.ensures in
    timer-acts p.underway p.quiet f (found-a-watch p.underway p.quiet f c.if-a-t.true) p.room

pub do_heartbeat-step-requires : goal.do_heartbeat-step-requires
unfolding FirstTimer
do_heartbeat-step-requires c =
    let p = c.requires in
    let f = timer-found c.in-Some.ensures c.node_at-a.ensures in
    timer-acts p.underway p.quiet f (found-a-beat p.underway p.quiet f c.if-a-t.false) p.room

pub returns-then-is_err : goal.returns-then-is_err
unfolding FirstTimer
returns-then-is_err c =
    λ whole k u.
    let f = timer-found c.in-Some.ensures c.node_at-a.ensures in
    let refused = sym c.is_err.ensures.value ∙ c.if-is_err.true in
    elim c.if-a-t.branch [
      | then-a-t w ↦ rw (w.b-is, w.q-is, w.c-is, w.step-is)
          ((timer-told k u f (found-a-watch k u f w.if-a-t.true) _ _ _ _ w.do_watch-step.ensures).0 (rw w.step-is at refused))
      | else-a-t w ↦ rw (w.b-is, w.q-is, w.c-is, w.step-is)
          ((timer-told k u f (found-a-beat k u f w.if-a-t.false) _ _ _ _ w.do_heartbeat-step.ensures).0 (rw w.step-is at refused))
    ]

pub returns-else-is_err : goal.returns-else-is_err
unfolding FirstTimer
returns-else-is_err c =
    λ whole k u.
    let f = timer-found c.in-Some.ensures c.node_at-a.ensures in
    let done = sym c.is_err.ensures.value ∙ c.if-is_err.false in
    elim c.if-a-t.branch [
      | then-a-t w ↦ rw (w.b-is, w.q-is, w.c-is, w.step-is)
          ((timer-told k u f (found-a-watch k u f w.if-a-t.true) _ _ _ _ w.do_watch-step.ensures).1 (rw w.step-is at done))
      | else-a-t w ↦ rw (w.b-is, w.q-is, w.c-is, w.step-is)
          ((timer-told k u f (found-a-beat k u f w.if-a-t.false) _ _ _ _ w.do_heartbeat-step.ensures).1 (rw w.step-is at done))
    ]
