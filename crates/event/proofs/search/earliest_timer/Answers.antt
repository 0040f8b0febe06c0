-- `event::search::earliest_timer` meets its contract. Assumes nothing.
use Rattle.std.proofs.Common.{sym, ◌∙◌, ◌<◌, length, arith}
use Rattle.store.specs.Store.{plan_in, state_in}
use Rattle.event.proofs.Readiness.{ready-plain}
use Rattle.event.proofs.Searching.{live-next, dead-next, nodes-over, listed-as}
use Rattle.event.proofs.search.earliest_timer.Goals as goal
use Rattle.event.proofs.search.earliest_timer.Goals.{then-not-is_listed, else-not-is_listed}

pub loop-x-preserved : goal.loop-x-preserved
loop-x-preserved c =
    let p = plan_in c.args.s.now in
    let z = state_in c.args.s.now in
    let l = c.loop-x in
    let h : l.x < length z.nodes = omega (arith, c.requires.ready.held.fits.nodes) in
    l.invariant ∙ elim c.if-not-is_listed.branch [
      | then-not-is_listed w ↦
          live-next p (ready-plain _ c.requires.ready) z.done z.nodes l.x l.least _ h w.node_at-a.ensures
          (listed-as p z.done c.args.dead l.x c.is_listed.ensures c.requires.dead_value w.if-not-is_listed.true)
          ∙ rw (w.least-is, w.earlier_timer-least.ensures, w.earlier_timer-watch.ensures)
      | else-not-is_listed w ↦
          dead-next p (ready-plain _ c.requires.ready) z.done z.nodes l.x l.least h
          (listed-as p z.done c.args.dead l.x c.is_listed.ensures c.requires.dead_value w.if-not-is_listed.false) ∙ rw w.least-is
    ]

pub returns : goal.returns
returns c =
    sym (c.loop-x.invariant ∙ nodes-over (plan_in c.args.s.now) (ready-plain _ c.requires.ready) (state_in c.args.s.now).done
    (state_in c.args.s.now).nodes c.loop-x.x c.loop-x.least (omega (arith, c.requires.ready.held.fits.nodes)))
