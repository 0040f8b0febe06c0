-- `event::search::first_at` meets its contract. Assumes nothing.
use Rattle.std.proofs.Common.{◌<◌, ◌≤◌, length, refl, sym, ap, ◌∙◌, arith}
use Rattle.model.specs.Platform.{pending}
use Rattle.store.specs.declared.CrashRow.{CrashRow}
use Rattle.store.specs.Store.{plan_in, state_in}
use Rattle.event.specs.Event.{next_of, next_at}
use Rattle.event.proofs.Readiness.{ready-plain}
use Rattle.event.proofs.Searching.{crash-hit, crash-skip, crash-end, message-hit, message-skip, message-end, watch-hit, beat-hit, live-skip}
use Rattle.event.proofs.Searching.{dead-skip, nodes-end, listed-as}
use Rattle.event.proofs.search.first_at.Goals as goal
use Rattle.event.proofs.search.first_at.Goals.{then-not-is_listed+else-a-t+else-a-t-2, else-not-is_listed}

pub loop-c-init : goal.loop-c-init
unfolding pending
loop-c-init c = rw c.crashes_done-c.ensures refl

pub loop-c-preserved : goal.loop-c-preserved
loop-c-preserved c =
    c.loop-c.invariant ∙ crash-skip c.args.t _ (plan_in c.args.s.now).crashes c.loop-c.c (omega arith)
    (λ e. c.if-row-t.false (ap (λ (r : CrashRow). r.tick) c.crash_at-row.ensures ∙ e))

pub returns-then-row-t : goal.returns-then-row-t
unfolding next_of next_at
returns-then-row-t c =
    let e = c.crash_at-row.ensures in
    rw e (sym (ap next_of (c.loop-c.invariant ∙ crash-hit c.args.t _ (plan_in c.args.s.now).crashes c.loop-c.c (omega arith)
    (sym (ap (λ (r : CrashRow). r.tick) e) ∙ c.if-row-t.true))))

pub loop-i-init : goal.loop-i-init
loop-i-init c = c.loop-c.invariant ∙ crash-end c.args.t _ (plan_in c.args.s.now).crashes c.loop-c.c (omega arith)

pub loop-i-preserved : goal.loop-i-preserved
loop-i-preserved c =
    c.loop-i.invariant ∙ message-skip c.args.t _ (state_in c.args.s.now).flight c.loop-i.i (omega arith)
    (λ e. c.if-due_at-t.false (c.due_at.ensures ∙ e))

pub returns-then-due_at-t : goal.returns-then-due_at-t
unfolding next_of next_at
returns-then-due_at-t c =
    sym (ap next_of (c.loop-i.invariant ∙ message-hit c.args.t _ (state_in c.args.s.now).flight c.loop-i.i (omega arith)
    (sym c.due_at.ensures ∙ c.if-due_at-t.true)))

pub loop-x-init : goal.loop-x-init
loop-x-init c = c.loop-i.invariant ∙ message-end c.args.t _ (state_in c.args.s.now).flight c.loop-i.i (omega arith)

pub overflow_add-t : goal.overflow_add-t
overflow_add-t c = omega (arith, c.requires.t_bound, (ready-plain _ c.requires.ready).end≤)

pub overflow_add-t-then-not-is_listed : goal.overflow_add-t-then-not-is_listed
overflow_add-t-then-not-is_listed c = omega (arith, c.requires.t_bound, (ready-plain _ c.requires.ready).end≤)

pub loop-x-preserved : goal.loop-x-preserved
loop-x-preserved c =
    let p = plan_in c.args.s.now in
    let z = state_in c.args.s.now in
    let l = c.loop-x in
    let h : l.x < length z.nodes = omega (arith, c.requires.ready.held.fits.nodes) in
    l.invariant ∙ elim c.if-not-is_listed.branch [
      | then-not-is_listed+else-a-t+else-a-t-2 w ↦
          live-skip p (ready-plain _ c.requires.ready) z.done z.nodes c.args.t l.x _ h w.node_at-a.ensures
          (listed-as p z.done c.args.dead l.x c.is_listed.ensures c.requires.dead_value w.if-not-is_listed.true) w.if-a-t.false w.if-a-t-2.false
      | else-not-is_listed w ↦
          dead-skip p (ready-plain _ c.requires.ready) z.done z.nodes c.args.t l.x h
          (listed-as p z.done c.args.dead l.x c.is_listed.ensures c.requires.dead_value w.if-not-is_listed.false)
    ]

pub returns-then-a-t : goal.returns-then-a-t
unfolding next_of next_at
returns-then-a-t c =
    let p = plan_in c.args.s.now in
    let z = state_in c.args.s.now in
    let l = c.loop-x in
    let h : l.x < length z.nodes = omega (arith, c.requires.ready.held.fits.nodes) in
    sym (ap next_of (l.invariant ∙ watch-hit p (ready-plain _ c.requires.ready) z.done z.nodes c.args.t l.x _ h c.node_at-a.ensures
    (listed-as p z.done c.args.dead l.x c.is_listed.ensures c.requires.dead_value c.if-not-is_listed.true) c.if-a-t.true))

pub returns-then-a-t-2 : goal.returns-then-a-t-2
unfolding next_of next_at
returns-then-a-t-2 c =
    let p = plan_in c.args.s.now in
    let z = state_in c.args.s.now in
    let l = c.loop-x in
    let h : l.x < length z.nodes = omega (arith, c.requires.ready.held.fits.nodes) in
    sym (ap next_of (l.invariant ∙ beat-hit p (ready-plain _ c.requires.ready) z.done z.nodes c.args.t l.x _ h c.node_at-a.ensures
    (listed-as p z.done c.args.dead l.x c.is_listed.ensures c.requires.dead_value c.if-not-is_listed.true) c.if-a-t.false c.if-a-t-2.true))

pub returns-after-loop-x : goal.returns-after-loop-x
unfolding next_of
returns-after-loop-x c =
    let p = plan_in c.args.s.now in
    let z = state_in c.args.s.now in
    let l = c.loop-x in
    let h : length z.nodes ≤ l.x = omega (arith, c.requires.ready.held.fits.nodes) in
    sym (ap next_of (l.invariant ∙ nodes-end p (ready-plain _ c.requires.ready) z.done z.nodes c.args.t l.x h))
