-- `course::look::is_due` meets its contract. Assumes nothing.
use Rattle.event.proofs.Readiness.{acting-plain}
use Rattle.course.proofs.Looking.{due-dead, due-watch, due-beat}
use borrow.Author.Tests.{eq-eqb}
use native.Mathlib.Omega.{arith}
use Rattle.course.proofs.look.is_due.Goals as goal

pub returns-then-is_listed : goal.returns-then-is_listed
returns-then-is_listed c =
    let p = c.requires in
    due-dead _ (acting-plain _ p.acting) _ _ p.dead_value _ _ c.is_listed.ensures _ c.if-is_listed.true

pub overflow_add-t : goal.overflow_add-t
overflow_add-t c =
    let p = c.requires in
    omega (arith, p.t_bound, (acting-plain _ p.acting).end≤)

pub returns-then-a-t : goal.returns-then-a-t
returns-then-a-t c =
    let p = c.requires in
    let listed = c.is_listed.ensures in
    rw (eq-eqb _ _ c.if-a-t.true)
    (due-watch _ (acting-plain _ p.acting) _ _ p.dead_value _ _ listed _ c.if-is_listed.false _ c.node_at-a.ensures c.if-a-t.true)

pub overflow_add-result : goal.overflow_add-result
overflow_add-result c =
    let p = c.requires in
    omega (arith, p.t_bound, (acting-plain _ p.acting).end≤)

pub returns-else-a-t : goal.returns-else-a-t
returns-else-a-t c =
    let p = c.requires in
    due-beat _ (acting-plain _ p.acting) _ _ p.dead_value _ _ c.is_listed.ensures _ c.if-is_listed.false _ c.node_at-a.ensures
    c.if-a-t.false
