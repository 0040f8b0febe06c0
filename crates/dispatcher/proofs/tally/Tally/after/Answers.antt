-- `dispatcher::tally::Tally::after` meets its contract. Assumes nothing.
use Rattle.std.proofs.Common.{◌≡◌, arith}
use Rattle.platform.specs.Calls.{events_done}
use Rattle.dispatcher.specs.Tally.{goes_on, is_stopped, after_ran}
use Rattle.dispatcher.proofs.tally.Tally.after.Goals as goal
use Rattle.dispatcher.proofs.tally.Tally.after.Goals.{in-Ok-Spent, in-Ok-Done, in-Err}

pub overflow_add-result : goal.overflow_add-result
unfolding events_done
overflow_add-result c = elim c.match-ran.branch [
  | in-Ok-Spent w ↦
      let e = rw w.in-Ok-Spent.is at w.in-Ok-Spent.field-0-is in
      let same : c.match-ran.able.2 ≡ events_done c.args.ran = rw (w.able-is, w.in-Ok-Spent.is, e) in
      omega (arith, same, c.requires)
  | in-Ok-Done w ↦
      let e = rw w.in-Ok-Done.is at w.in-Ok-Done.field-0-is in
      let same : c.match-ran.able.2 ≡ events_done c.args.ran = rw (w.able-is, w.in-Ok-Done.is, e) in
      omega (arith, same, c.requires)
  | in-Err w ↦
      let same : c.match-ran.able.2 ≡ events_done c.args.ran = rw (w.able-is, w.in-Err.is) in
      omega (arith, same, c.requires)
]

pub returns : goal.returns
unfolding after_ran goes_on is_stopped events_done
returns c = elim c.match-ran.branch [
  | in-Ok-Spent w ↦ (let e = rw w.in-Ok-Spent.is at w.in-Ok-Spent.field-0-is in rw (w.able-is, w.in-Ok-Spent.is, e))
  | in-Ok-Done w ↦ (let e = rw w.in-Ok-Done.is at w.in-Ok-Done.field-0-is in rw (w.able-is, w.in-Ok-Done.is, e))
  | in-Err w ↦ rw (w.able-is, w.in-Err.is)
]
