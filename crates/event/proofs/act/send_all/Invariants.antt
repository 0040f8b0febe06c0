-- `event::act::send_all` meets its contract. The loop's invariant: the messages before this one are sent. Assumes nothing.
use Rattle.event.proofs.Turning.{Sending}
use Rattle.event.proofs.act.send_all.Given as goal

abbrev pub invariant-loop-m : goal.invariant-loop-m
invariant-loop-m l = Sending l.fn.s l.t l.x l.fn.u.sent l.m-index l.s
