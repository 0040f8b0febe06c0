-- `event::do_event` meets its contract. Assumes nothing.
use Rattle.event.proofs.Doing.{next-crash, next-message, next-watch, next-heartbeat, next-none, ended-answer}
use Rattle.event.proofs.do_event.Goals as goal

pub do_crash-requires-clause-next_is : goal.do_crash-requires-clause-next_is
do_crash-requires-clause-next_is c = next-crash _ _ _ c.in-Some-Crash.field-0-is c.in-Some-Crash.ensures

pub do_message-requires-clause-next_is : goal.do_message-requires-clause-next_is
do_message-requires-clause-next_is c = next-message _ _ _ c.in-Some-Message.field-0-is c.in-Some-Message.ensures

pub do_watch-requires-clause-next_is : goal.do_watch-requires-clause-next_is
do_watch-requires-clause-next_is c = next-watch _ _ _ c.in-Some-Watch.field-0-is c.in-Some-Watch.ensures

pub do_heartbeat-requires-clause-next_is : goal.do_heartbeat-requires-clause-next_is
do_heartbeat-requires-clause-next_is c = next-heartbeat _ _ _ c.in-Some-Heartbeat.field-0-is c.in-Some-Heartbeat.ensures

pub returns-in-None : goal.returns-in-None
returns-in-None c = ended-answer _ _ _ c.requires.held.canonical (next-none _ c.in-None.ensures)
