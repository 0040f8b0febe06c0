-- What stands after the platform's calls and the dispatcher's behind the pointers that were lent to them, for C, and what opening answers. Each
-- number behind a pointer is given for every answer, with `was` for what stood there before: an accepted call puts a value there, a refused one
-- leaves what was there, as 01 says: 'Nothing lent changes, but for a run's earlier events'. A call answers the number of its refusal, 0 where
-- there is none. Assumes nothing.
use Rattle.std.specs.Prelude.{cond, List, ℕ, ◌+◌, ◌*◌, eqb, Result, Ok, Err}
use Rattle.runfile.specs.declared.FileRefusal.{FileRefusal}
use Rattle.platform.specs.declared.Stepped.{Stepped}
use Rattle.platform.specs.declared.Stepped.TheVariants.{Did, Done}
use Rattle.platform.specs.declared.Ran.{Ran}
use Rattle.platform.specs.declared.Ran.TheVariants.{Done as Finished, Spent}
use Rattle.platform.specs.declared.RunRefusal.{RunRefusal}
use Rattle.dispatcher.specs.declared.Dispatched.{Dispatched}
use Rattle.limits.specs.declared.Refusal.{Refusal}
use Rattle.limits.specs.declared.Refusal.TheVariants.{TooMany}
use Rattle.limits.specs.Refusals.{number_of}

-- ---- opening, with no pointer: 'Each answers its number and, for files, the line (from 1, else 0)', both in one number

unfoldable pub number_and_line : Result (Unit {0}) FileRefusal → ℕ
number_and_line (Ok u) = 0
number_and_line (Err r) = number_of r.refusal + 256 * r.line

-- ---- step: which event by its letter (E or F where none is left), its tick, node and other, and the length of its line

unfoldable pub step_letter : Result Stepped Refusal → ℕ → ℕ
step_letter (Ok (Did line size)) was = line.letter
step_letter (Ok (Done line size)) was = line.letter
step_letter (Err r) was = was

unfoldable pub step_tick : Result Stepped Refusal → ℕ → ℕ
step_tick (Ok (Did line size)) was = line.tick
step_tick (Ok (Done line size)) was = line.tick
step_tick (Err r) was = was

unfoldable pub step_node : Result Stepped Refusal → ℕ → ℕ
step_node (Ok (Did line size)) was = line.node
step_node (Ok (Done line size)) was = line.node
step_node (Err r) was = was

unfoldable pub step_other : Result Stepped Refusal → ℕ → ℕ
step_other (Ok (Did line size)) was = line.other
step_other (Ok (Done line size)) was = line.other
step_other (Err r) was = was

unfoldable pub step_size : Result Stepped Refusal → ℕ → ℕ
step_size (Ok (Did line size)) was = size
step_size (Ok (Done line size)) was = size
step_size (Err r) was = was

-- ---- run: the events done, and 1 where the budget is spent and another event remains

-- 'At a refused event it answers 8 with the events done', which it keeps; on 7 there are none to keep, and the number is left
unfoldable pub run_events : Result Ran RunRefusal → ℕ → ℕ
run_events (Ok (Finished events)) was = events
run_events (Ok (Spent events)) was = events
run_events (Err r) was = cond (eqb (number_of r.refusal) (number_of TooMany)) r.events was

unfoldable pub run_spent : Result Ran RunRefusal → ℕ → ℕ
run_spent (Ok (Finished events)) was = 0
run_spent (Ok (Spent events)) was = 1
run_spent (Err r) was = was

-- ---- the run-file writer: the file's length

unfoldable pub write_size : Result ℕ Refusal → ℕ → ℕ
write_size (Ok size) was = size
write_size (Err r) was = was

-- ---- the dispatcher: the turns given, the events of each of eight stores, and which are stopped; a refused call leaves them

unfoldable pub dispatch_turns : Result Dispatched Refusal → ℕ → ℕ
dispatch_turns (Ok a) was = a.turns
dispatch_turns (Err r) was = was

unfoldable pub dispatch_events : Result Dispatched Refusal → List ℕ → List ℕ
dispatch_events (Ok a) was = a.events
dispatch_events (Err r) was = was

unfoldable pub dispatch_stopped : Result Dispatched Refusal → ℕ → ℕ
dispatch_stopped (Ok a) was = a.stopped
dispatch_stopped (Err r) was = was
