-- The four public calls: opening, step, run and the run-file writer, as document 01's 'The platform' and 'Where a call is turned down'
-- state them. Each definition gives, for every input, the answer and every byte that was lent for writing. A call that is refused leaves
-- what it was lent, but for a run's earlier events. Assumes nothing.
use Rattle.std.specs.Prelude.{cond, List, ℕ, eqb, ltb, length, Result, Ok, Err}
use Rattle.text.specs.Put.{put}
use Rattle.logline.specs.Line.{line_text}
use Rattle.plans.specs.Plan.{Plan}
use Rattle.runfile.specs.Text.{plan_text}
use Rattle.runfile.specs.File.{FileAnswer, accepted, file_of, turned_down}
use Rattle.limits.specs.Limits.{store_size, log_room, file_room}
use Rattle.limits.specs.declared.Refusal.{Refusal}
use Rattle.limits.specs.declared.Refusal.TheVariants.{BadStore, TooMany, ShortPart}
use Rattle.limits.specs.Refusals.{number_of}
use Rattle.std.proofs.Math.Option.{Option as Maybe, none, some}
use Rattle.model.specs.Platform.{State, Entry, Outcome, did, ended, refused, start, next_event, try, steps, event_count}
use Rattle.model.specs.Platform.{run_answer, spent, finished, overfull, Ending}
use Rattle.model.specs.Lines.{line_of, event_lines, last_line, lines_text}
use Rattle.store.specs.Store.{encode, plan_in, state_in, store_in_range}
use Rattle.runfile.specs.declared.FileRefusal.{FileRefusal}
use Rattle.platform.specs.declared.Stepped.{Stepped}
use Rattle.platform.specs.declared.Stepped.TheVariants.{Did, Done}
use Rattle.platform.specs.declared.Ran.{Ran}
use Rattle.platform.specs.declared.Ran.TheVariants.{Done as Finished, Spent}
use Rattle.platform.specs.declared.RunRefusal.{RunRefusal}

-- ---- opening

pub record AfterOpen : Type 0 where
  pub answer : Result (Unit {0}) FileRefusal
  pub store : List ℕ

-- 'opening tests only its length'; 7 has no line
unfoldable pub open_plan : Plan → List ℕ → AfterOpen
open_plan p store =
    cond (eqb (length store) store_size)
    (record { answer = Ok tt; store = encode p (start p) })
    (record { answer = Err (record { refusal = BadStore; line = 0 }); store = store })

-- the file is tried before the store
unfoldable pub open_answer : FileAnswer → List ℕ → AfterOpen
open_answer (turned_down refusal line) store = record { answer = Err (record { refusal = refusal; line = line }); store = store }
open_answer (accepted p) store = open_plan p store

unfoldable pub open_file : List ℕ → List ℕ → AfterOpen
open_file file store = open_answer (file_of file) store

-- ---- step

pub record AfterStep : Type 0 where
  pub answer : Result Stepped Refusal
  pub store : List ℕ
  pub log : List ℕ

-- 'A step does one event, answers it and writes its line, or answers done, leaves the store and writes the last line when none is left
-- up to the end tick. The log part after the line is unchanged.'
unfoldable pub step_outcome : Plan → State → Outcome → List ℕ → List ℕ → AfterStep
step_outcome p s (did e s') store log =
    let text : List ℕ = lines_text (event_lines p s s' e) in
    record { answer = Ok (Did (line_of p s s' e.tick e.event) (length text)); store = encode p s'; log = put log 0 text }
step_outcome p s ended store log =
    let text : List ℕ = line_text (last_line p s) in
    record { answer = Ok (Done (last_line p s) (length text)); store = store; log = put log 0 text }
step_outcome p s refused store log = record { answer = Err TooMany; store = store; log = log }

-- of what a store holds
abbrev pub step_next : List ℕ → List ℕ → AfterStep
step_next store log = step_outcome (plan_in store) (state_in store) (try (plan_in store) (state_in store)) store log

-- 7, then 9, then 8
unfoldable pub step : List ℕ → List ℕ → AfterStep
step store log =
    cond (store_in_range store)
    (cond (ltb (length log) log_room)
    (record { answer = Err ShortPart; store = store; log = log })
    (step_next store log))
    (record { answer = Err BadStore; store = store; log = log })

-- ---- run

pub record AfterRun : Type 0 where
  pub answer : Result Ran RunRefusal
  pub store : List ℕ

-- 'answers done or spent, with the events it did'; 'At a refused event it answers 8 with the events done'
unfoldable pub ran : Ending → ℕ → Result Ran RunRefusal
ran finished events = Ok (Finished events)
ran spent events = Ok (Spent events)
ran overfull events = Err (record { refusal = TooMany; events = events })

-- the store after the budget's events, or after those before the first that is not done
unfoldable pub run_state : Plan → State → ℕ → AfterRun
run_state p s budget = record { answer = ran (run_answer p budget s) (event_count p budget s); store = encode p (steps p budget s) }

-- of what a store holds
abbrev pub run_next : List ℕ → ℕ → AfterRun
run_next store budget = run_state (plan_in store) (state_in store) budget

-- 7 comes with no events
unfoldable pub run : List ℕ → ℕ → AfterRun
run store budget =
    cond (store_in_range store)
    (run_next store budget)
    (record { answer = Err (record { refusal = BadStore; events = 0 }); store = store })

-- what a run answers whose whole budget is done: whether another event remains
unfoldable pub remains : Maybe Entry → ℕ → Ran
remains none budget = Finished budget
remains (some e) budget = Spent budget

abbrev pub budget_answer : List ℕ → ℕ → Ran
budget_answer store budget = remains (next_event (plan_in store) (state_in store)) budget

-- ---- the run-file writer

pub record AfterWrite : Type 0 where
  pub answer : Result ℕ Refusal
  pub out : List ℕ

-- 'puts a store's P, C and L lines into a lent part and leaves the rest of that part'; 7, then 9
unfoldable pub write_file : List ℕ → List ℕ → AfterWrite
write_file store out =
    let text : List ℕ = plan_text (plan_in store) in
    cond (store_in_range store)
    (cond (ltb (length out) file_room)
    (record { answer = Err ShortPart; out = out })
    (record { answer = Ok (length text); out = put out 0 text }))
    (record { answer = Err BadStore; out = out })

-- ---- the number that refuses a call, 0 where it is not refused

unfoldable pub open_refusal : Result (Unit {0}) FileRefusal → ℕ
open_refusal (Ok u) = 0
open_refusal (Err r) = number_of r.refusal

unfoldable pub run_refusal : Result Ran RunRefusal → ℕ
run_refusal (Ok a) = 0
run_refusal (Err r) = number_of r.refusal

-- the events that a run answers
unfoldable pub events_done : Result Ran RunRefusal → ℕ
events_done (Ok (Finished n)) = n
events_done (Ok (Spent n)) = n
events_done (Err r) = r.events
