-- THE THREE DEMANDS of the customer's terms, and what request 104 of document 02 claims, each as a record of what holds of the calls' definitions,
-- which the calls' contracts promise for every input; what requests 106, 107 and 109 claim are parts of these. proofs/Theorems.antt proves them.
-- Assumes nothing.
use Rattle.std.specs.Prelude.{◌≡◌, ◌≢◌, ◌⊎◌, Bool, true, false, cond, not, ◌&&◌, ℕ, ◌+◌}
use Rattle.std.specs.Prelude.{◌/◌, ◌%◌, ◌^◌, ◌≤◌, ◌<◌, eqb, leb, ltb, length, get_or, take, Option, Some, None, Result, Ok, Err}
use mathlib.Core.List.{List, [], ◌∷◌, Memᴰ}
use Rattle.std.proofs.Math.Option.{Option as Maybe, none, some}
use Rattle.limits.specs.Limits.{most_nodes, most_in_flight, log_room, record_size, store_size, file_room}
use Rattle.limits.specs.declared.Refusal.{Refusal}
use Rattle.limits.specs.declared.Refusal.TheVariants.{BadLength, BadForm, OutOfRange, NotRising, ManyDelays, TooMany, NotEachOnce}
use Rattle.limits.specs.Refusals.{number_of, answer_of}
use Rattle.ring.specs.Ring.{numbers, table_answer}
use Rattle.text.specs.Put.{put}
use Rattle.text.specs.Number.{decimal}
use Rattle.text.specs.Hex.{hex_of}
use Rattle.plans.specs.Plan.{Plan, start_plan, order_of, plan_test}
use Rattle.runfile.specs.Text.{plan_text}
use Rattle.runfile.specs.File.{FileAnswer, accepted, turned_down, file_of}
use Rattle.runfile.specs.declared.FileRefusal.{FileRefusal}
use Rattle.logline.specs.declared.Line.{Line}
use Rattle.logline.specs.Line.{letter_e, letter_f, ranges, within, read_of, fields as columns_of, line_text, written_of, out_of}
use Rattle.model.specs.Platform.{State, Entry, next_event, apply, Outcome, did, ended, refused, try, steps, event_count, run_answer, first_events, after}
use Rattle.model.specs.Lines.{line_of, event_lines, last_line, lines_text, lines_from}
use Rattle.model.specs.Claims.{CrashedAre, Safe, LogRoundedUp, K, Settles, Joins, Completes}
use Rattle.host.specs.Record.{decode, openable, sound}
use Rattle.host.specs.Call.{tick_taken, message_taken, open_answer, open_leaves, deliver_answer, deliver_leaves, deliver_sends}
use Rattle.host.specs.Call.{timers_answer, timers_leaves, timers_sends}
use Rattle.store.specs.Store.{encode, plan_in, state_in, store_in_range}
use Rattle.platform.specs.declared.Stepped.{Stepped}
use Rattle.platform.specs.declared.Stepped.TheVariants.{Did, Done}
use Rattle.platform.specs.declared.Ran.{Ran}
use Rattle.platform.specs.declared.Ran.TheVariants.{Done as Finished, Spent}
use Rattle.platform.specs.declared.RunRefusal.{RunRefusal}
use Rattle.platform.specs.Calls.{open_file, step, ran, run, write_file, open_refusal, run_refusal, events_done}
use Rattle.platform.specs.CallLists.{Call, store_after_all, NoneAnswers, events_of}
use Rattle.dispatcher.specs.declared.Dispatched.{Dispatched}
use Rattle.dispatcher.specs.Dispatch.{part_in_range, dispatch}
use Rattle.dispatcher.specs.Claims.{Dispatches}
use Rattle.dispatcher.specs.PartCalls.{PartCall, stores_after_all, calls_on, NoCallAnswers, LentCall, AllAround, store_after_all_lent, lent_calls}
use Rattle.rehearsal.specs.Part.{WholeOutput}
use Rattle.planner.specs.Answers.{number_and_line, step_letter, step_tick, step_node, step_other, step_size, run_events, run_spent, write_size}
use Rattle.planner.specs.Answers.{dispatch_turns, dispatch_events, dispatch_stopped}
use Rattle.demands.specs.Nodes.{NodeCall, leaves, SameAsNodes}

-- ---- DEMAND 1: 'Refused by number, with nothing lent to the call written .. All else is accepted, and every call returns, with no duty on
-- the caller beforehand'. That a call returns whatever it is lent is in its contract, which asks for nothing.

-- a place of 01's table 'Where a call is turned down': whether its rule is broken, and its number
pub record Place : Type 0 where
  pub broken : Bool
  pub number : ℕ

abbrev pub place : Bool → ℕ → Place
place broken number = record { broken = broken; number = number }

-- 'Places are tried downwards': the number of the first whose rule is broken, 0 where none is
unfoldable pub first_broken : List Place → ℕ
first_broken [] = 0
first_broken (x ∷ xs) = cond x.broken x.number (first_broken xs)

-- a call is refused by the first place whose rule it breaks, accepted where it breaks none, and a refused one leaves what it was lent
pub record TurnsDown (number : ℕ) (places : List Place) (Untouched : Type 0) : Type 0 where
  pub first : number ≡ first_broken places
  pub untouched : number ≢ 0 → Untouched

-- opening: the file's own number, then the store's length
unfoldable pub file_number : FileAnswer → ℕ
file_number (accepted p) = 0
file_number (turned_down refusal line) = number_of refusal

unfoldable pub open_places : List ℕ → List ℕ → List Place
open_places file store =
    let number : ℕ = file_number (file_of file) in
    place (not (eqb number 0)) number ∷ place (not (eqb (length store) store_size)) 7 ∷ []

-- the next event would leave 'more than 2,048 in flight after it'
unfoldable pub overfull_by : Plan → State → Maybe Entry → Bool
overfull_by p s none = false
overfull_by p s (some e) = ltb most_in_flight (length (apply p s e.tick e.event).flight)

unfoldable pub overfull : Plan → State → Bool
overfull p s = overfull_by p s (next_event p s)

unfoldable pub step_places : List ℕ → List ℕ → List Place
step_places store log =
    place (not (store_in_range store)) 7 ∷ place (ltb (length log) 80) 9 ∷ place (overfull (plan_in store) (state_in store)) 8 ∷ []

-- a run stands before such an event with some of its budget left
unfoldable pub stopped : Plan → State → ℕ → Bool
stopped p s budget = ltb (event_count p budget s) budget && overfull p (steps p budget s)

unfoldable pub run_places : List ℕ → ℕ → List Place
run_places store budget = place (not (store_in_range store)) 7 ∷ place (stopped (plan_in store) (state_in store) budget) 8 ∷ []

-- 'Nothing lent changes, but for a run's earlier events': a refused run leaves what a run of just these events leaves
unfoldable pub KeepsEarlier : List ℕ → ℕ → Type 0
KeepsEarlier store budget = (run store budget).store ≡ (run store (events_done (run store budget).answer)).store

unfoldable pub write_places : List ℕ → List ℕ → List Place
write_places store out = place (not (store_in_range store)) 7 ∷ place (ltb (length out) 65536) 9 ∷ []

-- the dispatcher: 'the part empty or above eight stores', then 'turn length outside its range', 'both before any store is read. Then 7, for a
-- part that isn't whole stores or for any store in it'
unfoldable pub dispatch_places : List ℕ → ℕ → List Place
dispatch_places part turn_length =
    place (not (leb 1 (length part) && leb (length part) 524288)) 14
    ∷ place (not (leb 1 turn_length && leb turn_length 1000)) 15 ∷ place (not (part_in_range part)) 7 ∷ []

-- node calls: 'A node call tries 10, 12, 11, then 9'; opening 10, then 3
unfoldable pub record_places : List ℕ → ℕ → ℕ → ℕ → ℕ → List Place
record_places s number nodes h w = place (not (eqb (length s) record_size)) 10 ∷ place (not (openable number nodes h w)) 3 ∷ []

unfoldable pub deliver_places : List ℕ → ℕ → ℕ → ℕ → ℕ → ℕ → List ℕ → List Place
deliver_places s tick kind sender subject list part =
    place (not (sound s)) 10 ∷ place (not (tick_taken (decode s) tick)) 12
    ∷ place (not (message_taken (decode s) kind sender subject list)) 11 ∷ place (ltb (length part) 112) 9 ∷ []

unfoldable pub timers_places : List ℕ → ℕ → List ℕ → List Place
timers_places s tick part = place (not (sound s)) 10 ∷ place (not (tick_taken (decode s) tick)) 12 ∷ place (ltb (length part) 112) 9 ∷ []

-- a call on a record after it was opened, at a tick, with a message part; and the record after such calls, refused ones included, each with
-- the record that the last one left
pub record RecordCall : Type 0 where
  pub call : NodeCall
  pub tick : ℕ
  pub part : List ℕ

unfoldable pub record_after_all : List RecordCall → List ℕ → List ℕ
record_after_all [] s = s
record_after_all (c ∷ cs) s = record_after_all cs (leaves c.call c.tick s c.part)

-- the log writer: letter, range, part
unfoldable pub letter_unknown : Option (ℕ × ℕ) → Bool
letter_unknown (Some highest) = false
letter_unknown None = true

unfoldable pub outside : Option (ℕ × ℕ) → Line → Bool
outside (Some (node, other)) l = not (within l node other)
outside None l = true

unfoldable pub line_places : Line → List ℕ → List Place
line_places l out =
    place (letter_unknown (ranges l.letter)) 2 ∷ place (outside (ranges l.letter) l) 3 ∷ place (ltb (length out) 80) 9 ∷ []

-- 'N outside 1 to 64, or a list with a bit from N on, is refused by 3'
unfoldable pub table_places : ℕ → ℕ → List Place
table_places n d = place (not (leb 1 n && leb n most_nodes)) 3 ∷ place (not (ltb d (2 ^ n))) 3 ∷ []

-- no call gives number 4, of no file, whatever it is lent; opening neither where it answers number and line in one, for C
pub record NeverFour : Type 0 where
  pub reading : (file : List ℕ) → file_number (file_of file) ≢ 4
  pub opening : (file store : List ℕ) → open_refusal (open_file file store).answer ≢ 4
  pub opening_c : (file store : List ℕ) → number_and_line (open_file file store).answer % 256 ≢ 4
  pub stepping : (store log : List ℕ) → answer_of (step store log).answer ≢ 4
  pub running : (store : List ℕ) (budget : ℕ) → run_refusal (run store budget).answer ≢ 4
  pub writing : (store out : List ℕ) → answer_of (write_file store out).answer ≢ 4
  pub dispatching : (part : List ℕ) (turn_length turns : ℕ) → answer_of (dispatch part turn_length turns).answer ≢ 4
  pub node_open : (s : List ℕ) (number nodes h w : ℕ) → open_answer s number nodes h w ≢ 4
  pub node_deliver : (s : List ℕ) (tick kind sender subject list : ℕ) (part : List ℕ) → deliver_answer s tick kind sender subject list part ≢ 4
  pub node_timers : (s : List ℕ) (tick : ℕ) (part : List ℕ) → timers_answer s tick part ≢ 4
  pub line_reading : (text : List ℕ) → answer_of (read_of text) ≢ 4
  pub line_writing : (l : Line) (out : List ℕ) → answer_of (written_of l (length out)) ≢ 4
  pub table : (n d : ℕ) → answer_of (table_answer n d) ≢ 4

pub record Demand1 : Type 0 where
  -- a run file is accepted exactly where it is the text of a plan that the rules allow
  pub file_taken : (p : Plan) → plan_test p ≡ true → file_of (plan_text p) ≡ accepted p
  -- so is any P line by itself whose numbers are in their ranges. REQUEST 109: W may be below H + D
  pub start_taken : (n h w d end : ℕ) → (1 ≤ n) × (n ≤ 64) → (1 ≤ h) × (h ≤ 1000) → (1 ≤ w) × (w ≤ 65535) → (1 ≤ d) × (d ≤ 255)
      → end ≤ 1000000
      → file_of (plan_text (start_plan n h w d end)) ≡ accepted (start_plan n h w d end)
  -- 'run file, length: 0 or above 65,536 bytes' is refused by 1 and line 0, and any other bad file by 2, 3, 5, 6 or 13 and a line from 1 on
  pub file_length : (file : List ℕ) → (leb 1 (length file) && leb (length file) 65536) ≡ false → file_of file ≡ turned_down BadLength 0
  pub file_number : (file : List ℕ) (refusal : Refusal) (line : ℕ) → file_of file ≡ turned_down refusal line
      → (leb 1 (length file) && leb (length file) 65536) ≡ true
      → Memᴰ refusal (BadForm ∷ OutOfRange ∷ NotRising ∷ ManyDelays ∷ NotEachOnce ∷ []) × (1 ≤ line) × (line ≤ 65536)
  pub file_only : (file : List ℕ) (p : Plan) → file_of file ≡ accepted p → (plan_text p ≡ file) × (plan_test p ≡ true)
  -- the platform's calls
  pub opening : (file store : List ℕ)
      → TurnsDown (open_refusal (open_file file store).answer) (open_places file store) ((open_file file store).store ≡ store)
  pub stepping : (store log : List ℕ)
      → TurnsDown (answer_of (step store log).answer) (step_places store log) (((step store log).store ≡ store) × ((step store log).log ≡ log))
  pub running : (store : List ℕ) (budget : ℕ) → TurnsDown (run_refusal (run store budget).answer) (run_places store budget) (KeepsEarlier store budget)
  pub bad_store : (store : List ℕ) (budget : ℕ) → store_in_range store ≡ false → (run store budget).store ≡ store
  pub writing : (store out : List ℕ) → TurnsDown (answer_of (write_file store out).answer) (write_places store out) ((write_file store out).out ≡ out)
  -- the dispatcher's call, which 7 refuses whole: no store in its part changes
  pub dispatching : (part : List ℕ) (turn_length turns : ℕ)
      → TurnsDown (answer_of (dispatch part turn_length turns).answer) (dispatch_places part turn_length) ((dispatch part turn_length turns).part ≡ part)
  -- for files the line is answered too, in C both in one number
  pub opening_line : (file store : List ℕ) (refusal : Refusal) (line : ℕ) → file_of file ≡ turned_down refusal line
      → (open_file file store).answer ≡ Err (record { refusal = refusal; line = line })
  pub opening_number : (file store : List ℕ) (r : FileRefusal) → (open_file file store).answer ≡ Err r
      → (1 ≤ number_of r.refusal) × (number_and_line (open_file file store).answer % 256 ≡ number_of r.refusal)
      × (number_and_line (open_file file store).answer / 256 ≡ r.line)
  -- the numbers behind the pointers of the calls from C stay as they were, but for a run's earlier events
  pub step_numbers : (a : Result Stepped Refusal) (was : ℕ) → answer_of a ≢ 0
      → (step_letter a was ≡ was) × (step_tick a was ≡ was) × (step_node a was ≡ was) × (step_other a was ≡ was) × (step_size a was ≡ was)
  pub run_numbers : (a : Result Ran RunRefusal) (was : ℕ) → run_refusal a ≢ 0
      → (run_spent a was ≡ was) × (run_events a was ≡ cond (eqb (run_refusal a) 8) (events_done a) was)
  pub write_numbers : (a : Result ℕ Refusal) (was : ℕ) → answer_of a ≢ 0 → write_size a was ≡ was
  pub dispatch_numbers : (a : Result Dispatched Refusal) (was : ℕ) (wases : List ℕ) → answer_of a ≢ 0
      → (dispatch_turns a was ≡ was) × (dispatch_events a wases ≡ wases) × (dispatch_stopped a was ≡ was)
  -- a host's calls
  pub node_open : (s : List ℕ) (number nodes h w : ℕ)
      → TurnsDown (open_answer s number nodes h w) (record_places s number nodes h w) (open_leaves s number nodes h w ≡ s)
  pub node_deliver : (s : List ℕ) (tick kind sender subject list : ℕ) (part : List ℕ)
      → TurnsDown (deliver_answer s tick kind sender subject list part) (deliver_places s tick kind sender subject list part)
      ((deliver_leaves s tick kind sender subject list part ≡ s) × (deliver_sends s tick kind sender subject list part ≡ part))
  pub node_timers : (s : List ℕ) (tick : ℕ) (part : List ℕ)
      → TurnsDown (timers_answer s tick part) (timers_places s tick part) ((timers_leaves s tick part ≡ s) × (timers_sends s tick part ≡ part))
  -- 'as is an opened record and every one that accepted calls then leave': no record that the rules lead to is refused by 10
  pub records_stay : (s : List ℕ) (number nodes h w : ℕ) → open_answer s number nodes h w ≡ 0
      → (cs : List RecordCall) → sound (record_after_all cs (open_leaves s number nodes h w)) ≡ true
  -- log lines and forwarding tables
  pub line_taken : (l : Line) → letter_unknown (ranges l.letter) ≡ false → outside (ranges l.letter) l ≡ false → l.list < 2 ^ 64
      → read_of (line_text l) ≡ Ok l
  pub line_number : (text : List ℕ) (refusal : Refusal) → read_of text ≡ Err refusal → (refusal ≡ BadForm) ⊎ (refusal ≡ OutOfRange)
  pub line_only : (text : List ℕ) (l : Line) → read_of text ≡ Ok l
      → (line_text l ≡ text) × (letter_unknown (ranges l.letter) ≡ false) × (outside (ranges l.letter) l ≡ false)
  pub line_writing : (l : Line) (out : List ℕ) → TurnsDown (answer_of (written_of l (length out))) (line_places l out) (out_of l out ≡ out)
  pub table : (n d : ℕ) → answer_of (table_answer n d) ≡ first_broken (table_places n d)
  -- REQUEST 109: 'Number 4 is given no longer, and that shall be shown'
  pub never_four : NeverFour

-- ---- DEMAND 2: 'Every event does what the ring detector of Bosilca et al. does, as document 01 fixes it, in 01's order, and writes 01's
-- line of five columns. A run file or log that is read and written again has the same bytes'

-- a file's store as opening leaves it, after some calls
abbrev pub store_of : List ℕ → List ℕ → List Call → List ℕ
store_of file store cs = store_after_all cs (open_file file store).store

-- 'A step does one event, answers it and writes its line, or answers done': the event's own line, and how many bytes all its lines have
unfoldable pub step_answer : Plan → State → Outcome → Result Stepped Refusal
step_answer p s (did e s') = Ok (Did (line_of p s s' e.tick e.event) (length (lines_text (event_lines p s s' e))))
step_answer p s ended = Ok (Done (last_line p s) (length (line_text (last_line p s))))
step_answer p s refused = Err TooMany

-- the next call on a store, whose plan is p and whose state is s, does the next events that 01 fixes
pub record NextEvents (p : Plan) (s : State) (store : List ℕ) : Type 0 where
  -- a step does one, answers it and writes its lines, or answers done with the last line where none is left
  pub step_store : (log : List ℕ) → log_room ≤ length log → (step store log).store ≡ encode p (steps p 1 s)
  pub step_lines : (log : List ℕ) → log_room ≤ length log → (step store log).log ≡ put log 0 (lines_text (lines_from p 1 s))
  pub step_answers : (log : List ℕ) → log_room ≤ length log → (step store log).answer ≡ step_answer p s (try p s)
  -- a run does its budget's, and answers how many it did
  pub run_store : (budget : ℕ) → (run store budget).store ≡ encode p (steps p budget s)
  pub run_answers : (budget : ℕ) → (run store budget).answer ≡ ran (run_answer p budget s) (event_count p budget s)

-- behind the pointers of an accepted step from C stand its own line's letter, tick, node and other and the length of all its lines
abbrev pub StepPuts : Result Stepped Refusal → Line → ℕ → ℕ → Type 0
StepPuts a l size was =
    (step_letter a was ≡ l.letter) × (step_tick a was ≡ l.tick) × (step_node a was ≡ l.node) × (step_other a was ≡ l.other)
    × (step_size a was ≡ size)

pub record Demand2 : Type 0 where
  -- 'We choose time-outs by rehearsal, and one that differs from the nodes chooses wrongly': what is rehearsed is what the nodes do, in a
  -- ring in number order, as node records are
  pub nodes : (file : List ℕ) (p : Plan) → file_of file ≡ accepted p → order_of p ≡ numbers 0 p.n → SameAsNodes p
  -- events and lines
  pub events : (file store : List ℕ) (p : Plan) → file_of file ≡ accepted p → length store ≡ store_size
      → (cs : List Call) → NextEvents p (after p (events_of p cs)) (store_of file store cs)
  -- of every lent store in range, also one that no file leads to
  pub lent_events : (store : List ℕ) → ((i : ℕ) → get_or store i 0 < 256) → store_in_range store ≡ true
      → NextEvents (plan_in store) (state_in store) store
  -- what an accepted call from C puts behind its pointers
  pub step_puts : (l : Line) (size was : ℕ) → StepPuts (Ok (Did l size)) l size was × StepPuts (Ok (Done l size)) l size was
  pub run_puts : (n was : ℕ) → ((run_events (Ok (Finished n)) was ≡ n) × (run_spent (Ok (Finished n)) was ≡ 0))
      × ((run_events (Ok (Spent n)) was ≡ n) × (run_spent (Ok (Spent n)) was ≡ 1))
  pub write_puts : (n was : ℕ) → write_size (Ok n) was ≡ n
  pub dispatch_puts : (a : Dispatched) (was : ℕ) (wases : List ℕ)
      → (dispatch_turns (Ok a) was ≡ a.turns) × (dispatch_events (Ok a) wases ≡ a.events) × (dispatch_stopped (Ok a) was ≡ a.stopped)
  -- every line of an event, and the last line, is one that the log reader takes, and such a line has five columns
  pub lines : (file : List ℕ) (p : Plan) → file_of file ≡ accepted p → (k : ℕ) (e : Entry) (s' : State) → try p (after p k) ≡ did e s'
      → (l : Line) → Memᴰ l (event_lines p (after p k) s' e) → read_of (line_text l) ≡ Ok l
  pub last_lines : (file : List ℕ) (p : Plan) → file_of file ≡ accepted p → (k : ℕ)
      → let l : Line = last_line p (after p k) in read_of (line_text l) ≡ Ok l
  -- REQUEST 109: its letter is E where W is at least H + D, and otherwise F, whatever came before
  pub last_letters : (p : Plan) (s : State)
      → (p.h + p.d ≤ p.w → (last_line p s).letter ≡ letter_e) × (p.w < p.h + p.d → (last_line p s).letter ≡ letter_f)
  -- 'the log reader takes F as E', and so do the writer and the columns, which go by the same ranges
  pub last_ranges : ranges letter_f ≡ ranges letter_e
  pub columns : (text : List ℕ) (l : Line) → read_of text ≡ Ok l
      → columns_of text ≡ (l.letter ∷ []) ∷ decimal l.tick ∷ decimal l.node ∷ decimal l.other ∷ hex_of 16 l.list ∷ []
  -- the rehearsal program: all that it writes of an input is the refusal's number and line, or the whole log
  pub program : WholeOutput
  -- a run file that is read and written again, whatever calls came between
  pub file_again : (file store : List ℕ) (p : Plan) → file_of file ≡ accepted p → length store ≡ store_size
      → (cs : List Call) (out : List ℕ) → file_room ≤ length out
      → write_file (store_of file store cs) out ≡ record { answer = Ok (length file); out = put out 0 file }
  -- a log's line that is read and written again, and one that is written and read
  pub line_again : (text : List ℕ) (l : Line) (out : List ℕ) → read_of text ≡ Ok l → log_room ≤ length out
      → (written_of l (length out) ≡ Ok (length text)) × (out_of l out ≡ put out 0 text)
  pub line_back : (l : Line) (out : List ℕ) (size : ℕ) → written_of l (length out) ≡ Ok size → l.list < 2 ^ 64
      → read_of (take size (out_of l out)) ≡ Ok l

-- ---- DEMAND 3: 'Between two crashes, the platform settles and no live node is ever listed'

-- what holds besides of the state s after any calls where W is at least H + D: 'The absence of live nodes from lists is claimed for E runs only'
pub record AfterCallsE (p : Plan) (s : State) : Type 0 where
  -- no node's list holds a live node
  pub safe : Safe p s
  -- where each crash done came at least S ticks after the one before, and S ticks have passed since the last, every survivor lists
  -- exactly the crashed nodes, emits to the next survivor and observes the one before
  pub settles : Settles p s
  -- REQUEST 106: however close the crashes done came, the last of the f at tick c, where no event due by tick c + 2 × W × f + D is left every
  -- survivor's emitter and observer are the neighbouring survivors
  pub joins : Joins p s
  -- REQUEST 107: with m survivors, at least one, and no event left that is due by (m − 1) × (H + D) ticks after that, every survivor lists exactly
  -- the crashed nodes
  pub completes : Completes p s

-- `store` is what any list of steps and runs, refused ones included, leaves of a store just opened from a file whose plan is p
pub record AfterCalls (p : Plan) (cs : List Call) (store : List ℕ) : Type 0 where
  -- the events done are the first e, and the store is the encoding of the state after them
  pub events : store ≡ encode p (after p (events_of p cs))
  -- it holds that file's plan
  pub plan : plan_in store ≡ p
  -- crashed is each node whose C line's event is among them
  pub crashed : CrashedAre p (first_events p (events_of p cs)) (state_in store)
  -- REQUEST 109: where W is at least H + D, so that the run's last line has the letter E, that no live node is listed, and what rests on it. All else
  -- holds whatever W is
  pub ending : p.h + p.d ≤ p.w → AfterCallsE p (state_in store)
  -- it is in range, the cap on the next number included
  pub in_range : store_in_range store ≡ true

-- a store as opening leaves it, from an accepted file whose plan is p and a lent store of its length
pub record JustOpened (p : Plan) (store : List ℕ) : Type 0 where
  pub file : List ℕ
  pub lent : List ℕ
  pub taken : file_of file ≡ accepted p
  pub size : length lent ≡ store_size
  pub opened : store ≡ (open_file file lent).store

-- stores that stand one after another, each just opened, the one at index i from a file whose plan is plans i
abbrev pub AllOpened : (ℕ → Plan) → List (List ℕ) → Type 0
AllOpened plans bs = (i : ℕ) → i < length bs → JustOpened (plans i) (get_or bs i [])

-- of every file that is accepted and every lent store of its length
pub record Demand3 : Type 0 where
  -- K in S is the base-two logarithm, rounded up, 0 for none
  pub logarithm : (m : ℕ) → LogRoundedUp m (K m)
  pub opens : (file store : List ℕ) (p : Plan) → file_of file ≡ accepted p → length store ≡ store_size → (open_file file store).answer ≡ Ok tt
  -- what opening any accepted file leaves is a store just opened, as `parts` takes them
  pub just_opened : (file store : List ℕ) (p : Plan) → file_of file ≡ accepted p → length store ≡ store_size
      → JustOpened p (open_file file store).store
  pub left : (file store : List ℕ) (p : Plan) → file_of file ≡ accepted p → length store ≡ store_size
      → (cs : List Call) → AfterCalls p cs (store_of file store cs)
  pub none_seven : (file store : List ℕ) (p : Plan) → file_of file ≡ accepted p → length store ≡ store_size
      → (cs : List Call) → NoneAnswers 7 cs (open_file file store).store
  -- the same where the store is one of several and the calls include the dispatcher's, over any of them in a row: what any such list leaves of a
  -- store is what the steps and runs leave that it comes to for that store, with a run for each accepted call of the dispatcher over it
  pub parts : (bs : List (List ℕ)) (plans : ℕ → Plan) → AllOpened plans bs → (cs : List PartCall) (i : ℕ) → i < length bs
      → (get_or (stores_after_all cs bs) i [] ≡ store_after_all (calls_on i cs bs) (get_or bs i []))
      × AfterCalls (plans i) (calls_on i cs bs) (get_or (stores_after_all cs bs) i [])
  pub parts_none_seven : (bs : List (List ℕ)) (plans : ℕ → Plan) → AllOpened plans bs → (cs : List PartCall) → NoCallAnswers 7 cs bs
  -- the same of one store, whatever stands around it in the parts that are lent to the dispatcher: stores of other files, opened anew or moved
  -- between two calls, stores that no file leads to, or bytes that are no store
  pub among : (file store : List ℕ) (p : Plan) → file_of file ≡ accepted p → length store ≡ store_size → (cs : List LentCall) → AllAround cs
      → let opened : List ℕ = (open_file file store).store in
      (store_after_all_lent cs opened ≡ store_of file store (lent_calls cs opened)) × AfterCalls p (lent_calls cs opened) (store_after_all_lent cs opened)

-- ---- REQUEST 104: 'A dispatcher over up to eight opened stores, lent one after another in one part'

pub record Request104 : Type 0 where
  -- of every lent part that is not refused, also of stores that no file leads to: the turns that the call gives, whose they are, how long a store
  -- waits for its own, and what it holds after them
  pub dispatched : (part : List ℕ) → ((i : ℕ) → get_or part i 0 < 256) → (turn_length turns : ℕ)
      → (a : Dispatched) → (dispatch part turn_length turns).answer ≡ Ok a → Dispatches part turn_length turns a
