-- Demand 2: the events and lines of the calls on a store just opened from an accepted file, and what is read and written again.
-- Assumes nothing.
use mathlib.Core.Path.{◌≡◌, refl, sym, ap, ◌∙◌, subst}
use mathlib.Core.Bool.{Bool, true, false}
use mathlib.Core.List.{List, [], ◌∷◌, ◌++◌, append-nil, Memᴰ}
use Prim.Native.Nat.{ℕ, ◌+◌, ◌^◌, ◌≤◌, ◌<◌}
use native.Mathlib.Nat.{pow-le-pow_right}
use native.Mathlib.Omega.{arith}
use native.Mathlib.Decide.{dec_lt}
use lib.Dec.{lit<}
use borrow.Author.Tests.{le-ltb}
use lib.ListN.{length, get_or, get_or-eq_default}
use Rattle.limits.specs.Limits.{log_room, store_size, file_room}
use Rattle.text.specs.Put.{put}
use Rattle.logline.specs.declared.Line.{Line}
use Rattle.std.specs.Prelude.{Ok}
use Rattle.logline.specs.Line.{letter_e, letter_f, ranges, line_text, read_of}
use Rattle.logline.proofs.LineTrip.{text-accepted}
use Rattle.plans.specs.Plan.{Plan}
use Rattle.runfile.specs.File.{accepted, file_of}
use Rattle.runfile.proofs.RoundTrip.{written_back, accepted-plan}
use Rattle.node.specs.Node.{alone}
use Rattle.model.specs.Platform.{State, Event, Entry, crash, message, watch, heartbeat, Outcome, did, ended, refused, alive, node_of, message_at, received}
use Rattle.model.specs.Platform.{try, left, steps, after}
use Rattle.model.specs.Lines.{event_lines, last_line, lines_from, crash_deed, message_deed, watch_deed, heartbeat_deed, deed_of, lines_text}
use Rattle.plans.proofs.Facts.{plan-plain}
use Rattle.plans.specs.Plain.{Plain}
use Rattle.model.specs.Range.{Sound}
use Rattle.model.proofs.RangesKept.{try_ok, left-range, after-range}
use Rattle.store.specs.Store.{encode, plan_in, state_in, store_in_range}
use Rattle.model.proofs.SettledNode.{crashed-lt}
use Rattle.model.proofs.Lines.{lines-list, did-in-ranges, last-in-ranges, letter-long, letter-short}
use Rattle.platform.specs.declared.Stepped.TheVariants.{Did, Done}
use Rattle.platform.specs.declared.Ran.TheVariants.{Done as Finished, Spent}
use Rattle.planner.specs.Answers.{step_letter, step_tick, step_node, step_other, step_size, run_events, run_spent, write_size}
use Rattle.planner.specs.Answers.{dispatch_turns, dispatch_events, dispatch_stopped}
use Rattle.dispatcher.specs.declared.Dispatched.{Dispatched}
use Rattle.platform.specs.Calls.{AfterStep, AfterRun, step_outcome, step, run_state, write_file}
use Rattle.platform.specs.CallLists.{Call, events_of}
use Rattle.platform.proofs.Stores.{lends, Holds, plan-of, state-of, in-range, step_in, run_in, write-in, outcome-store}
use Rattle.platform.proofs.CallLists.{after_small, after_holds}
use Rattle.demands.specs.Demands.{store_of, step_answer, NextEvents, StepPuts}
use Rattle.demands.proofs.Demand3.{good, called}

-- an outcome's log is what one try writes
outcome-log : (p : Plan) (s : State) (o : Outcome) (store log : List ℕ) → (step_outcome p s o store log).log
    ≡ put log 0 (lines_text (elim o [ did e s' ↦ event_lines p s s' e ++ [] | ended ↦ last_line p s ∷ [] | refused ↦ [] ]))
unfolding step_outcome lines_text put
outcome-log p s (did e s') store log = ap (λ (ls : List Line). put log 0 (lines_text ls)) (sym (append-nil (event_lines p s s' e)))
outcome-log p s ended store log = ap (put log 0) (sym (append-nil (line_text (last_line p s))))
outcome-log p s refused store log = refl

outcome-answer : (p : Plan) (s : State) (o : Outcome) (store log : List ℕ) → (step_outcome p s o store log).answer ≡ step_answer p s o
unfolding step_outcome step_answer
outcome-answer p s (did e s') store log = refl
outcome-answer p s ended store log = refl
outcome-answer p s refused store log = refl

module _ (b : List ℕ) (p : Plan) (s : State) (held : b ≡ encode p s) (inside : store_in_range b ≡ true) (plan : plan_in b ≡ p)
    (state : state_in b ≡ s) where
  stepped : (log : List ℕ) → log_room ≤ length log → step b log ≡ step_outcome p s (try p s) b log
  stepped log room = step_in b p s inside plan state log ∙ rw (le-ltb (length log) log_room room) refl

  next_of : NextEvents p s b
  unfolding steps lines_from run_state
  next_of = record {
    step_store = λ log room.
        ap (λ (a : AfterStep). a.store) (stepped log room)
        ∙ ap (λ (c : List ℕ). (step_outcome p s (try p s) c log).store) held
        ∙ outcome-store p s (try p s) log;
    step_lines = λ log room. ap (λ (a : AfterStep). a.log) (stepped log room) ∙ outcome-log p s (try p s) b log;
    step_answers = λ log room. ap (λ (a : AfterStep). a.answer) (stepped log room) ∙ outcome-answer p s (try p s) b log;
    run_store = λ budget. ap (λ (a : AfterRun). a.store) (run_in b p s inside plan state budget);
    run_answers = λ budget. ap (λ (a : AfterRun). a.answer) (run_in b p s inside plan state budget);
  }

pub lent-events : (store : List ℕ) → ((i : ℕ) → get_or store i 0 < 256) → store_in_range store ≡ true
    → NextEvents (plan_in store) (state_in store) store
lent-events store byte ok = next_of store (plan_in store) (state_in store) (lends store byte ok).held.canonical ok refl refl

module _ (file store : List ℕ) (p : Plan) (ok : file_of file ≡ accepted p) (size : length store ≡ store_size) (cs : List Call) where
  abbrev b : List ℕ
  b = store_of file store cs

  abbrev s : State
  s = after p (events_of p cs)

  held : b ≡ encode p s
  held = called file store p ok size cs

  holds : Holds p s
  holds = after_holds p (good file store p ok size) (events_of p cs)

  inside : store_in_range b ≡ true
  inside = ap store_in_range held ∙ in-range p s holds (after_small p (good file store p ok size) (events_of p cs))

  plan : plan_in b ≡ p
  plan = ap plan_in held ∙ plan-of p s holds

  state : state_in b ≡ s
  state = ap state_in held ∙ state-of p s holds

  pub next-events : NextEvents p s b
  next-events = next_of b p s held inside plan state

  pub file-again : (out : List ℕ) → file_room ≤ length out → write_file b out ≡ record { answer = Ok (length file); out = put out 0 file }
  file-again out room =
      write-in b p s inside plan state out room
      ∙ ap (λ (text : List ℕ). record { answer = Ok (length text); out = put out 0 text }) (written_back file p ok)

-- ---- every line of an event is one that the reader takes

-- a node's list has 64 bits at most
list-small : (p : Plan) → Plain p → (s : State) → Sound p s → (x : ℕ) → (node_of s x).list < 2 ^ 64
list-small p pl s r x = go (dec_lt x p.n)
  where
    go : Dec (x < p.n) → (node_of s x).list < 2 ^ 64
    go (yes h) = omega (arith, (r.fields x h).list, pow-le-pow_right {n = 2} (lit< tt) pl.n≤)
    go (no h) = rw (get_or-eq_default s.nodes (alone x 0 0) {n = x} (rw r.nodes (omega arith))) (lit< tt)

deed-list : (p : Plan) → Plain p → (s s' : State) → Sound p s' → (t : ℕ) (e : Event) → (deed_of p s s' t e).list < 2 ^ 64
unfolding deed_of crash_deed message_deed watch_deed heartbeat_deed
deed-list p pl s s' r t (crash k) = list-small p pl s' r k
deed-list p pl s s' r t (message i) = go (alive p s.done (message_at s i).to)
  where
    to : ℕ
    to = (message_at s i).to

    go : (live : Bool) → (message_deed t (message_at s i) live (node_of s to) (node_of s' to) (received p s t (message_at s i)).passed).list < 2 ^ 64
    go true = list-small p pl s' r to
    go false = list-small p pl s' r to
deed-list p pl s s' r t (watch x) = list-small p pl s' r x
deed-list p pl s s' r t (heartbeat x) = list-small p pl s' r x

pub line_read : (file : List ℕ) (p : Plan) → file_of file ≡ accepted p → (k : ℕ) (e : Entry) (s' : State) → try p (after p k) ≡ did e s'
    → (l : Line) → Memᴰ l (event_lines p (after p k) s' e) → read_of (line_text l) ≡ Ok l
unfolding left
line_read file p ok k e s' h l m =
    let pl : Plain p = plan-plain p (accepted-plan file p ok) in
    let s : State = after p k in
    let r : Sound p s = after-range p pl k in
    let r' : Sound p s' = subst (λ (o : Outcome). Sound p (left s o)) h (left-range p pl s r (try p s) (try_ok p pl s r)) in
    let list : l.list ≡ (deed_of p s s' e.tick e.event).list = lines-list _ l m in
    text-accepted l (did-in-ranges p pl s r e s' h l m) (rw list (deed-list p pl s s' r' e.tick e.event))

-- ---- and so is the last line

pub last-read : (file : List ℕ) (p : Plan) → file_of file ≡ accepted p → (k : ℕ)
    → let l : Line = last_line p (after p k) in read_of (line_text l) ≡ Ok l
unfolding last_line
last-read file p ok k =
    let pl : Plain p = plan-plain p (accepted-plan file p ok) in
    let s : State = after p k in
    let l : Line = last_line p s in
    let small = crashed-lt p (plan-plain p (accepted-plan file p ok)) s.done in
    text-accepted l (last-in-ranges p pl s (after-range p pl k)) (omega (arith, small, pow-le-pow_right {n = 2} (lit< tt) pl.n≤))

-- its letter
pub last-letters : (p : Plan) (s : State)
    → (p.h + p.d ≤ p.w → (last_line p s).letter ≡ letter_e) × (p.w < p.h + p.d → (last_line p s).letter ≡ letter_f)
unfolding last_line
last-letters p s = (letter-long p, letter-short p)

pub last-ranges : ranges letter_f ≡ ranges letter_e
unfolding ranges
last-ranges = refl

-- ---- what stands behind the pointers of accepted calls from C

pub step-puts : (l : Line) (size was : ℕ) → StepPuts (Ok (Did l size)) l size was × StepPuts (Ok (Done l size)) l size was
unfolding step_letter step_tick step_node step_other step_size
step-puts l size was = ((refl, refl, refl, refl, refl), (refl, refl, refl, refl, refl))

pub run-puts : (n was : ℕ) → ((run_events (Ok (Finished n)) was ≡ n) × (run_spent (Ok (Finished n)) was ≡ 0))
    × ((run_events (Ok (Spent n)) was ≡ n) × (run_spent (Ok (Spent n)) was ≡ 1))
unfolding run_events run_spent
run-puts n was = ((refl, refl), (refl, refl))

pub write-puts : (n was : ℕ) → write_size (Ok n) was ≡ n
unfolding write_size
write-puts n was = refl

pub dispatch-puts : (a : Dispatched) (was : ℕ) (wases : List ℕ)
    → (dispatch_turns (Ok a) was ≡ a.turns) × (dispatch_events (Ok a) wases ≡ a.events) × (dispatch_stopped (Ok a) was ≡ a.stopped)
unfolding dispatch_turns dispatch_events dispatch_stopped
dispatch-puts a was wases = (refl, refl, refl)
