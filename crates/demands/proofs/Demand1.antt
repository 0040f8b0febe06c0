-- Demand 1: what is refused, by which number, and that a refused call leaves what it was lent. Assumes nothing.
use mathlib.Core.Path.{◌≡◌, refl, sym, ap, ◌∙◌}
use mathlib.Core.Logic.{◌≢◌, ◌⊎◌, inl, inr}
use mathlib.Core.Bool.{Bool, true, false, true≢false, cond, not, ◌&&◌, ◌||◌}
use mathlib.Mathlib.Data.Bool.Basic.{or-eq-false-eq-eq-false-and-eq-false}
use mathlib.Core.List.{List, [], ◌∷◌}
use mathlib.Core.Option.{Option as Maybe, none, some}
use Prim.Native.Nat.{ℕ, zero, suc, ◌%◌, ◌^◌, ◌≤◌, ◌<◌}
use native.Mathlib.Omega.{arith}
use borrow.Author.Tests.{ltb-true, ltb-false, lt-ltb, le-ltb, le-leb, lt-leb, eqb-false, ne_eqb, not-false}
use lib.Dec.{eqb, leb, ltb}
use lib.ListN.{length}
use Rattle.std.specs.Prelude.{Option, Some, None, Result, Ok, Err}
use Rattle.limits.specs.Limits.{most_nodes, most_in_flight, record_size, store_size}
use Rattle.limits.specs.declared.Refusal.{Refusal}
use Rattle.limits.specs.declared.Refusal.TheVariants.{BadLength, BadForm, OutOfRange, BadStore, ShortPart, BadPart, BadTurn}
use Rattle.limits.specs.Refusals.{number_of, answer_of}
use Rattle.ring.specs.Ring.{each_once, table_answer}
use Rattle.text.specs.Put.{put}
use Rattle.plans.specs.Plan.{Plan, start_plan, within as between, start_ranges, ring_test, crash_test, every, crash_order, rising, none_twice, delay_test}
use Rattle.plans.specs.Plan.{delay_order, few_delays, plan_test}
use Rattle.runfile.specs.Text.{plan_text}
use Rattle.runfile.specs.File.{FileAnswer, accepted as accepted_file, turned_down, file_of}
use Rattle.runfile.proofs.RoundTrip.{read_back}
use Rattle.runfile.proofs.Refusals.{refusal-small}
use Rattle.logline.specs.declared.Line.{Line}
use Rattle.logline.specs.Line.{ranges, within, read_of, line_text, written_in, written_of, holds, out_of}
use Rattle.logline.proofs.LineTrip.{read-trip, text-accepted, refused-number}
use Rattle.model.specs.Platform.{State, start, Entry, Outcome, did, ended, refused, Ending, spent, finished, overfull as overfull_run}
use Rattle.model.specs.Platform.{next_event, apply, fits, tried, try, left, steps, event_count, run_answer}
use Rattle.model.proofs.Calls.{stuck, counted}
use Rattle.host.specs.Call.{answer, record_after, part_after, open_answer, open_leaves}
use Rattle.host.specs.Call.{deliver_answer, deliver_leaves, deliver_sends, timers_answer, timers_leaves, timers_sends}
use Rattle.host.specs.Record.{openable, sound}
use Rattle.host.proofs.Range.{opened-in-range, deliver-stays, timers-stay}
use Rattle.node.specs.Node.{Turn}
use Rattle.store.specs.Store.{encode, plan_in, state_in, store_in_range}
use Rattle.runfile.specs.declared.FileRefusal.{FileRefusal}
use Rattle.platform.specs.declared.Stepped.{Stepped}
use Rattle.platform.specs.declared.Stepped.TheVariants.{Did, Done}
use Rattle.platform.specs.declared.Ran.{Ran}
use Rattle.platform.specs.declared.Ran.TheVariants.{Done as Finished, Spent}
use Rattle.platform.specs.declared.RunRefusal.{RunRefusal}
use Rattle.platform.specs.Calls.{AfterOpen, AfterStep, AfterRun, AfterWrite, open_plan, open_answer as file_answer, open_file, step_outcome}
use Rattle.platform.specs.Calls.{step, ran, run_state, run, write_file, open_refusal, run_refusal, events_done}
use Rattle.platform.proofs.Stores.{ran-done}
use Rattle.platform.proofs.Opening.{opening-small}
use Rattle.dispatcher.specs.declared.Dispatched.{Dispatched}
use Rattle.dispatcher.specs.Dispatch.{AfterDispatch, gave, turned_down as turned_down_part, part_in_range, dispatch}
use Rattle.planner.specs.Answers.{number_and_line, step_letter, step_tick, step_node, step_other, step_size, run_events, run_spent, write_size}
use Rattle.planner.specs.Answers.{dispatch_turns, dispatch_events, dispatch_stopped}
use Rattle.demands.specs.Demands.{Place, place, first_broken, TurnsDown, file_number, open_places, overfull_by, overfull, step_places, stopped}
use Rattle.demands.specs.Demands.{run_places, KeepsEarlier, write_places, dispatch_places}
use Rattle.demands.specs.Nodes.{NodeCall, deliver, timers, leaves}
use Rattle.demands.specs.Demands.{RecordCall, record_after_all, record_places, deliver_places, timers_places}
use Rattle.demands.specs.Demands.{letter_unknown, outside, line_places, table_places, NeverFour}

-- ---- tests

-- a < b is that b ≤ a does not hold
below : (a b : ℕ) → ltb a b ≡ not (leb b a)
below a b = go (ltb a b) refl
  where
    go : (t : Bool) → ltb a b ≡ t → t ≡ not (leb b a)
    go true e = sym (ap not (lt-leb b a (ltb-true a b e)))
    go false e = sym (ap not (le-leb b a (ltb-false a b e)))

below_suc : (a b : ℕ) → ltb (suc a) (suc b) ≡ ltb a b
below_suc a b = go (ltb a b) refl
  where
    go : (t : Bool) → ltb a b ≡ t → ltb (suc a) (suc b) ≡ t
    go true e = lt-ltb (suc a) (suc b) (omega (arith, ltb-true a b e))
    go false e = le-ltb (suc a) (suc b) (omega (arith, ltb-false a b e))

-- ---- events

-- an outcome that is refused
unfoldable is_refused : Outcome → Bool
is_refused (did e s') = false
is_refused ended = false
is_refused refused = true

unfoldable is_overfull : Ending → Bool
is_overfull spent = false
is_overfull finished = false
is_overfull overfull_run = true

module _ (p : Plan) where
  -- an event is refused exactly where it would leave more than 2,048 in flight
  refused-overfull : (s : State) → is_refused (try p s) ≡ overfull p s
  unfolding is_refused try tried fits overfull overfull_by
  refused-overfull s = go (next_event p s)
    where
      go : (o : Maybe Entry) → is_refused (tried p s o) ≡ overfull_by p s o
      go none = refl
      go (some e) =
          let count : ℕ = length (apply p s e.tick e.event).flight in
          by (leb count most_in_flight) ∙ sym (below most_in_flight count)
        where
          by : (t : Bool) → is_refused (cond t (did e (apply p s e.tick e.event)) refused) ≡ not t
          by true = refl
          by false = refl

  -- a run ends so exactly where it stands before such an event with some of its budget left
  overfull-stopped : (k : ℕ) (s : State) → is_overfull (run_answer p k s) ≡ stopped p s k
  unfolding is_overfull is_refused run_answer stopped event_count steps left
  overfull-stopped zero s = go (next_event p s)
    where
      go : (o : Maybe Entry) → is_overfull (elim o [ none ↦ finished | some e ↦ spent ]) ≡ false
      go none = refl
      go (some e) = refl
  overfull-stopped (suc k) s = go (try p s) refl (overfull-stopped k)
    where
      standing : (o : Outcome) → try p s ≡ o → left s o ≡ s → is_refused o ≡ (ltb zero (suc k) && overfull p (steps p k (left s o)))
      standing o q h =
          ap is_refused (sym q) ∙ refused-overfull s ∙ ap (overfull p) (sym (ap (steps p k) h ∙ stuck p k s (ap (left s) q ∙ h)))
          ∙ ap (λ (t : Bool). t && overfull p (steps p k (left s o))) (sym (lt-ltb zero (suc k) (omega arith)))

      go : (o : Outcome) → try p s ≡ o → ((s' : State) → is_overfull (run_answer p k s') ≡ (ltb (event_count p k s') k && overfull p (steps p k s')))
          → is_overfull (elim o [ did e s' ↦ run_answer p k s' | ended ↦ finished | refused ↦ overfull_run ])
          ≡ (ltb (elim o [ did e s' ↦ suc (event_count p k s') | ended ↦ zero | refused ↦ zero ]) (suc k) && overfull p (steps p k (left s o)))
      go (did e s') q ih = ih s' ∙ ap (λ (t : Bool). t && overfull p (steps p k s')) (sym (below_suc (event_count p k s') k))
      go ended q ih = standing ended q refl
      go refused q ih = standing refused q refl

  outcome-down : (s : State) (o : Outcome) (store log : List ℕ) → answer_of (step_outcome p s o store log).answer ≡ cond (is_refused o) 8 0
  unfolding step_outcome is_refused
  outcome-down s (did e s') store log = refl
  outcome-down s ended store log = refl
  outcome-down s refused store log = refl

  outcome-left : (s : State) (o : Outcome) (store log : List ℕ) → answer_of (step_outcome p s o store log).answer ≢ 0
      → ((step_outcome p s o store log).store ≡ store) × ((step_outcome p s o store log).log ≡ log)
  unfolding step_outcome
  outcome-left s (did e s') store log h = absurd (h refl)
  outcome-left s ended store log h = absurd (h refl)
  outcome-left s refused store log h = (refl, refl)

ran-down : (a : Ending) (n : ℕ) → run_refusal (ran a n) ≡ cond (is_overfull a) 8 0
unfolding run_refusal ran is_overfull
ran-down spent n = refl
ran-down finished n = refl
ran-down overfull_run n = refl

-- ---- the platform's calls

-- a P line by itself
pub start-taken : (n h w d end : ℕ) → (1 ≤ n) × (n ≤ 64) → (1 ≤ h) × (h ≤ 1000) → (1 ≤ w) × (w ≤ 65535) → (1 ≤ d) × (d ≤ 255)
    → end ≤ 1000000
    → file_of (plan_text (start_plan n h w d end)) ≡ accepted_file (start_plan n h w d end)
unfolding start_plan plan_test start_ranges between ring_test crash_test every crash_order rising none_twice each_once delay_test delay_order few_delays
start-taken n h w d end hn hh hw hd he =
    read_back (start_plan n h w d end)
    (rw (
      le-leb 1 n hn.0,
      le-leb n 64 hn.1,
      le-leb 1 h hh.0,
      le-leb h 1000 hh.1,
      le-leb 1 w hw.0,
      le-leb w 65535 hw.1,
      le-leb 1 d hd.0,
      le-leb d 255 hd.1,
      le-leb 0 end (omega arith),
      le-leb end 1000000 he,
    ) refl)

pub file-length : (file : List ℕ) → (leb 1 (length file) && leb (length file) 65536) ≡ false → file_of file ≡ turned_down BadLength 0
unfolding file_of between
file-length file e = rw e refl

pub open-down : (file store : List ℕ)
    → TurnsDown (open_refusal (open_file file store).answer) (open_places file store) ((open_file file store).store ≡ store)
unfolding open_file file_answer open_plan open_places open_refusal file_number first_broken
open-down file store = go (file_of file) refl
  where
    tested : (p : Plan) (same : Bool) → AfterOpen
    tested p same = cond same (record { answer = Ok tt; store = encode p (start p) })
        (record { answer = Err (record { refusal = BadStore; line = 0 }); store = store })

    by : (p : Plan) (same : Bool)
        → TurnsDown (open_refusal (tested p same).answer) (place false 0 ∷ place (not same) 7 ∷ []) ((tested p same).store ≡ store)
    by p true = record { first = refl; untouched = λ h. absurd (h refl) }
    by p false = record { first = refl; untouched = λ h. refl }

    go : (a : FileAnswer) → file_of file ≡ a
        → TurnsDown (open_refusal (file_answer a store).answer)
        (place (not (eqb (file_number a) 0)) (file_number a) ∷ place (not (eqb (length store) store_size)) 7 ∷ [])
        ((file_answer a store).store ≡ store)
    go (accepted_file p) e = by p (eqb (length store) store_size)
    go (turned_down refusal line) e = record {
      first = rw (ne_eqb (number_of refusal) 0 (not-zero (refusal-small file refusal line e).0)) refl;
      untouched = λ h. refl;
    }
      where
        not-zero : 1 ≤ number_of refusal → number_of refusal ≡ 0 → ⊥
        not-zero h z = omega arith

pub step_down : (store log : List ℕ)
    → TurnsDown (answer_of (step store log).answer) (step_places store log) (((step store log).store ≡ store) × ((step store log).log ≡ log))
unfolding step step_places first_broken
step_down store log = go (store_in_range store) (ltb (length log) 80)
  where
    p : Plan
    p = plan_in store

    s : State
    s = state_in store

    after : Bool → Bool → AfterStep
    after ok short =
        cond ok (cond short (record { answer = Err ShortPart; store = store; log = log }) (step_outcome p s (try p s) store log))
        (record { answer = Err BadStore; store = store; log = log })

    go : (ok short : Bool)
        → TurnsDown (answer_of (after ok short).answer) (place (not ok) 7 ∷ place short 9 ∷ place (overfull p s) 8 ∷ [])
        (((after ok short).store ≡ store) × ((after ok short).log ≡ log))
    go false short = record { first = refl; untouched = λ h. (refl, refl) }
    go true true = record { first = refl; untouched = λ h. (refl, refl) }
    go true false = record {
      first = outcome-down p s (try p s) store log ∙ ap (λ (t : Bool). cond t 8 0) (refused-overfull p s);
      untouched = outcome-left p s (try p s) store log;
    }

pub run_down : (store : List ℕ) (budget : ℕ) → TurnsDown (run_refusal (run store budget).answer) (run_places store budget) (KeepsEarlier store budget)
unfolding run run_state run_places first_broken run_refusal KeepsEarlier
run_down store budget = go (store_in_range store) refl
  where
    p : Plan
    p = plan_in store

    s : State
    s = state_in store

    after : Bool → ℕ → AfterRun
    after ok n = cond ok (run_state p s n) (record { answer = Err (record { refusal = BadStore; events = 0 }); store = store })

    go : (ok : Bool) → store_in_range store ≡ ok
        → TurnsDown (run_refusal (after ok budget).answer) (place (not ok) 7 ∷ place (stopped p s budget) 8 ∷ [])
        ((after ok budget).store ≡ (after ok (events_done (after ok budget).answer)).store)
    go false e = record { first = refl; untouched = λ h. refl }
    go true e = record {
      first = ran-down (run_answer p budget s) (event_count p budget s) ∙ ap (λ (t : Bool). cond t 8 0) (overfull-stopped p budget s);
      untouched = λ h. ap (encode p) (counted p budget s ∙ ap (λ (n : ℕ). steps p n s) (sym (ran-done (run_answer p budget s) (event_count p budget s))));
    }

pub run-bad-store : (store : List ℕ) (budget : ℕ) → store_in_range store ≡ false → (run store budget).store ≡ store
unfolding run
run-bad-store store budget e = rw e

pub write-down : (store out : List ℕ)
    → TurnsDown (answer_of (write_file store out).answer) (write_places store out) ((write_file store out).out ≡ out)
unfolding write_file write_places first_broken
write-down store out = go (store_in_range store) (ltb (length out) 65536)
  where
    text : List ℕ
    text = plan_text (plan_in store)

    after : Bool → Bool → AfterWrite
    after ok short =
        cond ok (cond short (record { answer = Err ShortPart; out = out }) (record { answer = Ok (length text); out = put out 0 text }))
        (record { answer = Err BadStore; out = out })

    go : (ok short : Bool) → TurnsDown (answer_of (after ok short).answer) (place (not ok) 7 ∷ place short 9 ∷ []) ((after ok short).out ≡ out)
    go false short = record { first = refl; untouched = λ h. refl }
    go true true = record { first = refl; untouched = λ h. refl }
    go true false = record { first = refl; untouched = λ h. absurd (h refl) }

pub dispatch-down : (part : List ℕ) (turn_length turns : ℕ)
    → TurnsDown (answer_of (dispatch part turn_length turns).answer) (dispatch_places part turn_length) ((dispatch part turn_length turns).part ≡ part)
unfolding dispatch between dispatch_places first_broken gave
dispatch-down part turn_length turns =
    go (leb 1 (length part) && leb (length part) 524288) (leb 1 turn_length && leb turn_length 1000) (part_in_range part)
  where
    after : Bool → Bool → Bool → AfterDispatch
    after few short ok =
        cond few (cond short (cond ok (gave part turn_length turns) (turned_down_part BadStore part)) (turned_down_part BadTurn part))
        (turned_down_part BadPart part)

    go : (few short ok : Bool) → TurnsDown (answer_of (after few short ok).answer) (place (not few) 14 ∷ place (not short) 15 ∷ place (not ok) 7 ∷ [])
        ((after few short ok).part ≡ part)
    go false short ok = record { first = refl; untouched = λ h. refl }
    go true false ok = record { first = refl; untouched = λ h. refl }
    go true true false = record { first = refl; untouched = λ h. refl }
    go true true true = record { first = refl; untouched = λ h. absurd (h refl) }

-- ---- for files, the line; for C, the numbers behind pointers

pub open-line : (file store : List ℕ) (refusal : Refusal) (line : ℕ) → file_of file ≡ turned_down refusal line
    → (open_file file store).answer ≡ Err (record { refusal = refusal; line = line })
unfolding open_file file_answer
open-line file store refusal line e = rw e refl

pub step-numbers : (a : Result Stepped Refusal) (was : ℕ) → answer_of a ≢ 0
    → (step_letter a was ≡ was) × (step_tick a was ≡ was) × (step_node a was ≡ was) × (step_other a was ≡ was) × (step_size a was ≡ was)
unfolding step_letter step_tick step_node step_other step_size
step-numbers (Ok (Did line size)) was h = absurd (h refl)
step-numbers (Ok (Done line size)) was h = absurd (h refl)
step-numbers (Err r) was h = (refl, refl, refl, refl, refl)

pub run-numbers : (a : Result Ran RunRefusal) (was : ℕ) → run_refusal a ≢ 0
    → (run_spent a was ≡ was) × (run_events a was ≡ cond (eqb (run_refusal a) 8) (events_done a) was)
unfolding run_refusal run_spent run_events events_done
run-numbers (Ok (Finished n)) was h = absurd (h refl)
run-numbers (Ok (Spent n)) was h = absurd (h refl)
run-numbers (Err r) was h = (refl, refl)

pub write-numbers : (a : Result ℕ Refusal) (was : ℕ) → answer_of a ≢ 0 → write_size a was ≡ was
unfolding write_size
write-numbers (Ok size) was h = absurd (h refl)
write-numbers (Err r) was h = refl

pub dispatch-numbers : (a : Result Dispatched Refusal) (was : ℕ) (wases : List ℕ) → answer_of a ≢ 0
    → (dispatch_turns a was ≡ was) × (dispatch_events a wases ≡ wases) × (dispatch_stopped a was ≡ was)
unfolding dispatch_turns dispatch_events dispatch_stopped
dispatch-numbers (Ok a) was wases h = absurd (h refl)
dispatch-numbers (Err r) was wases h = (refl, refl, refl)

-- ---- a host's calls

-- what a call answers, by its four tests, is the first that fails
answer-down : (a b c d : Bool) → answer a b c d ≡ first_broken (place (not a) 10 ∷ place (not b) 12 ∷ place (not c) 11 ∷ place (not d) 9 ∷ [])
unfolding answer first_broken
answer-down false b c d = refl
answer-down true false c d = refl
answer-down true true false d = refl
answer-down true true true false = refl
answer-down true true true true = refl

timers-down : (a b d : Bool) → answer a b true d ≡ first_broken (place (not a) 10 ∷ place (not b) 12 ∷ place (not d) 9 ∷ [])
unfolding answer first_broken
timers-down false b d = refl
timers-down true false d = refl
timers-down true true false = refl
timers-down true true true = refl

-- a call that is not accepted leaves the record and the part
call-left : (a : ℕ) (s part : List ℕ) (tick : ℕ) (u : Turn) → a ≢ 0 → (record_after a s tick u ≡ s) × (part_after a s part u ≡ part)
unfolding record_after part_after
call-left a s part tick u h = rw (ne_eqb a 0 h) (refl, refl)

pub open-record-down : (s : List ℕ) (number nodes h w : ℕ)
    → TurnsDown (open_answer s number nodes h w) (record_places s number nodes h w) (open_leaves s number nodes h w ≡ s)
unfolding open_answer open_leaves record_places first_broken
open-record-down s number nodes h w = record {
  first = by (eqb (length s) record_size) (openable number nodes h w);
  untouched = λ n. rw (ne_eqb (open_answer s number nodes h w) 0 n);
}
  where
    by : (a b : Bool) → ◌≡◌ {A = ℕ} (cond a (cond b 0 3) 10) (cond (not a) 10 (cond (not b) 3 0))
    by false b = refl
    by true false = refl
    by true true = refl

pub deliver-down : (s : List ℕ) (tick kind sender subject list : ℕ) (part : List ℕ)
    → TurnsDown (deliver_answer s tick kind sender subject list part) (deliver_places s tick kind sender subject list part)
    ((deliver_leaves s tick kind sender subject list part ≡ s) × (deliver_sends s tick kind sender subject list part ≡ part))
unfolding deliver_answer deliver_leaves deliver_sends deliver_places
deliver-down s tick kind sender subject list part = record {
  first = rw (below (length part) 112) (answer-down _ _ _ _);
  untouched = λ h. call-left _ s part tick _ h;
}

pub fire-down : (s : List ℕ) (tick : ℕ) (part : List ℕ)
    → TurnsDown (timers_answer s tick part) (timers_places s tick part) ((timers_leaves s tick part ≡ s) × (timers_sends s tick part ≡ part))
unfolding timers_answer timers_leaves timers_sends timers_places
fire-down s tick part = record {
  first = rw (below (length part) 112) (timers-down _ _ _);
  untouched = λ h. call-left _ s part tick _ h;
}

-- an accepted call leaves a record in range, a refused one leaves it as it was
leaves-sound : (c : NodeCall) (tick : ℕ) (s part : List ℕ) → sound s ≡ true → sound (leaves c tick s part) ≡ true
unfolding leaves
leaves-sound (deliver kind sender subject list) tick s part e = deliver-stays s tick kind sender subject list part e
leaves-sound timers tick s part e = timers-stay s tick part e

all_sound : (cs : List RecordCall) (s : List ℕ) → sound s ≡ true → sound (record_after_all cs s) ≡ true
unfolding record_after_all
all_sound [] s e = e
all_sound (c ∷ cs) s e = all_sound cs (leaves c.call c.tick s c.part) (leaves-sound c.call c.tick s c.part e)

pub records-stay : (s : List ℕ) (number nodes h w : ℕ) → open_answer s number nodes h w ≡ 0
    → (cs : List RecordCall) → sound (record_after_all cs (open_leaves s number nodes h w)) ≡ true
records-stay s number nodes h w e cs = all_sound cs (open_leaves s number nodes h w) (opened-in-range s number nodes h w e)

-- ---- log lines and forwarding tables

pub line-taken : (l : Line) → letter_unknown (ranges l.letter) ≡ false → outside (ranges l.letter) l ≡ false → l.list < 2 ^ 64
    → read_of (line_text l) ≡ Ok l
unfolding letter_unknown outside
line-taken l known inside d = go (ranges l.letter) refl known inside
  where
    go : (r : Option (ℕ × ℕ)) → ranges l.letter ≡ r → letter_unknown r ≡ false → outside r l ≡ false → read_of (line_text l) ≡ Ok l
    go (Some (node, other)) e k i = text-accepted l (node, other, e, not-false (within l node other) i) d
    go None e k i = absurd (true≢false k)

pub line-only : (text : List ℕ) (l : Line) → read_of text ≡ Ok l
    → (line_text l ≡ text) × (letter_unknown (ranges l.letter) ≡ false) × (outside (ranges l.letter) l ≡ false)
unfolding letter_unknown outside
line-only text l e =
    let r = read-trip text l e in
    let w = r.1 in
    (sym r.0, rw w.2 refl, rw (w.2, w.3) refl)

pub line-down : (l : Line) (out : List ℕ) → TurnsDown (answer_of (written_of l (length out))) (line_places l out) (out_of l out ≡ out)
unfolding written_of out_of line_places letter_unknown outside first_broken
line-down l out = go (ranges l.letter)
  where
    by : (node other : ℕ) (a b : Bool) → TurnsDown (answer_of (cond a (cond b (Err ShortPart) (Ok (length (line_text l)))) (Err OutOfRange)))
        (place false 2 ∷ place (not a) 3 ∷ place b 9 ∷ []) (holds (cond a (cond b (Err ShortPart) (Ok (length (line_text l)))) (Err OutOfRange)) l out ≡ out)
    by node other false b = record { first = refl; untouched = λ h. refl }
    by node other true true = record { first = refl; untouched = λ h. refl }
    by node other true false = record { first = refl; untouched = λ h. absurd (h refl) }

    go : (r : Option (ℕ × ℕ)) → TurnsDown (answer_of (written_in r l (length out)))
        (place (letter_unknown r) 2 ∷ place (outside r l) 3 ∷ place (ltb (length out) 80) 9 ∷ [])
        (holds (written_in r l (length out)) l out ≡ out)
    go (Some (node, other)) = by node other (within l node other) (ltb (length out) 80)
    go None = record { first = refl; untouched = λ h. refl }

pub table-down : (n d : ℕ) → answer_of (table_answer n d) ≡ first_broken (table_places n d)
unfolding table_answer table_places first_broken
table-down n d = by (leb 1 n) (leb n most_nodes) (ltb d (2 ^ n))
  where
    by : (a b c : Bool) → answer_of {A = Unit {0}} (cond (a && b && c) (Ok tt) (Err OutOfRange)) ≡ cond (not (a && b)) 3 (cond (not c) 3 0)
    by false b c = refl
    by true false c = refl
    by true true false = refl
    by true true true = refl

-- ---- number 4

-- whether a place has the number
unfoldable numbered : ℕ → List Place → Bool
numbered n [] = false
numbered n (x ∷ xs) = eqb x.number n || numbered n xs

-- a number that no place has is not that of the first whose rule is broken
first-other : (n : ℕ) (xs : List Place) → n ≢ 0 → numbered n xs ≡ false → first_broken xs ≢ n
unfolding first_broken numbered
first-other n [] z h = λ e. z (sym e)
first-other n (x ∷ xs) z h = by x.broken (first-other n xs z none.1)
  where
    none : (eqb x.number n ≡ false) × (numbered n xs ≡ false)
    none = (or-eq-false-eq-eq-false-and-eq-false (eqb x.number n) (numbered n xs)).0 h

    by : (b : Bool) → first_broken xs ≢ n → cond b x.number (first_broken xs) ≢ n
    by true later = eqb-false x.number n none.0
    by false later = later

-- a call whose places do not have 4 does not give it
not-four : {number : ℕ} {places : List Place} {Untouched : Type 0} → TurnsDown number places Untouched → numbered 4 places ≡ false → number ≢ 4
not-four {number} {places} d h e = first-other 4 places (λ z. omega arith) h (sym d.first ∙ e)

file-not-four : (file : List ℕ) → file_number (file_of file) ≢ 4
unfolding file_number
file-not-four file = go (file_of file) refl
  where
    go : (a : FileAnswer) → file_of file ≡ a → file_number a ≢ 4
    go (accepted_file p) e = λ z. omega arith
    go (turned_down refusal line) e = (refusal-small file refusal line e).3

open-not-four : (file store : List ℕ) → open_refusal (open_file file store).answer ≢ 4
unfolding numbered open_places
open-not-four file store = not-four (open-down file store) (rw (ne_eqb (file_number (file_of file)) 4 (file-not-four file)) refl)

-- the number taken out of the answer in C
open-c-not-four : (file store : List ℕ) → number_and_line (open_file file store).answer % 256 ≢ 4
unfolding number_and_line open_refusal
open-c-not-four file store = go (open_file file store).answer refl
  where
    go : (a : Result (Unit {0}) FileRefusal) → (open_file file store).answer ≡ a → number_and_line a % 256 ≢ 4
    go (Ok u) e z = omega arith
    go (Err r) e z =
        let four : number_of r.refusal ≡ 4 = omega (arith, (opening-small file store r e).1) in
        open-not-four file store (ap open_refusal e ∙ four)

read-not-four : (text : List ℕ) → answer_of (read_of text) ≢ 4
read-not-four text = go (read_of text) refl
  where
    by : (refusal : Refusal) → (refusal ≡ BadForm) ⊎ (refusal ≡ OutOfRange) → number_of refusal ≢ 4
    by refusal (inl h) = rw h (λ z. omega arith)
    by refusal (inr h) = rw h (λ z. omega arith)

    go : (a : Result Line Refusal) → read_of text ≡ a → answer_of a ≢ 4
    go (Ok l) e = λ z. omega arith
    go (Err refusal) e = by refusal (refused-number text refusal e)

pub never-four : NeverFour
unfolding numbered step_places run_places write_places dispatch_places record_places deliver_places timers_places line_places table_places
never-four = record {
  reading = file-not-four;
  opening = open-not-four;
  opening_c = open-c-not-four;
  stepping = λ store log. not-four (step_down store log) refl;
  running = λ store budget. not-four (run_down store budget) refl;
  writing = λ store out. not-four (write-down store out) refl;
  dispatching = λ part turn_length turns. not-four (dispatch-down part turn_length turns) refl;
  node_open = λ s number nodes h w. not-four (open-record-down s number nodes h w) refl;
  node_deliver = λ s tick kind sender subject list part. not-four (deliver-down s tick kind sender subject list part) refl;
  node_timers = λ s tick part. not-four (fire-down s tick part) refl;
  line_reading = read-not-four;
  line_writing = λ l out. not-four (line-down l out) refl;
  table = λ n d e. first-other 4 (table_places n d) (λ z. omega arith) refl (sym (table-down n d) ∙ e);
}
