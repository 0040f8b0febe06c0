-- A worked file, P,2,1,2,1,20. After eight events the next is node 0's heartbeat, due at tick 3, and its watch is due at tick 5, which is
-- above 0 + 2 × W: a record that holds its fields with last tick 0 is refused by 10, which is why `event` of specs/Nodes.antt
-- asks for a record in range. The record that followed the run has last tick 3 and is taken. W is H + D and no more, and demand 3's claims hold of
-- its store after any calls. Assumes nothing.
use mathlib.Core.Path.{◌≡◌, refl, ap, ◌∙◌}
use mathlib.Core.List.{List, []}
use mathlib.Core.Option.{some}
use Prim.Native.Nat.{ℕ, ◌≤◌}
use native.Mathlib.Omega.{arith}
use lib.ListN.{length, replicate}
use Rattle.fields.specs.Fields.{bytes, value, field_at, zeros}
use Rattle.ring.specs.Ring.{keep, numbers, among, each_once, listed, listing, unlisting, merging, part_of, unlisted, passing, round, place, ahead}
use Rattle.ring.specs.Ring.{first_unlisted, back, next, count, powers, jumps, targets}
use Rattle.node.specs.declared.Node.{Node}
use Rattle.node.specs.Node.{reports, opening, learnt, on_heartbeat, on_observer, on_report, on_heartbeat_due, on_message, leaving}
use Rattle.node.specs.Range.{node_test, apart, live_test}
use Rattle.host.specs.Record.{numbers_bytes, neighbours_bytes, ticks_bytes, mark_bytes, encode, decode, openable, in_range, sound}
use Rattle.limits.specs.Limits.{record_size, part_size, store_size}
use Rattle.limits.specs.declared.Refusal.TheVariants.{BadRecord}
use Rattle.limits.specs.Refusals.{number_of, accepted as taken}
use Rattle.host.specs.Call.{answer, tick_taken, timers_answer}
use Rattle.plans.specs.Plan.{Plan, within, start_ranges, rising, hits, none_twice, crash_order, delay_order, few_delays, every, crash_test}
use Rattle.plans.specs.Plan.{ring_order, order_of, ring_test, delay_test, plan_test}
use Rattle.runfile.specs.Text.{plan_text}
use Rattle.runfile.specs.File.{accepted, file_of}
use Rattle.runfile.proofs.RoundTrip.{read_back}
use Rattle.model.specs.Platform.{heartbeat, alive, start, crash_entries, message_entries, timer_entry, timer_entries, pending, earlier, first}
use Rattle.model.specs.Platform.{up_to, next_event, delay_in, delay_of, numbered, node_of, taken as turned, without, received, apply, fits, tried, try}
use Rattle.model.specs.Platform.{left, steps, after}
use Rattle.store.specs.Store.{state_in}
use Rattle.platform.specs.CallLists.{Call}
use Rattle.demands.specs.Demands.{store_of, AfterCallsE}
use Rattle.demands.specs.Nodes.{record_of, call_to, record_after, tick_or, ticked, last_tick}
use Rattle.demands.proofs.Nodes.{rehearsed}
use Rattle.demands.proofs.Demand3.{any-calls}

unfoldable pub two : Plan
two = record { n = 2; h = 1; w = 2; d = 1; end = 20; ring = []; crashes = []; delays = [] }

pub is-accepted : file_of (plan_text two) ≡ accepted two
unfolding two plan_test start_ranges within ring_test crash_test every crash_order rising none_twice each_once
    delay_test delay_order few_delays
is-accepted = read_back two refl

in-number-order : order_of two ≡ numbers 0 two.n
unfolding two order_of ring_order
in-number-order = refl

-- node 0 after eight events
unfoldable pub node : Node
node = record { emitter = 1; observer = 1; watch = 6; heartbeat = 4; list = 0; mark = 0 }

pub ninth : (node_of (after two 8) 0 ≡ node)
    × (next_event two (after two 8) ≡ some (record { tick = 3; event = heartbeat 0 }))
    × (last_tick two 0 8 ≡ 3)
unfolding two node keep numbers listed listing unlisting merging unlisted passing round place ahead first_unlisted back next count powers jumps targets
    reports opening learnt on_heartbeat on_observer on_report on_heartbeat_due leaving on_message ring_order order_of hits among alive start crash_entries
    message_entries timer_entry timer_entries pending earlier first up_to next_event delay_in delay_of numbered turned without received apply fits tried try
    left steps after call_to tick_or ticked last_tick
ninth = (refl, refl, refl)

out-of-range : timers_answer (encode (record_of two 0 0 node)) 3 (replicate part_size 0) ≡ number_of BadRecord
unfolding two node record_of bytes value field_at zeros numbers_bytes neighbours_bytes ticks_bytes mark_bytes encode decode
    openable node_test apart live_test in_range sound answer timers_answer listed
out-of-range = refl

pub early-tick-refused : timers_answer (encode (record_of two 0 0 (node_of (after two 8) 0))) 3 (replicate part_size 0) ≡ number_of BadRecord
early-tick-refused = ap (λ (n : Node). timers_answer (encode (record_of two 0 0 n)) 3 (replicate part_size 0)) ninth.0 ∙ out-of-range

-- the record that has followed the run
pub followed-so : (bytes : List ℕ) → length bytes ≡ record_size → (parts : ℕ → List ℕ) → ((i : ℕ) → part_size ≤ length (parts i))
    → record_after two 0 bytes parts 8 ≡ encode (record_of two 0 3 node)
unfolding two
followed-so bytes size parts long =
    rw (← ninth.0, ← ninth.2) (((rehearsed (plan_text two) two is-accepted in-number-order).run 0 (omega arith) bytes size parts long).holds 8)

-- and the call of the ninth event takes it
pub late-tick-taken : timers_answer (encode (record_of two 0 3 node)) 3 (replicate part_size 0) ≡ taken
unfolding two node record_of bytes value field_at zeros numbers_bytes neighbours_bytes ticks_bytes mark_bytes encode decode
    openable node_test apart live_test in_range sound answer tick_taken timers_answer listed part_of
late-tick-taken = refl

-- W is just H + D: no live node is listed after any calls on its store, nor does any other claim of an E run fail
pub just_enough : (store : List ℕ) → length store ≡ store_size → (cs : List Call) → AfterCallsE two (state_in (store_of (plan_text two) store cs))
unfolding two
just_enough store size cs = (any-calls.left (plan_text two) store two is-accepted size cs).ending (omega arith)
