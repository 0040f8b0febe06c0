-- A call on a record in range, at a tick and with a message that are taken and a part that is long enough, is accepted, and does
-- the turn of the record's node. Assumes nothing.
use mathlib.Core.Path.{◌≡◌, refl, ◌∙◌}
use mathlib.Core.Bool.{true, false}
use mathlib.Core.List.{List}
use Prim.Native.Nat.{ℕ, ◌+◌, ◌^◌, ◌≤◌, ◌<◌}
use native.Mathlib.Omega.{arith}
use native.Mathlib.Decide.{ℕ_discrete}
use borrow.Author.Tests.{eq-eqb, lt-ltb, le-leb, lt-leb}
use lib.ListN.{length}
use Rattle.limits.specs.Limits.{most_tick, most_sent, record_size, part_size}
use Rattle.ring.specs.Ring.{numbers}
use Rattle.node.specs.Node.{Turn, R, due, on_watch_due, on_heartbeat_due}
use Rattle.node.specs.Range.{Known}
use Rattle.host.specs.declared.Record.{Record}
use Rattle.host.specs.Record.{encode, decode, sound}
use Rattle.limits.specs.Refusals.{accepted}
use Rattle.host.specs.Call.{tick_taken, message_taken, put_messages, record_after, part_after, with_turn}
use Rattle.host.specs.Call.{open_answer, opened_record, open_leaves, delivered, deliver_answer, deliver_leaves, deliver_sends}
use Rattle.host.specs.Call.{due_by, fired, timers_answer, timers_leaves, timers_sends}
use Rattle.host.proofs.Facts.{Openable, facts-openable, InRange, sound-facts, MessageTaken, facts-message}
use Rattle.host.proofs.Calls.{answer-accepted}
use Rattle.host.proofs.Tests.{due-off, due-on}
use Rattle.host.proofs.Turns.{delivered-takes, fired-takes}

-- ---- opening

pub open-accepted : (s : List ℕ) (number nodes h w : ℕ) → length s ≡ record_size → Openable number nodes h w
    → (open_answer s number nodes h w ≡ accepted) × (open_leaves s number nodes h w ≡ encode (opened_record number nodes h w))
unfolding open_leaves open_answer
open-accepted s number nodes h w l o = rw (eq-eqb (length s) record_size l, facts-openable number nodes h w o) (refl, refl)

-- ---- a node call

-- what a call answers, leaves and puts, where the node of the record r takes the turn u at this tick
pub record Accepted (r : Record) (tick : ℕ) (u : Turn) (part : List ℕ) (answer : ℕ) (s' part' : List ℕ) : Type 0 where
  pub answers : answer ≡ accepted
  pub leaves : s' ≡ encode (with_turn r tick u.node)
  pub puts : part' ≡ put_messages part r.number u.sends
  pub few : length u.sends ≤ most_sent

turned_so : (s : List ℕ) (r : Record) (tick : ℕ) (u : Turn) (part : List ℕ) (a : ℕ) → decode s ≡ r → a ≡ accepted
    → length u.sends ≤ most_sent
    → Accepted r tick u part a (record_after a s tick u) (part_after a s part u)
unfolding record_after part_after
turned_so s r tick u part a d e f = rw (e, d) (record { answers = refl; leaves = refl; puts = refl; few = f })

tick-taken : (r : Record) (tick : ℕ) → r.last ≤ tick → tick ≤ most_tick → tick_taken r tick ≡ true
unfolding tick_taken
tick-taken r tick h l = rw (le-leb r.last tick h, le-leb tick most_tick l)

module _ (s : List ℕ) (r : Record) (ok : sound s ≡ true) (d : decode s ≡ r) (tick : ℕ) (from : r.last ≤ tick) (to : tick ≤ most_tick)
    (part : List ℕ) (long : part_size ≤ length part) where
  range : InRange r
  range = rw (← d) (sound-facts s ok).fields

  taken_at : tick_taken (decode s) tick ≡ true
  taken_at = rw d (tick-taken r tick from to)

  pub deliver-accepted : (kind sender subject list : ℕ) → Known kind → sender < r.nodes → (sender ≡ r.number → ⊥)
      → (kind ≡ R → (subject < r.nodes) × (subject ≡ r.number → ⊥)) → list < 2 ^ r.nodes
      → Accepted r tick (delivered r tick kind sender subject list) part (deliver_answer s tick kind sender subject list part)
      (deliver_leaves s tick kind sender subject list part) (deliver_sends s tick kind sender subject list part)
  unfolding deliver_leaves deliver_sends deliver_answer
  deliver-accepted kind sender subject list k below other about within =
      let m : MessageTaken r kind sender subject list = record { known = k; from = (below, other); about = about; within = within } in
      let t : message_taken (decode s) kind sender subject list ≡ true = rw d (facts-message r kind sender subject list m) in
      rw (← d) (turned_so s (decode s) tick (delivered (decode s) tick kind sender subject list) part _ refl
      (answer-accepted _ _ _ _ ok taken_at t (le-leb part_size (length part) long))
      (rw d (delivered-takes r range tick kind sender subject list m).few))

  pub timers-accepted : Accepted r tick (fired r tick) part (timers_answer s tick part) (timers_leaves s tick part) (timers_sends s tick part)
  unfolding timers_leaves timers_sends timers_answer
  timers-accepted =
      rw (← d) (turned_so s (decode s) tick (fired (decode s) tick) part _ refl
      (answer-accepted _ _ _ _ ok taken_at refl (le-leb part_size (length part) long))
      (rw d (fired-takes r range tick).few))

-- ---- which timer

module _ (r : Record) (tick : ℕ) where
  -- a watch that is due at this tick
  pub fired-watch : r.node.watch ≡ due tick → fired r tick ≡ on_watch_due (numbers 0 r.nodes) r.w tick r.number r.node
  unfolding fired due_by
  fired-watch e = rw (lt-ltb 0 r.node.watch (omega arith), le-leb r.node.watch (due tick) (omega arith))

  -- a watch that is off or due later
  later : ((r.node.watch ≡ 0 → ⊥) → due tick < r.node.watch) → due_by tick r.node.watch ≡ false
  later late = go (ℕ_discrete r.node.watch 0)
    where
      go : Dec (r.node.watch ≡ 0) → due_by tick r.node.watch ≡ false
      go (yes z) = due-off tick r.node.watch z
      go (no z) = due-on tick r.node.watch z ∙ lt-leb r.node.watch (tick + 1) (omega (arith, late z))

  -- a heartbeat that is due at this tick, where the watch is off or due later
  pub fired-heartbeat : ((r.node.watch ≡ 0 → ⊥) → due tick < r.node.watch) → r.node.heartbeat ≡ due tick
      → fired r tick ≡ on_heartbeat_due r.h tick r.node
  unfolding fired
  fired-heartbeat late e =
      let now : due_by tick r.node.heartbeat ≡ true =
      due-on tick r.node.heartbeat (λ z. omega arith) ∙ le-leb r.node.heartbeat (tick + 1) (omega arith) in
      rw (later late, now)
