-- Ranges are kept: the record that opening leaves is one that calls take, and so is every one that accepted calls then leave.
-- Assumes nothing.
use mathlib.Core.Path.{◌≡◌, refl}
use mathlib.Core.Bool.{Bool, true, false, cond}
use mathlib.Core.List.{List}
use Prim.Native.Nat.{ℕ}
use native.Mathlib.Omega.{arith}
use borrow.Author.Tests.{eqb-true}
use lib.Dec.{eqb, leb}
use lib.ListN.{length}
use Rattle.limits.specs.declared.Refusal.TheVariants.{OutOfRange, BadRecord}
use Rattle.limits.specs.Refusals.{accepted, number_of}
use Rattle.node.specs.Node.{Turn}
use Rattle.limits.specs.Limits.{record_size, part_size}
use Rattle.host.specs.Record.{encode, decode, openable, sound}
use Rattle.host.specs.Call.{tick_taken, message_taken, record_after, open_answer, opened_record, open_leaves, delivered, deliver_answer, deliver_leaves}
use Rattle.host.specs.Call.{fired, timers_answer, timers_leaves, with_turn}
use Rattle.host.proofs.Codec.{encode-sound}
use Rattle.host.proofs.Facts.{InRange, openable-facts, sound-facts, tick-facts, message-facts, accepted-facts}
use Rattle.host.proofs.Turns.{opening-in-range, Takes, delivered-takes, fired-takes, takes-in-range}

-- ---- an accepted call

pub opened-in-range : (s : List ℕ) (number nodes h w : ℕ) → open_answer s number nodes h w ≡ accepted
    → sound (open_leaves s number nodes h w) ≡ true
unfolding open_leaves open_answer
opened-in-range s number nodes h w e = go (eqb (length s) record_size) (openable number nodes h w) refl e
  where
    go : (a b : Bool) → openable number nodes h w ≡ b → cond a (cond b accepted (number_of OutOfRange)) (number_of BadRecord) ≡ accepted
        → sound (cond (eqb (cond a (cond b accepted (number_of OutOfRange)) (number_of BadRecord)) accepted)
        (encode (opened_record number nodes h w)) s) ≡ true
    go true true o e = encode-sound (opened_record number nodes h w) (opening-in-range number nodes h w (openable-facts number nodes h w o))
    go true false o e = absurd (omega arith)
    go false b o e = absurd (omega arith)

module _ (s : List ℕ) (tick : ℕ) (part : List ℕ) where
  -- the record after a turn that its node may take
  turn-sound : (ok : sound s ≡ true) (t : tick_taken (decode s) tick ≡ true) (u : Turn)
      → ((f : InRange (decode s)) → Takes (decode s) f tick u)
      → sound (encode (with_turn (decode s) tick u.node)) ≡ true
  turn-sound ok t u takes =
      let f = (sound-facts s ok).fields in
      let at = tick-facts (decode s) tick t in
      encode-sound (with_turn (decode s) tick u.node) (takes-in-range (decode s) f tick at.0 at.1 u (takes f))

  pub deliver-keeps-range : (kind sender subject list : ℕ) → deliver_answer s tick kind sender subject list part ≡ accepted
      → sound (deliver_leaves s tick kind sender subject list part) ≡ true
  unfolding deliver_leaves record_after deliver_answer
  deliver-keeps-range kind sender subject list e =
      let a = accepted-facts (sound s) (tick_taken (decode s) tick) (message_taken (decode s) kind sender subject list) (leb part_size (length part)) e in
      rw e
      (turn-sound a.0 a.1 (delivered (decode s) tick kind sender subject list)
      (λ f. delivered-takes (decode s) f tick kind sender subject list (message-facts (decode s) kind sender subject list a.2)))

  pub timers-keep-range : timers_answer s tick part ≡ accepted → sound (timers_leaves s tick part) ≡ true
  unfolding timers_leaves record_after timers_answer
  timers-keep-range e =
      let a = accepted-facts (sound s) (tick_taken (decode s) tick) true (leb part_size (length part)) e in
      rw e (turn-sound a.0 a.1 (fired (decode s) tick) (λ f. fired-takes (decode s) f tick))

-- ---- any call

-- a record after a call is the one before it or has been left by an accepted one
kept : (a : ℕ) (s : List ℕ) (tick : ℕ) (u : Turn) → (a ≡ accepted → sound (record_after a s tick u) ≡ true) → sound s ≡ true
    → sound (record_after a s tick u) ≡ true
unfolding record_after
kept a s tick u h e = go (eqb a accepted) refl
  where
    go : (b : Bool) → eqb a accepted ≡ b → sound (record_after a s tick u) ≡ true
    go true q = h (eqb-true a accepted q)
    go false q = rw q e

pub deliver-stays : (s : List ℕ) (tick kind sender subject list : ℕ) (part : List ℕ) → sound s ≡ true
    → sound (deliver_leaves s tick kind sender subject list part) ≡ true
unfolding deliver_leaves
deliver-stays s tick kind sender subject list part e =
    kept (deliver_answer s tick kind sender subject list part) s tick (delivered (decode s) tick kind sender subject list)
    (deliver-keeps-range s tick part kind sender subject list) e

pub timers-stay : (s : List ℕ) (tick : ℕ) (part : List ℕ) → sound s ≡ true → sound (timers_leaves s tick part) ≡ true
unfolding timers_leaves
timers-stay s tick part e = kept (timers_answer s tick part) s tick (fired (decode s) tick) (timers-keep-range s tick part) e
