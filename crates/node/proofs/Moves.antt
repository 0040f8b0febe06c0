-- What each rule gives, by its cases: the node after it, which says what is changed and what is kept, and what is sent. A family a rule;
-- one that has no cases is an equation. Assumes nothing.
use mathlib.Core.Path.{◌≡◌, refl}
use mathlib.Core.Logic.{inl, inr, ◌≢◌}
use mathlib.Core.Bool.{Bool, true, false, cond, ◌||◌}
use mathlib.Core.List.{List, [], ◌∷◌}
use Prim.Native.Nat.{ℕ, ◌+◌, ◌≤◌, ◌<◌}
use borrow.Author.Tests.{eqb-true, eqb-false, ltb-true, ltb-false}
use lib.Dec.{eqb, ltb}
use lib.ListN.{length}
use Rattle.ring.specs.Ring.{listed, listing, merging, place, targets}
use Rattle.node.specs.declared.Message.{Message}
use Rattle.node.specs.declared.Node.{Node}
use Rattle.node.specs.Node.{Turn, due, H, O, R, message, beat, reports, silent, sending, alone, with_observer, with_watch, with_heartbeat, with_list}
use Rattle.node.specs.Node.{with_mark, turn, ringed, left_list, left_mark, new_emitter, passed_over, moved, leaving}
use Rattle.node.specs.Node.{opening, learnt, on_heartbeat, on_observer, on_report, on_heartbeat_due, on_message}
use Rattle.node.specs.Range.{Known}

-- ---- opening

module _ (order : List ℕ) (h w me : ℕ) where
  pub data Opened : Node → Type 0 where
    joins : 1 < length order → Opened (ringed order h w me)
    starts-alone : length order ≤ 1 → Opened (alone me 0 0)

  pub opened : Opened (opening order h w me)
  unfolding opening
  opened = go (ltb 1 (length order)) refl
    where
      go : (b : Bool) → ltb 1 (length order) ≡ b → Opened (cond b (ringed order h w me) (alone me 0 0))
      go true e = joins (ltb-true 1 (length order) e)
      go false e = starts-alone (ltb-false 1 (length order) e)

-- ---- message H

module _ (w tick me from list : ℕ) (n : Node) where
  -- the list after an H of the emitter: what it carries is added, without the node itself and the sender
  abbrev pub heard_list : ℕ
  heard_list = merging n.list (learnt me from list)

  pub data Heard : Turn → Type 0 where
    renews : n.emitter ≡ from → Heard (silent (with_list (with_watch n (due (tick + w))) heard_list))
    unheard : n.emitter ≢ from → Heard (silent n)

  pub heard : Heard (on_heartbeat w tick me from list n)
  unfolding on_heartbeat
  heard = go (eqb n.emitter from) refl
    where
      go : (b : Bool) → eqb n.emitter from ≡ b → Heard (silent (cond b (with_list (with_watch n (due (tick + w))) heard_list) n))
      go true e = renews (eqb-true n.emitter from e)
      go false e = unheard (eqb-false n.emitter from e)

-- ---- message O

pub observed : (tick from : ℕ) (n : Node) → on_observer tick from n ≡ silent (with_heartbeat (with_observer n from) (due tick))
unfolding on_observer
observed tick from n = refl

-- ---- leaving the emitter

module _ (order : List ℕ) (w tick me : ℕ) (n : Node) where
  -- what a node sends that has moved: O to the new emitter, then R of the old one to the forward targets
  abbrev pub moved_sends : List Message
  moved_sends = message O (new_emitter order n) 0 ∷ reports n.emitter (targets order (left_list n) (place order me))

  pub data Left : Turn → Type 0 where
    stops : new_emitter order n ≡ me → Left (turn (alone me (left_list n) (left_mark n)) [] (passed_over order n))
    moves : new_emitter order n ≢ me → Left (turn (moved w tick (new_emitter order n) n) moved_sends (passed_over order n))

  pub left : Left (leaving order w tick me n)
  unfolding leaving
  left = go (eqb (new_emitter order n) me) refl
    where
      go : (b : Bool) → eqb (new_emitter order n) me ≡ b
          → Left (cond b (turn (alone me (left_list n) (left_mark n)) [] (passed_over order n))
          (turn (moved w tick (new_emitter order n) n) moved_sends (passed_over order n)))
      go true e = stops (eqb-true (new_emitter order n) me e)
      go false e = moves (eqb-false (new_emitter order n) me e)

-- ---- message R

module _ (order : List ℕ) (w tick me subject : ℕ) (n : Node) where
  -- the node with the subject listed and marked, and what it sends then
  abbrev pub told_node : Node
  told_node = with_mark (with_list n (listing n.list subject)) (listing n.mark subject)

  abbrev pub told_sends : List Message
  told_sends = reports subject (targets order (listing n.list subject) (place order me))

  -- a subject that is marked already or the node itself changes nothing; the emitter is left; any other is listed, marked and reported to
  -- the forward targets
  pub data Reported : Turn → Type 0 where
    known : listed n.mark subject ≡ true → Reported (silent n)
    own : subject ≡ me → Reported (silent n)
    leaves : listed n.mark subject ≡ false → subject ≢ me → subject ≡ n.emitter → (u : Turn) → Left order w tick me n u → Reported u
    relays : listed n.mark subject ≡ false → subject ≢ me → subject ≢ n.emitter → Reported (sending told_node told_sends)

  pub reported : Reported (on_report order w tick me subject n)
  unfolding on_report
  reported = go (listed n.mark subject) (eqb subject me) (eqb subject n.emitter) refl refl refl
    where
      go : (a b c : Bool) → listed n.mark subject ≡ a → eqb subject me ≡ b → eqb subject n.emitter ≡ c
          → Reported (cond (a || b) (silent n) (cond c (leaving order w tick me n) (sending told_node told_sends)))
      go true b c e f g = known e
      go false true c e f g = own (eqb-true subject me f)
      go false false true e f g = leaves e (eqb-false subject me f) (eqb-true subject n.emitter g) _ (left order w tick me n)
      go false false false e f g = relays e (eqb-false subject me f) (eqb-false subject n.emitter g)

-- ---- a message of a kind

module _ (order : List ℕ) (w tick me kind from subject list : ℕ) (n : Node) where
  pub data Messaged : Turn → Type 0 where
    beats : kind ≡ H → (u : Turn) → Heard w tick me from list n u → Messaged u
    observes : kind ≡ O → Messaged (silent (with_heartbeat (with_observer n from) (due tick)))
    tells : kind ≢ H → kind ≢ O → (u : Turn) → Reported order w tick me subject n u → Messaged u

  pub messaged : Messaged (on_message order w tick me kind from subject list n)
  unfolding on_message on_observer
  messaged = go (eqb kind H) (eqb kind O) refl refl
    where
      go : (a b : Bool) → eqb kind H ≡ a → eqb kind O ≡ b
          → Messaged (cond a (on_heartbeat w tick me from list n) (cond b (on_observer tick from n) (on_report order w tick me subject n)))
      go true b e f = beats (eqb-true kind H e) (on_heartbeat w tick me from list n) (heard w tick me from list n)
      go false true e f = observes (eqb-true kind O f)
      go false false e f = tells (eqb-false kind H e) (eqb-false kind O f) _ (reported order w tick me subject n)

pub other-is-report : (kind : ℕ) → Known kind → kind ≢ H → kind ≢ O → kind ≡ R
other-is-report kind (inl e) h o = absurd (h e)
other-is-report kind (inr (inl e)) h o = absurd (o e)
other-is-report kind (inr (inr e)) h o = e

-- only a report's subject counts
pub subject-counts : (order : List ℕ) (w tick me kind from subject list : ℕ) (n : Node) → Known kind
    → on_message order w tick me kind from (cond (eqb kind R) subject 0) list n ≡ on_message order w tick me kind from subject list n
unfolding on_message
subject-counts order w tick me kind from subject list n (inl e) = rw e
subject-counts order w tick me kind from subject list n (inr (inl e)) = rw e
subject-counts order w tick me kind from subject list n (inr (inr e)) = rw e

-- only a heartbeat's list counts
pub list_counts : (order : List ℕ) (w tick me kind from subject list : ℕ) (n : Node) → Known kind
    → on_message order w tick me kind from subject (cond (eqb kind H) list 0) n ≡ on_message order w tick me kind from subject list n
unfolding on_message
list_counts order w tick me kind from subject list n (inl e) = rw e
list_counts order w tick me kind from subject list n (inr (inl e)) = rw e
list_counts order w tick me kind from subject list n (inr (inr e)) = rw e

-- ---- timers

pub beaten : (h tick : ℕ) (n : Node) → on_heartbeat_due h tick n ≡ sending (with_heartbeat n (due (tick + h))) (beat n.observer n.list ∷ [])
unfolding on_heartbeat_due
beaten h tick n = refl
