-- What a record's node sends, the receiver's record takes: no message that a host brings to its receiver is refused by 11.
-- Assumes nothing.
use mathlib.Core.Path.{◌≡◌, sym, ◌∙◌}
use mathlib.Core.Bool.{true}
use mathlib.Core.List.{Memᴰ}
use Prim.Native.Nat.{ℕ, ◌<◌}
use Rattle.node.specs.declared.Message.{Message}
use Rattle.node.proofs.Sends.{Sendable}
use Rattle.host.specs.declared.Record.{Record}
use Rattle.host.specs.Call.{message_taken, delivered, fired}
use Rattle.host.proofs.Facts.{InRange, MessageTaken, facts-message}
use Rattle.host.proofs.Turns.{delivered-takes, fired-takes}

-- what a turn sends is sendable, as node number of nodes
module _ (r : Record) (f : InRange r) (tick : ℕ) where
  pub delivered-sends : (kind sender subject list : ℕ) → MessageTaken r kind sender subject list
      → (m : Message) → Memᴰ m (delivered r tick kind sender subject list).sends → Sendable r.nodes r.number m
  delivered-sends kind sender subject list t = (delivered-takes r f tick kind sender subject list t).sends

  pub fired-sends : (m : Message) → Memᴰ m (fired r tick).sends → Sendable r.nodes r.number m
  fired-sends = (fired-takes r f tick).sends

-- a message that node `me` may send is taken by the record of its receiver in the same ring
pub sent-is-taken : (me : ℕ) (m : Message) (to : Record) → me < to.nodes → Sendable to.nodes me m → m.to ≡ to.number
    → message_taken to m.kind me m.subject m.list ≡ true
sent-is-taken me m to l s e =
    facts-message to m.kind me m.subject m.list (record {
      known = s.kind;
      from = (l, λ q. s.apart (e ∙ sym q));
      about = λ q. (s.subject, λ z. s.about q (z ∙ sym e));
      within = s.list.below;
    })
