-- A record that opening makes is in range, and each turn of a record's node leaves one that was in range so. The ring of a record is in
-- number order. Assumes nothing.
use mathlib.Core.Path.{◌≡◌, refl}
use mathlib.Core.Bool.{Bool, true, false, cond, and-eq-true_iff}
use mathlib.Core.List.{List}
use Prim.Native.Nat.{ℕ, ◌≤◌}
use native.Mathlib.Omega.{arith}
use borrow.Author.Tests.{ltb-true}
use lib.Dec.{ltb}
use Rattle.ring.specs.Ring.{numbers, InOrder}
use Rattle.ring.proofs.Orders.{numbers-in}
use Rattle.limits.specs.Limits.{most_tick}
use Rattle.node.specs.Node.{silent, on_heartbeat_due, on_watch_due, Turn}
use Rattle.node.proofs.Ranges.{Took, opening-range, silent-took, message-took, beat-took, watch-took}
use Rattle.host.specs.declared.Record.{Record}
use Rattle.host.specs.Call.{with_turn, opened_record, delivered, due_by, fired}
use Rattle.host.proofs.Facts.{Openable, InRange, MessageTaken}

-- ---- opening

pub opening-in-range : (number nodes h w : ℕ) → Openable number nodes h w → InRange (opened_record number nodes h w)
unfolding opened_record
opening-in-range number nodes h w o =
    let node = opening-range nodes (numbers 0 nodes) (numbers-in nodes) number o.below h w in
    record { openable = o; last = omega arith; fields = node.0; live = node.1 }

-- ---- a turn

-- a timer that is due is on
on-due : (tick timer : ℕ) → due_by tick timer ≡ true → timer ≡ 0 → ⊥
unfolding due_by
on-due tick timer e z = omega (arith, ltb-true 0 timer ((and-eq-true_iff (ltb 0 timer) _).0 e).0)

module _ (r : Record) (f : InRange r) (tick : ℕ) where
  abbrev order : List ℕ
  order = numbers 0 r.nodes

  abbrev ring : InOrder r.nodes order
  ring = numbers-in r.nodes

  -- a turn that the record's node may take at this tick
  abbrev pub Takes : Turn → Type 0
  Takes u = Took r.nodes r.h r.w r.last tick r.number r.node u

  pub delivered-takes : (kind sender subject list : ℕ) → MessageTaken r kind sender subject list → Takes (delivered r tick kind sender subject list)
  unfolding delivered
  delivered-takes kind sender subject list m =
      message-took r.nodes order ring r.number f.openable.below f.openable.most r.h r.w r.last tick r.node f.fields f.live
      kind sender subject list m.known m.from.0 m.from.1 (λ q. (m.about q).0) m.within

  pub fired-takes : Takes (fired r tick)
  unfolding fired
  fired-takes = go (due_by tick r.node.watch) (due_by tick r.node.heartbeat) refl refl
    where
      o : Openable r.number r.nodes r.h r.w
      o = f.openable

      go : (a b : Bool) → due_by tick r.node.watch ≡ a → due_by tick r.node.heartbeat ≡ b
          → Takes (cond a (on_watch_due order r.w tick r.number r.node) (cond b (on_heartbeat_due r.h tick r.node) (silent r.node)))
      go true b p q =
          watch-took r.nodes order ring r.number o.below o.most r.h r.w r.last tick r.node f.fields f.live
          (on-due tick r.node.watch p)
      go false true p q =
          beat-took r.nodes order ring r.number o.below o.most r.h r.w r.last tick r.node f.fields f.live
          (on-due tick r.node.heartbeat q)
      go false false p q = silent-took r.nodes order ring r.number o.below o.most r.h r.w r.last tick r.node f.fields f.live

  -- the record after such a turn
  pub takes-in-range : r.last ≤ tick → tick ≤ most_tick → (u : Turn) → Takes u → InRange (with_turn r tick u.node)
  unfolding with_turn
  takes-in-range from to u k = record { openable = f.openable; last = to; fields = k.fields from; live = k.live }
