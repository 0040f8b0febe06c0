-- What a node may hold: the ranges of a node's fields, in a store and in a record. First as facts with names, then as computed tests.
-- n is the number of nodes, h and w are H and W, and t is the last tick: a store's last event's, or that of a record's last accepted call.
-- Assumes nothing.
use Rattle.std.specs.Prelude.{◌≡◌, ◌≢◌, ◌⊎◌, Bool, true, false, not, ◌&&◌, ◌||◌}
use Rattle.std.specs.Prelude.{ℕ, ◌+◌, ◌*◌, ◌^◌, ◌≤◌, ◌<◌, eqb, leb, ltb}
use Rattle.ring.specs.Ring.{listed, part_of}
use Rattle.node.specs.declared.Node.{Node}
use Rattle.node.specs.Node.{off, due, H, O, R}

-- ---- facts

-- any node's fields: emitter, observer and list are of nodes below n, the list does not have the emitter, the mark is part of the list and
-- so of nodes below n too, and a timer is off or due at a tick that a rule can set
pub record NodeRange (n h w t : ℕ) (a : Node) : Type 0 where
  pub emitter : a.emitter < n
  pub observer : a.observer < n
  pub list : a.list < 2 ^ n
  pub unlisted : listed a.list a.emitter ≡ false
  pub mark : part_of a.mark a.list ≡ true
  pub watch : a.watch ≤ due (t + 2 * w)
  pub heartbeat : a.heartbeat ≤ due (t + h)

-- out of range is "a live node that lists itself, observes itself with the watch on or sends to itself with the heartbeat on"
pub record LiveRange (me : ℕ) (a : Node) : Type 0 where
  pub lists : listed a.list me ≡ false
  pub observes : a.watch ≢ off → a.emitter ≢ me
  pub sends : a.heartbeat ≢ off → a.observer ≢ me

-- a timer that is on is due at t or later. In a store it is so of live nodes; a record's timers may be overdue, as messages are
-- delivered all the same
pub record NotOverdue (t : ℕ) (a : Node) : Type 0 where
  pub watch : a.watch ≢ off → t < a.watch
  pub heartbeat : a.heartbeat ≢ off → t < a.heartbeat

-- the kinds of message
abbrev pub Known : ℕ → Type 0
Known kind = (kind ≡ H) ⊎ ((kind ≡ O) ⊎ (kind ≡ R))

-- a list that a message of a kind carries: it is of nodes below n, and empty unless the message is an H
pub record Carried (n kind list : ℕ) : Type 0 where
  pub below : list < 2 ^ n
  pub empty : kind ≢ H → list ≡ 0

-- ---- the same as computed tests

unfoldable pub node_test : ℕ → ℕ → ℕ → ℕ → Node → Bool
node_test n h w t a =
    ltb a.emitter n && (ltb a.observer n && (ltb a.list (2 ^ n)
    && (not (listed a.list a.emitter) && (leb a.watch (due (t + 2 * w)) && (leb a.heartbeat (due (t + h))
    && part_of a.mark a.list)))))

-- a timer is off, or what it is about is another node
unfoldable pub apart : ℕ → ℕ → ℕ → Bool
apart timer other me = eqb timer off || not (eqb other me)

unfoldable pub live_test : ℕ → Node → Bool
live_test me a =
    not (listed a.list me) && (apart a.watch a.emitter me && apart a.heartbeat a.observer me)

-- a timer is off, or due at t or later
unfoldable pub not_overdue : ℕ → ℕ → Bool
not_overdue t timer = eqb timer off || ltb t timer

unfoldable pub timers_test : ℕ → Node → Bool
timers_test t a = not_overdue t a.watch && not_overdue t a.heartbeat

unfoldable pub kind_test : ℕ → Bool
kind_test k = eqb k H || (eqb k O || eqb k R)

unfoldable pub carried_test : ℕ → ℕ → ℕ → Bool
carried_test n kind list = ltb list (2 ^ n) && (eqb kind H || eqb list 0)
