-- The rules of one node, as document 01's 'The node' states them, one definition a rule. Each gives the node after it and the
-- messages that the node sends, in order. They hold for any ring order. Assumes nothing.
-- A timer is `off`, or `due t` where it is due at tick t. A message's kind is its letter in the log.
use Rattle.std.specs.Prelude.{cond, ◌||◌, List, [], ◌∷◌, ◌++◌, map, ℕ, suc, ◌+◌, ◌-◌, ◌*◌, eqb, ltb, length, replicate}
use Rattle.std.proofs.lemmas.List.Edits.{sets}
use Rattle.limits.specs.Limits.{most_sent}
use Rattle.ring.specs.Ring.{listed, listing, unlisting, merging, place, back, back_from, next, targets}
use Rattle.ring.specs.declared.NodeBefore.{NodeBefore}
use Rattle.node.specs.declared.Message.{Message}
use Rattle.node.specs.declared.Node.{Node}
use Rattle.node.specs.declared.Turned.{Turned}

-- what a rule gives: the node after it, what that sends, and how many listed nodes the search for a new emitter passed, 0 where there was none
pub record Turn : Type 0 where
  pub node : Node
  pub sends : List Message
  pub passed : ℕ

-- ---- timers and messages

abbrev pub off : ℕ
off = 0

abbrev pub due : ℕ → ℕ
due t = suc t

-- the kinds of message: H (heartbeat), O (new observer), R (report)
abbrev pub H : ℕ
H = 72

abbrev pub O : ℕ
O = 79

abbrev pub R : ℕ
R = 82

-- a message that carries no list: O, and R of a subject
abbrev pub message : ℕ → ℕ → ℕ → Message
message kind to subject = record { kind = kind; to = to; subject = subject; list = 0 }

-- "each H message carries its sender's list"
abbrev pub beat : ℕ → ℕ → Message
beat to list = record { kind = H; to = to; subject = 0; list = list }

-- R of a subject to each of some nodes
unfoldable pub reports : ℕ → List ℕ → List Message
reports subject nodes = map (λ to. message R to subject) nodes

-- ---- a node with one field changed

abbrev pub with_observer : Node → ℕ → Node
with_observer n x = record { emitter = n.emitter; observer = x; watch = n.watch; heartbeat = n.heartbeat; list = n.list; mark = n.mark }

abbrev pub with_watch : Node → ℕ → Node
with_watch n x = record { emitter = n.emitter; observer = n.observer; watch = x; heartbeat = n.heartbeat; list = n.list; mark = n.mark }

abbrev pub with_heartbeat : Node → ℕ → Node
with_heartbeat n x = record { emitter = n.emitter; observer = n.observer; watch = n.watch; heartbeat = x; list = n.list; mark = n.mark }

abbrev pub with_list : Node → ℕ → Node
with_list n x = record { emitter = n.emitter; observer = n.observer; watch = n.watch; heartbeat = n.heartbeat; list = x; mark = n.mark }

abbrev pub with_mark : Node → ℕ → Node
with_mark n x = record { emitter = n.emitter; observer = n.observer; watch = n.watch; heartbeat = n.heartbeat; list = n.list; mark = x }

-- a node, with the messages that it sends, and how many listed nodes it passed in a search for a new emitter
abbrev pub turn : Node → List Message → ℕ → Turn
turn n ms passed = record { node = n; sends = ms; passed = passed }

-- a node that makes no such search
abbrev pub sending : Node → List Message → Turn
sending n ms = turn n ms 0

-- a node that sends nothing
abbrev pub silent : Node → Turn
silent n = sending n []

-- a node that is alone: "emitter and observer itself, both timers off"
abbrev pub alone : ℕ → ℕ → ℕ → Node
alone me list mark = record { emitter = me; observer = me; watch = off; heartbeat = off; list = list; mark = mark }

-- a node of a ring of two or more, at opening
abbrev pub ringed : List ℕ → ℕ → ℕ → ℕ → Node
ringed order h w me = record {
  emitter = (back order 0 (place order me)).node;
  observer = next order 0 (place order me);
  watch = due w;
  heartbeat = due h;
  list = 0;
  mark = 0;
}

-- ---- a node that leaves its emitter

-- its list with the emitter listed, "the list after the change"
abbrev pub left_list : Node → ℕ
left_list n = listing n.list n.emitter

-- and its mark: "listing an expired emitter sets the mark too"
abbrev pub left_mark : Node → ℕ
left_mark n = listing n.mark n.emitter

-- "the new emitter is the first unlisted node going back from it", and how many listed nodes that search passed, "the one just left included"
abbrev pub search_left : List ℕ → Node → NodeBefore
search_left order n = back_from order (left_list n) n.emitter

abbrev pub new_emitter : List ℕ → Node → ℕ
new_emitter order n = (search_left order n).node

abbrev pub passed_over : List ℕ → Node → ℕ
passed_over order n = (search_left order n).passed

-- a node that left its emitter for another: "watch due becomes this tick + 2 × W"
abbrev pub moved : ℕ → ℕ → ℕ → Node → Node
moved w tick emitter n = record {
  emitter = emitter;
  observer = n.observer;
  watch = due (tick + 2 * w);
  heartbeat = n.heartbeat;
  list = left_list n;
  mark = left_mark n;
}

-- "list the emitter", and mark it; "the new emitter is the first unlisted node going back from it. If that is the node itself, it is alone, as
-- above. Otherwise watch due becomes this tick + 2 × W; send O to the new emitter, then R of the old one to the forward targets"
unfoldable pub leaving : List ℕ → ℕ → ℕ → ℕ → Node → Turn
leaving order w tick me n =
    let list : ℕ = left_list n in
    let emitter : ℕ = new_emitter order n in
    let passed : ℕ = passed_over order n in
    cond (eqb emitter me) (turn (alone me list (left_mark n)) [] passed)
    (turn (moved w tick emitter n) (message O emitter 0 ∷ reports n.emitter (targets order list (place order me))) passed)

-- ---- the rules

-- "opening, tick 0: emitter is the node before, observer the node after, watch due W, heartbeat due H, list empty. With N = 1 the node
-- is alone"; the mark is empty too
unfoldable pub opening : List ℕ → ℕ → ℕ → ℕ → Node
opening order h w me = cond (ltb 1 (length order)) (ringed order h w me) (alone me 0 0)

-- what a node takes from the list that an H carries: "those nodes, never itself or the sender"
unfoldable pub learnt : ℕ → ℕ → ℕ → ℕ
learnt me from list = unlisting (unlisting list me) from

-- message H: from the emitter, watch due becomes this tick + W, and what it carries is added to the list; "nodes learnt this way aren't
-- relayed from there". From any other node, nothing
unfoldable pub on_heartbeat : ℕ → ℕ → ℕ → ℕ → ℕ → Node → Turn
on_heartbeat w tick me from list n =
    silent (cond (eqb n.emitter from) (with_list (with_watch n (due (tick + w))) (merging n.list (learnt me from list))) n)

-- message O: observer becomes the sender, heartbeat due becomes this tick
unfoldable pub on_observer : ℕ → ℕ → Node → Turn
on_observer tick from n = silent (with_heartbeat (with_observer n from) (due tick))

-- message R of a subject: marked or the node itself, nothing; the emitter, and the node leaves it "in the same event"; otherwise it is marked and
-- listed, "also where a heartbeat named it earlier", and R of the same subject goes to the forward targets, taken with the list after the change
unfoldable pub on_report : List ℕ → ℕ → ℕ → ℕ → ℕ → Node → Turn
on_report order w tick me subject n =
    let list : ℕ = listing n.list subject in
    cond (listed n.mark subject || eqb subject me) (silent n)
    (cond (eqb subject n.emitter) (leaving order w tick me n)
    (sending (with_mark (with_list n list) (listing n.mark subject)) (reports subject (targets order list (place order me)))))

-- heartbeat due: send H to the observer, with the list; due becomes this tick + H
unfoldable pub on_heartbeat_due : ℕ → ℕ → Node → Turn
on_heartbeat_due h tick n = sending (with_heartbeat n (due (tick + h))) (beat n.observer n.list ∷ [])

-- watch due: the node leaves its emitter
abbrev pub on_watch_due : List ℕ → ℕ → ℕ → ℕ → Node → Turn
on_watch_due order w tick me n = leaving order w tick me n

-- a message of a kind: only a report's subject counts, and only a heartbeat's list
unfoldable pub on_message : List ℕ → ℕ → ℕ → ℕ → ℕ → ℕ → ℕ → ℕ → Node → Turn
on_message order w tick me kind from subject list n =
    cond (eqb kind H) (on_heartbeat w tick me from list n)
    (cond (eqb kind O) (on_observer tick from n) (on_report order w tick me subject n))

-- ---- what the code answers: the messages in seven places, the unused ones zero, and their count

unfoldable pub places : List Message → List Message
places ms = ms ++ replicate (most_sent - length ms) (message 0 0 0)

unfoldable pub turned : Turn → Turned
turned u = record { node = u.node; sent = places u.sends; count = length u.sends; passed = u.passed }

-- a node after a rule, with R of a subject to its forward targets after what it sends already
unfoldable pub relayed : List ℕ → ℕ → ℕ → Turned → Turned
relayed order me subject t =
    let ms : List Message = reports subject (targets order t.node.list (place order me)) in
    record { node = t.node; sent = sets t.sent t.count ms; count = t.count + length ms; passed = t.passed }
