-- The three calls of a host in C, as document 01 states them, with the list that document 02, #107, lets a message carry: what each
-- answers, and what it leaves in the record and in the message part. The ring of a record is in number order. Assumes nothing.
use Rattle.std.specs.Prelude.{Bool, true, cond, not, ◌&&◌, ◌||◌, List, [], ◌∷◌, ◌++◌}
use Rattle.std.specs.Prelude.{ℕ, ◌-◌, ◌*◌, ◌^◌, eqb, leb, ltb, length, drop, replicate}
use Rattle.fields.specs.Fields.{bytes}
use Rattle.limits.specs.Limits.{most_tick, record_size, message_size, part_size}
use Rattle.limits.specs.declared.Refusal.TheVariants.{OutOfRange, ShortPart, BadRecord, BadMessage, BadTick}
use Rattle.limits.specs.Refusals.{accepted, number_of}
use Rattle.ring.specs.Ring.{numbers}
use Rattle.node.specs.declared.Message.{Message}
use Rattle.node.specs.declared.Node.{Node}
use Rattle.node.specs.Node.{Turn, off, due, R, silent, opening, on_message, on_heartbeat_due, on_watch_due}
use Rattle.node.specs.Range.{kind_test}
use Rattle.host.specs.declared.Record.{Record}
use Rattle.host.specs.declared.Received.{Received}
use Rattle.host.specs.Record.{encode, decode, openable, sound}

-- ---- answers: "A node call tries 10, 12, 11, then 9"

-- what a node call answers, by whether its record, tick, message and message part are taken
unfoldable pub answer : Bool → Bool → Bool → Bool → ℕ
answer good_record good_tick good_message long_part =
    cond good_record (cond good_tick (cond good_message (cond long_part accepted (number_of ShortPart)) (number_of BadMessage)) (number_of BadTick))
    (number_of BadRecord)

-- a tick that is not "before the record's last tick, or above 1,000,000"
unfoldable pub tick_taken : Record → ℕ → Bool
tick_taken r tick = leb r.last tick && leb tick most_tick

-- a node of the ring other than the record's own
unfoldable pub other_node : Record → ℕ → Bool
other_node r i = ltb i r.nodes && not (eqb i r.number)

-- a message that is not of "unknown kind; sender not below N or the node itself; on R, subject not below N or the node itself", nor with
-- "a list with a bit from N on", whatever its kind
unfoldable pub message_taken : Record → ℕ → ℕ → ℕ → ℕ → Bool
message_taken r kind sender subject list =
    kind_test kind && (other_node r sender && ((not (eqb kind R) || other_node r subject) && ltb list (2 ^ r.nodes)))

-- a message as its receiver takes it: only a report's subject counts
abbrev pub received : ℕ → ℕ → ℕ → ℕ → Received
received kind sender subject list = record { kind = kind; sender = sender; subject = cond (eqb kind R) subject 0; list = list }

-- ---- messages: "at most seven .. are put into the first .. bytes of a lent part, unused ones zero", by 02, #107, of 16 and 112 bytes

-- the 16 bytes of a message: its kind, its receiver, its sender, its subject, four that are zero, and its list, the lowest byte first
unfoldable pub message_bytes : ℕ → Message → List ℕ
message_bytes sender m =
    bytes 1 m.kind ++ (bytes 1 m.to ++ (bytes 1 sender ++ (bytes 1 m.subject ++ (bytes 4 0 ++ bytes 8 m.list))))

unfoldable pub sent_bytes : ℕ → List Message → List ℕ
sent_bytes sender [] = []
sent_bytes sender (m ∷ ms) = message_bytes sender m ++ sent_bytes sender ms

-- a lent part with the messages in it; what follows the first 112 bytes is left
unfoldable pub put_messages : List ℕ → ℕ → List Message → List ℕ
put_messages part sender ms = sent_bytes sender ms ++ (replicate (part_size - length ms * message_size) 0 ++ drop part_size part)

-- ---- a record after a turn of its node

unfoldable pub with_turn : Record → ℕ → Node → Record
with_turn r tick n = record { number = r.number; nodes = r.nodes; h = r.h; w = r.w; last = tick; node = n }

-- the bytes that a call with this answer leaves of a record s and of a message part, where its node takes the turn u
unfoldable pub record_after : ℕ → List ℕ → ℕ → Turn → List ℕ
record_after a s tick u = cond (eqb a accepted) (encode (with_turn (decode s) tick u.node)) s

unfoldable pub part_after : ℕ → List ℕ → List ℕ → Turn → List ℕ
part_after a s part u = cond (eqb a accepted) (put_messages part (decode s).number u.sends) part

-- ---- "one call opens a record (another length gets 10, then a number outside its range 3)"

unfoldable pub open_answer : List ℕ → ℕ → ℕ → ℕ → ℕ → ℕ
open_answer s number nodes h w =
    cond (eqb (length s) record_size) (cond (openable number nodes h w) accepted (number_of OutOfRange)) (number_of BadRecord)

unfoldable pub opened_record : ℕ → ℕ → ℕ → ℕ → Record
opened_record number nodes h w =
    record { number = number; nodes = nodes; h = h; w = w; last = 0; node = opening (numbers 0 nodes) h w number }

unfoldable pub open_leaves : List ℕ → ℕ → ℕ → ℕ → ℕ → List ℕ
open_leaves s number nodes h w = cond (eqb (open_answer s number nodes h w) accepted) (encode (opened_record number nodes h w)) s

-- ---- "one delivers a message"

unfoldable pub delivered : Record → ℕ → ℕ → ℕ → ℕ → ℕ → Turn
delivered r tick kind sender subject list =
    on_message (numbers 0 r.nodes) r.w tick r.number kind sender subject list r.node

unfoldable pub deliver_answer : List ℕ → ℕ → ℕ → ℕ → ℕ → ℕ → List ℕ → ℕ
deliver_answer s tick kind sender subject list part =
    answer (sound s) (tick_taken (decode s) tick) (message_taken (decode s) kind sender subject list) (leb part_size (length part))

unfoldable pub deliver_leaves : List ℕ → ℕ → ℕ → ℕ → ℕ → ℕ → List ℕ → List ℕ
deliver_leaves s tick kind sender subject list part =
    record_after (deliver_answer s tick kind sender subject list part) s tick (delivered (decode s) tick kind sender subject list)

unfoldable pub deliver_sends : List ℕ → ℕ → ℕ → ℕ → ℕ → ℕ → List ℕ → List ℕ
deliver_sends s tick kind sender subject list part =
    part_after (deliver_answer s tick kind sender subject list part) s part (delivered (decode s) tick kind sender subject list)

-- ---- "one does the watch if due by this tick, else the heartbeat if due, else nothing"

-- a timer that is on and due by this tick
unfoldable pub due_by : ℕ → ℕ → Bool
due_by tick timer = ltb off timer && leb timer (due tick)

unfoldable pub fired : Record → ℕ → Turn
fired r tick =
    cond (due_by tick r.node.watch) (on_watch_due (numbers 0 r.nodes) r.w tick r.number r.node)
    (cond (due_by tick r.node.heartbeat) (on_heartbeat_due r.h tick r.node) (silent r.node))

unfoldable pub timers_answer : List ℕ → ℕ → List ℕ → ℕ
timers_answer s tick part = answer (sound s) (tick_taken (decode s) tick) true (leb part_size (length part))

unfoldable pub timers_leaves : List ℕ → ℕ → List ℕ → List ℕ
timers_leaves s tick part = record_after (timers_answer s tick part) s tick (fired (decode s) tick)

unfoldable pub timers_sends : List ℕ → ℕ → List ℕ → List ℕ
timers_sends s tick part = part_after (timers_answer s tick part) s part (fired (decode s) tick)
