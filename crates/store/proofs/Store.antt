-- What a store's bytes hold is what was encoded, and a store of the right length whose unused bytes are zero is the encoding of what it
-- holds. Assumes nothing.
use Prim.Native.Nat.{ℕ, zero, suc, ◌+◌, ◌<◌, ◌≤◌}
use mathlib.Core.Path.{◌≡◌, refl, sym, ◌∙◌}
use mathlib.Core.Bool.{Bool, true, ◌&&◌, and-true, and-eq-true_iff}
use mathlib.Core.List.{List, [], ◌∷◌, ◌++◌, map}
use native.Mathlib.Omega.{arith}
use borrow.Author.Rules.{rules}
use borrow.Author.Tests.{leb-true, le-leb}
use lib.Dec.{leb, lit<}
use lib.ListN.{length, get_or}
use lib.Seq.{slice}
use Rattle.ring.specs.Ring.{numbers}
use Rattle.node.specs.declared.Node.{Node}
use Rattle.plans.specs.Plan.{Plan, Crash, Delay}
use Rattle.node.specs.Node.{alone}
use Rattle.model.specs.Platform.{State, InFlight, node_of, message_at, no_message}
use Rattle.plans.specs.Plain.{no_crash, row_at}
use Rattle.store.specs.Columns.{Column, unused, cell, number, joined, room_test, unused_test}
use Rattle.store.specs.Columns.{columns_of, numbers_of, cells_at, RowFits, RowsFit, places_test}
use Rattle.limits.specs.Limits.{store_size}
use Rattle.store.specs.Store.{node_count, crash_count, delay_count, message_count, ring_size, spare_head, ring_nodes, spare_tail}
use Rattle.store.specs.Store.{Contents, contents, head_parts, ring_parts, node_parts, crash_parts, delay_parts, time_parts, route_parts, message_parts}
use Rattle.store.specs.Store.{columns, encode, node_in, crash_row_in, delay_row_in, message_in, plan_in, state_in}
use Rattle.store.specs.Inside.{Counts, Fits, Held, delay_at}
use Rattle.store.proofs.Columns.{Laid}
use Rattle.store.proofs.Groups.{row_read, room-append, room-rows, rooms-test}
use Rattle.store.proofs.Reading.{bytes_read, length-made, row_made, ReadFrom, columns-read, rows-read, rows-read-fit, read_back}
use Rattle.store.proofs.Reading.{columns-laid, laid-length, same_at}

-- ---- the layout

-- the fields of the layout stand one after another and fill the store
pub placed : (p : Plan) (s : State) → joined 0 store_size (columns p s) ≡ true
unfolding columns columns_of head_parts ring_parts node_parts crash_parts delay_parts time_parts route_parts joined
placed p s = refl

-- the parts of each kind of row have as many places
pub head-places : places_test 1 head_parts ≡ true
unfolding places_test head_parts
head-places = refl

pub ring-places : places_test 64 ring_parts ≡ true
unfolding places_test ring_parts
ring-places = refl

pub node-places : places_test 64 node_parts ≡ true
unfolding places_test node_parts
node-places = refl

pub crash-places : places_test 64 crash_parts ≡ true
unfolding places_test crash_parts
crash-places = refl

pub delay-places : places_test 2048 delay_parts ≡ true
unfolding places_test delay_parts
delay-places = refl

pub message-places : places_test 2048 message_parts ≡ true
unfolding places_test time_parts route_parts
message-places = refl

module _ (p : Plan) (s : State) where
  -- the columns that stand before and after those of the Q line, of the nodes, of the C rows, of the L rows and of the messages
  abbrev pub before_ring : List Column
  before_ring = columns_of head_parts (contents p s ∷ []) ++ (unused spare_head ∷ [])

  abbrev pub before_nodes : List Column
  before_nodes = before_ring ++ columns_of ring_parts p.ring

  abbrev pub before_crashes : List Column
  before_crashes = before_nodes ++ columns_of node_parts s.nodes

  abbrev pub before_delays : List Column
  before_delays = before_crashes ++ columns_of crash_parts p.crashes

  abbrev pub before_messages : List Column
  before_messages = before_delays ++ columns_of delay_parts p.delays

  abbrev pub after_messages : List Column
  after_messages = unused spare_tail ∷ []

  abbrev pub after_delays : List Column
  after_delays = columns_of message_parts s.flight ++ after_messages

  abbrev pub after_crashes : List Column
  after_crashes = columns_of delay_parts p.delays ++ after_delays

  abbrev pub after_nodes : List Column
  after_nodes = columns_of crash_parts p.crashes ++ after_crashes

  abbrev pub after_ring : List Column
  after_ring = columns_of node_parts s.nodes ++ after_nodes

  pub at-ring : columns p s ≡ before_ring ++ (columns_of ring_parts p.ring ++ after_ring)
  unfolding columns columns_of head_parts
  at-ring = refl

  pub at-nodes : columns p s ≡ before_nodes ++ (columns_of node_parts s.nodes ++ after_nodes)
  unfolding columns columns_of head_parts ring_parts
  at-nodes = refl

  pub at-crashes : columns p s ≡ before_crashes ++ (columns_of crash_parts p.crashes ++ after_crashes)
  unfolding columns columns_of head_parts ring_parts node_parts
  at-crashes = refl

  pub at-delays : columns p s ≡ before_delays ++ (columns_of delay_parts p.delays ++ after_delays)
  unfolding columns columns_of head_parts ring_parts node_parts crash_parts
  at-delays = refl

  pub at-messages : columns p s ≡ before_messages ++ (columns_of message_parts s.flight ++ after_messages)
  unfolding columns columns_of head_parts ring_parts node_parts crash_parts delay_parts
  at-messages = refl

  -- ---- room

  abbrev rooms : Bool
  rooms =
      leb (length p.ring) 64
      && (leb (length s.nodes) 64 && (leb (length p.crashes) 64 && (leb (length p.delays) 2048 && leb (length s.flight) 2048)))

  ring-room : room_test (columns_of ring_parts p.ring) ≡ leb (length p.ring) 64
  unfolding ring_parts
  ring-room = rooms-test p.ring 64 ring_parts ring-places (lit< tt)

  nodes-room : room_test (columns_of node_parts s.nodes) ≡ leb (length s.nodes) 64
  unfolding node_parts
  nodes-room = rooms-test s.nodes 64 node_parts node-places (lit< tt)

  crashes-room : room_test (columns_of crash_parts p.crashes) ≡ leb (length p.crashes) 64
  unfolding crash_parts
  crashes-room = rooms-test p.crashes 64 crash_parts crash-places (lit< tt)

  delays-room : room_test (columns_of delay_parts p.delays) ≡ leb (length p.delays) 2048
  unfolding delay_parts
  delays-room = rooms-test p.delays 2048 delay_parts delay-places (lit< tt)

  messages-room : room_test (columns_of message_parts s.flight) ≡ leb (length s.flight) 2048
  unfolding time_parts route_parts
  messages-room = rooms-test s.flight 2048 message_parts message-places (lit< tt)

  pub room-parts : room_test (columns p s) ≡ rooms
  unfolding columns room_test
  room-parts =
      rw (
        room-append (columns_of head_parts (contents p s ∷ [])),
        room-rows (contents p s ∷ []) 1 head_parts head-places (lit< tt),
        room-append (columns_of ring_parts p.ring),
        room-append (columns_of node_parts s.nodes),
        room-append (columns_of crash_parts p.crashes),
        room-append (columns_of delay_parts p.delays),
        room-append (columns_of message_parts s.flight),
        and-true (room_test (columns_of message_parts s.flight)),
        ring-room,
        nodes-room,
        crashes-room,
        delays-room,
        messages-room,
      )

  -- no more nodes, rows and messages than there are places
  counts-room : length p.ring ≤ 64 → length s.nodes ≤ 64 → length p.crashes ≤ 64 → length p.delays ≤ 2048
      → length s.flight ≤ 2048
      → room_test (columns p s) ≡ true
  counts-room r n c l m = rw (room-parts, le-leb _ 64 r, le-leb _ 64 n, le-leb _ 64 c, le-leb _ 2048 l, le-leb _ 2048 m)

  pub room-laid : length p.ring ≤ 64 → length s.nodes ≤ 64 → length p.crashes ≤ 64 → length p.delays ≤ 2048
      → length s.flight ≤ 2048
      → Laid 0 (columns p s)
  room-laid r n c l m = columns-laid (columns p s) 0 store_size (placed p s) (counts-room r n c l m)

  pub room-counts : length s.nodes ≡ p.n → room_test (columns p s) ≡ true → Counts p s
  room-counts e room =
      let ring = (and-eq-true_iff (leb (length p.ring) 64) _).0 (sym room-parts ∙ room) in
      let nodes = (and-eq-true_iff (leb (length s.nodes) 64) _).0 ring.1 in
      let crashes = (and-eq-true_iff (leb (length p.crashes) 64) _).0 nodes.1 in
      let rest = (and-eq-true_iff (leb (length p.delays) 2048) (leb (length s.flight) 2048)).0 crashes.1 in
      record {
        nodes = omega (arith, leb-true (length s.nodes) 64 nodes.0);
        ring = leb-true _ 64 ring.0;
        crashes = leb-true _ 64 crashes.0;
        delays = leb-true _ 2048 rest.0;
        messages = leb-true _ 2048 rest.1;
      }

  module _ (f : Fits p s) where
    pub room-encode : room_test (columns p s) ≡ true
    room-encode = let c = f.counts in counts-room c.ring (omega (arith, f.nodes)) c.crashes c.delays c.messages

    pub laid : Laid 0 (columns p s)
    laid = columns-laid (columns p s) 0 store_size (placed p s) room-encode

    pub length-encode : length (encode p s) ≡ store_size
    unfolding encode
    length-encode = omega (arith, laid-length (columns p s) 0 store_size (placed p s) laid)

    abbrev b : List ℕ
    b = encode p s

    -- ---- what was encoded is read

    head_read : cells_at head_parts b 0 ≡ numbers_of head_parts (contents p s)
    unfolding encode columns
    head_read =
        let back : List Column = unused spare_head ∷ (columns_of ring_parts p.ring ++ after_ring) in
        row_read head_parts [] back (contents p s ∷ []) laid 0 (contents p s) (lit< tt) f.head

    -- the number of the head's part k
    read : (k : ℕ) → get_or (cells_at head_parts b 0) k 0 ≡ get_or (numbers_of head_parts (contents p s)) k 0
    read = same_at head_read

    ring-read : map (cell b ring_nodes) (numbers 0 (length p.ring)) ≡ p.ring
    unfolding encode cells_at numbers_of ring_parts
    ring-read =
        rows-read (columns p s) before_ring after_ring ring_parts p.ring at-ring laid f.ring_rows 0 (cell b ring_nodes) (λ i e. same_at e 0)

    nodes-read : map (node_in b) (numbers 0 (length s.nodes)) ≡ s.nodes
    unfolding encode cells_at numbers_of node_parts
    nodes-read =
        let d : Node = record { emitter = 0; observer = 0; watch = 0; heartbeat = 0; list = 0; mark = 0 } in
        rows-read (columns p s) before_nodes after_nodes node_parts s.nodes at-nodes laid f.node_rows d (node_in b)
        (λ i e. rw (same_at e 0, same_at e 1, same_at e 2, same_at e 3, same_at e 4, same_at e 5))

    crashes-read : map (crash_row_in b) (numbers 0 (length p.crashes)) ≡ p.crashes
    unfolding encode cells_at numbers_of crash_parts
    crashes-read =
        let d : Crash = record { tick = 0; node = 0 } in
        rows-read (columns p s) before_crashes after_crashes crash_parts p.crashes at-crashes laid f.crash_rows d (crash_row_in b)
        (λ i e. rw (same_at e 0, same_at e 1))

    delays-read : map (delay_row_in b) (numbers 0 (length p.delays)) ≡ p.delays
    unfolding encode cells_at numbers_of delay_parts
    delays-read =
        let d : Delay = record { number = 0; delay = 0 } in
        rows-read (columns p s) before_delays after_delays delay_parts p.delays at-delays laid f.delay_rows d (delay_row_in b)
        (λ i e. rw (same_at e 0, same_at e 1))

    messages-read : map (message_in b) (numbers 0 (length s.flight)) ≡ s.flight
    unfolding encode cells_at numbers_of time_parts route_parts
    messages-read =
        let d : InFlight = record { number = 0; kind = 0; from = 0; to = 0; subject = 0; due = 0; list = 0 } in
        rows-read (columns p s) before_messages after_messages message_parts s.flight at-messages laid f.message_rows d (message_in b)
        (λ i e. rw (same_at e 0, same_at e 1, same_at e 2, same_at e 3, same_at e 4, same_at e 5, same_at e 6))

    -- what was encoded is what the bytes hold
    pub plan-encode : plan_in (encode p s) ≡ p
    unfolding plan_in cells_at numbers_of head_parts
    plan-encode = rw (read 0, read 1, read 2, read 3, read 4, read 6, read 9, read 11, ring-read, crashes-read, delays-read)

    pub state-encode : state_in (encode p s) ≡ s
    unfolding state_in cells_at numbers_of head_parts
    state-encode =
        let count : number b node_count ≡ length s.nodes = read 0 ∙ sym f.nodes in
        rw (count, read 5, read 7, read 8, read 10, nodes-read, messages-read)

    pub held-encode : Held (encode p s)
    held-encode = record { size = length-encode; canonical = rw (plan-encode, state-encode); fits = rw (plan-encode, state-encode) f }

-- a store's count of crash rows done fits its byte
pub done-lt : (b : List ℕ) → Held b → (state_in b).done < 256
unfolding RowFits head_parts
done-lt b v = let h = v.fits.head in search rules

-- ---- bytes that are read

module _ (b : List ℕ) where
  pub length-nodes : length (state_in b).nodes ≡ (plan_in b).n
  unfolding state_in plan_in
  length-nodes = length-made (node_in b) (number b node_count)

  -- the counts
  pub ring-counted : length (plan_in b).ring ≡ number b ring_size
  unfolding plan_in
  ring-counted = length-made (cell b ring_nodes) (number b ring_size)

  pub crashes-counted : length (plan_in b).crashes ≡ number b crash_count
  unfolding plan_in
  crashes-counted = length-made (crash_row_in b) (number b crash_count)

  pub delays-counted : length (plan_in b).delays ≡ number b delay_count
  unfolding plan_in
  delays-counted = length-made (delay_row_in b) (number b delay_count)

  pub messages-counted : length (state_in b).flight ≡ number b message_count
  unfolding state_in
  messages-counted = length-made (message_in b) (number b message_count)

  -- the row at a place
  pub node-read : (i : ℕ) → i < (plan_in b).n → node_of (state_in b) i ≡ node_in b i
  unfolding plan_in state_in
  node-read i h = row_made (node_in b) (number b node_count) i (alone i 0 0) h

  pub ring-number : (i : ℕ) → i < length (plan_in b).ring → get_or (plan_in b).ring i 0 ≡ cell b ring_nodes i
  unfolding plan_in
  ring-number i h = row_made (cell b ring_nodes) (number b ring_size) i 0 (omega (arith, ring-counted))

  -- they are the store's own bytes
  pub ring-part : ring_nodes.at + number b ring_size ≤ length b → (plan_in b).ring ≡ slice ring_nodes.at (ring_nodes.at + number b ring_size) b
  unfolding plan_in
  ring-part h = bytes_read b ring_nodes.at ring_nodes.places (number b ring_size) h

  pub crash-read : (i : ℕ) → i < length (plan_in b).crashes → row_at (plan_in b) i ≡ crash_row_in b i
  unfolding plan_in
  crash-read i h = row_made (crash_row_in b) (number b crash_count) i no_crash (omega (arith, crashes-counted))

  pub delay-read : (i : ℕ) → i < length (plan_in b).delays → delay_at (plan_in b) i ≡ delay_row_in b i
  unfolding plan_in
  delay-read i h = row_made (delay_row_in b) (number b delay_count) i _ (omega (arith, delays-counted))

  pub message-read : (i : ℕ) → i < length (state_in b).flight → message_at (state_in b) i ≡ message_in b i
  unfolding state_in
  message-read i h = row_made (message_in b) (number b message_count) i no_message (omega (arith, messages-counted))

  -- the numbers of the head and of each row are those that the bytes have
  abbrev head : Contents
  head = contents (plan_in b) (state_in b)

  head-cells : (i : ℕ) → i < 1 → numbers_of head_parts (get_or (head ∷ []) i head) ≡ cells_at head_parts b i
  unfolding numbers_of cells_at head_parts plan_in state_in
  head-cells zero h =
      rw (
        length-made (crash_row_in b) (number b crash_count),
        length-made (delay_row_in b) (number b delay_count),
        length-made (message_in b) (number b message_count),
        length-made (cell b ring_nodes) (number b ring_size),
      )
  head-cells (suc i) h = absurd (omega arith)

  ring-cells : (i : ℕ) → i < length (plan_in b).ring → numbers_of ring_parts (get_or (plan_in b).ring i (cell b ring_nodes 0)) ≡ cells_at ring_parts b i
  unfolding numbers_of cells_at ring_parts plan_in
  ring-cells i h =
      let k : i < number b ring_size = rw (← length-made (cell b ring_nodes) (number b ring_size)) h in
      rw (row_made (cell b ring_nodes) (number b ring_size) i (cell b ring_nodes 0) k)

  node-cells : (i : ℕ) → i < length (state_in b).nodes → numbers_of node_parts (get_or (state_in b).nodes i (node_in b 0)) ≡ cells_at node_parts b i
  unfolding numbers_of cells_at node_parts state_in
  node-cells i h = rw (row_made (node_in b) (number b node_count) i (node_in b 0) (rw (← length-made (node_in b) (number b node_count)) h))

  crash-cells : (i : ℕ) → i < length (plan_in b).crashes
      → numbers_of crash_parts (get_or (plan_in b).crashes i (crash_row_in b 0)) ≡ cells_at crash_parts b i
  unfolding numbers_of cells_at crash_parts plan_in
  crash-cells i h = rw (row_made (crash_row_in b) (number b crash_count) i (crash_row_in b 0) (rw (← length-made (crash_row_in b) (number b crash_count)) h))

  delay-cells : (i : ℕ) → i < length (plan_in b).delays
      → numbers_of delay_parts (get_or (plan_in b).delays i (delay_row_in b 0)) ≡ cells_at delay_parts b i
  unfolding numbers_of cells_at delay_parts plan_in
  delay-cells i h = rw (row_made (delay_row_in b) (number b delay_count) i (delay_row_in b 0) (rw (← length-made (delay_row_in b) (number b delay_count)) h))

  message-cells : (i : ℕ) → i < length (state_in b).flight
      → numbers_of message_parts (get_or (state_in b).flight i (message_in b 0)) ≡ cells_at message_parts b i
  unfolding numbers_of cells_at time_parts route_parts state_in
  message-cells i h = rw (row_made (message_in b) (number b message_count) i (message_in b 0) (rw (← length-made (message_in b) (number b message_count)) h))

  all_read : ReadFrom b (columns (plan_in b) (state_in b))
  unfolding columns ReadFrom numbers
  all_read =
      let p : Plan = plan_in b in
      let s : State = state_in b in
      let messages : ReadFrom b (after_delays p s) = columns-read b s.flight (message_in b 0) message_parts (after_messages p s) message-cells (refl, tt) in
      let delays : ReadFrom b (after_crashes p s) = columns-read b p.delays (delay_row_in b 0) delay_parts (after_delays p s) delay-cells messages in
      let crashes : ReadFrom b (after_nodes p s) = columns-read b p.crashes (crash_row_in b 0) crash_parts (after_crashes p s) crash-cells delays in
      let nodes : ReadFrom b (after_ring p s) = columns-read b s.nodes (node_in b 0) node_parts (after_nodes p s) node-cells crashes in
      let ring : ReadFrom b (columns_of ring_parts p.ring ++ after_ring p s) =
      columns-read b p.ring (cell b ring_nodes 0) ring_parts (after_ring p s) ring-cells nodes in
      columns-read b (head ∷ []) head head_parts (unused spare_head ∷ (columns_of ring_parts p.ring ++ after_ring p s)) head-cells (refl, ring)

  -- bytes of a store's length, with no more rows than places and unused bytes zero
  pub held-read : ((i : ℕ) → get_or b i 0 < 256) → length b ≡ store_size → room_test (columns (plan_in b) (state_in b)) ≡ true
      → unused_test b (columns (plan_in b) (state_in b)) ≡ true → Held b
  unfolding encode plan_in RowsFit
  held-read byte size room blank =
      record {
        size = size;
        canonical = sym (read_back b byte (columns (plan_in b) (state_in b)) 0 (rw size (placed (plan_in b) (state_in b))) room all_read blank);
        fits = record {
          nodes = length-nodes;
          counts = room-counts (plan_in b) (state_in b) length-nodes room;
          head = (rows-read-fit b (head ∷ []) head byte head_parts head-cells).0;
          ring_rows = rows-read-fit b (plan_in b).ring (cell b ring_nodes 0) byte ring_parts ring-cells;
          node_rows = rows-read-fit b (state_in b).nodes (node_in b 0) byte node_parts node-cells;
          crash_rows = rows-read-fit b (plan_in b).crashes (crash_row_in b 0) byte crash_parts crash-cells;
          delay_rows = rows-read-fit b (plan_in b).delays (delay_row_in b 0) byte delay_parts delay-cells;
          message_rows = rows-read-fit b (state_in b).flight (message_in b 0) byte message_parts message-cells;
        };
      }

-- how many there are of each kind of row, and the row at a place
pub ruleset rows_held = (
  ring-counted,
  crashes-counted,
  delays-counted,
  messages-counted,
  node-read,
  ring-number,
  crash-read,
  delay-read,
  message-read,
)
