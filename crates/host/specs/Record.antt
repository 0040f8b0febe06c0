-- The node record of document 01, "a 64-byte node record, which also holds its own number, N, H, W and the last tick", and by document 02, #107, "a second
-- 64-bit mark": what it holds, its bytes and the range of each field. docs/LAYOUTS.md has the same as a table. Assumes nothing.
use Rattle.std.specs.Prelude.{Bool, ◌&&◌, List, ◌++◌, ℕ, ◌-◌, eqb, leb, ltb, length, replicate}
use Rattle.std.proofs.Math.Seq.{slice}
use Rattle.fields.specs.Fields.{bytes, field_at, zeros}
use Rattle.limits.specs.Limits.{most_nodes, most_h, most_w, most_tick, record_size}
use Rattle.node.specs.declared.Node.{Node}
use Rattle.node.specs.Range.{node_test, live_test}
use Rattle.host.specs.declared.Record.{Record}

-- ---- bytes

-- between the timers and the mark are spare bytes, from here on
abbrev pub gap_from : ℕ
gap_from = 28

-- the mark's place
abbrev pub mark_at : ℕ
mark_at = 32

-- the bytes from here to the end are spare
abbrev pub spare_from : ℕ
spare_from = 40

-- the bytes of a record, each number with its lowest byte first: its own number, N, H and W
unfoldable pub numbers_bytes : Record → List ℕ
numbers_bytes r = bytes 1 r.number ++ (bytes 1 r.nodes ++ (bytes 2 r.h ++ bytes 2 r.w))

-- its emitter, its observer and its dead list
unfoldable pub neighbours_bytes : Node → List ℕ
neighbours_bytes n = bytes 1 n.emitter ++ (bytes 1 n.observer ++ bytes 8 n.list)

-- its last tick and its timers
unfoldable pub ticks_bytes : ℕ → Node → List ℕ
ticks_bytes last n = bytes 4 last ++ (bytes 4 n.watch ++ bytes 4 n.heartbeat)

-- four that are zero, and its mark
unfoldable pub mark_bytes : Node → List ℕ
mark_bytes n = bytes 4 0 ++ bytes 8 n.mark

unfoldable pub encode : Record → List ℕ
encode r =
    numbers_bytes r ++ (neighbours_bytes r.node ++ (ticks_bytes r.last r.node
    ++ (mark_bytes r.node ++ replicate (record_size - spare_from) 0)))

-- the record in 64 bytes
unfoldable pub decode : List ℕ → Record
decode s = record {
  number = field_at s 0 1;
  nodes = field_at s 1 1;
  h = field_at s 2 2;
  w = field_at s 4 2;
  last = field_at s 16 4;
  node = record {
    emitter = field_at s 6 1;
    observer = field_at s 7 1;
    watch = field_at s 20 4;
    heartbeat = field_at s 24 4;
    list = field_at s 8 8;
    mark = field_at s mark_at 8;
  };
}

-- ---- ranges

-- the numbers that opening takes: N "1 to 64", a number below N, "H 1 to 1,000; W 1 to 65,535"
unfoldable pub openable : ℕ → ℕ → ℕ → ℕ → Bool
openable number nodes h w =
    leb 1 nodes && (leb nodes most_nodes && (ltb number nodes && (leb 1 h && (leb h most_h && (leb 1 w && leb w most_w)))))

-- the node is in range at the last tick, and as a live one, as "a record's node is always alive". A timer may be overdue, as messages
-- are delivered all the same
unfoldable pub in_range : Record → Bool
in_range r =
    openable r.number r.nodes r.h r.w
    && (leb r.last most_tick && (node_test r.nodes r.h r.w r.last r.node && live_test r.number r.node))

-- the bytes of a record that a call takes: 64, the spare ones zero, each field in its range
unfoldable pub sound : List ℕ → Bool
sound s =
    eqb (length s) record_size && (zeros (slice gap_from mark_at s) && (zeros (slice spare_from record_size s) && in_range (decode s)))
