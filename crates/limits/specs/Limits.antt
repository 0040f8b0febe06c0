-- The figures of document 01 and those that document 02 adds, each once. Assumes nothing.
use Rattle.std.specs.Prelude.{ℕ, ◌*◌}

-- 'N is the number of nodes, 1 to 64'
abbrev pub most_nodes : ℕ
most_nodes = 64

-- 'H 1 to 1,000'
abbrev pub most_h : ℕ
most_h = 1000

-- 'W 1 to 65,535'
abbrev pub most_w : ℕ
most_w = 65535

-- 'D 1 to 255'
abbrev pub most_d : ℕ
most_d = 255

-- 'end 0 to 1,000,000'; the tick of a node call and that of a log line go up to it too
abbrev pub most_tick : ℕ
most_tick = 1000000

-- the highest message number of an L line: 'number 0 to 999,999'
abbrev pub most_number : ℕ
most_number = 999999

-- the most L lines: 'at most 2,048'
abbrev pub most_delays : ℕ
most_delays = 2048

-- the most messages that may be in flight: '2,048 in flight passes, 2,049 gets 8'
abbrev pub most_in_flight : ℕ
most_in_flight = 2048

-- 'a store whose next number is above 4,000,000,000,000 is out of range'
abbrev pub most_next : ℕ
most_next = 4000000000000

-- 'The store is 65,536 lent bytes'
abbrev pub store_size : ℕ
store_size = 65536

-- the most stores of a dispatcher's part: document 02, #104, 'up to eight opened stores'
abbrev pub most_stores : ℕ
most_stores = 8

-- the most events of a turn: 'turns of a stated number of events, 1 to 1,000'
abbrev pub most_turn : ℕ
most_turn = 1000

-- 'a 64-byte node record'
abbrev pub record_size : ℕ
record_size = 64

-- the messages that a node call sends: 'at most seven'
abbrev pub most_sent : ℕ
most_sent = 7

-- document 02, #107: 'a message becomes 16'
abbrev pub message_size : ℕ
message_size = 16

-- ---- lent parts

-- the longest run file: '0 or above 65,536 bytes' gets 1
abbrev pub most_bytes : ℕ
most_bytes = 65536

-- the least length of a log part: document 02, #103, 'under 80 for every log part' gets 9
abbrev pub log_room : ℕ
log_room = 80

-- of a message part: document 02, #107, 'under 112 for messages' gets 9
abbrev pub part_size : ℕ
part_size = most_sent * message_size

-- of a file part: 'under 65,536 for a run file' gets 9
abbrev pub file_room : ℕ
file_room = 65536
