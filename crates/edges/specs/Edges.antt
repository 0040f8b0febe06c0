-- The table of document 01's starred edges, an entry each with 01's words above it: what a definition gives there; and those of document
-- 02's line Q, of its reported emitter, of its line K, of its heartbeats with a list and of its last line F. To add one, write its line here and
-- `refl` for it in proofs/Starred.antt. Assumes nothing.
use Rattle.std.specs.Prelude.{◌≡◌, Ok, Err, List, [], ◌∷◌, ◌++◌, ℕ}
use Prim.Native.Char.{code}
use Prim.Native.String.{String, [] as empty, ◌∷◌ as before}
use Rattle.limits.specs.declared.Refusal.TheVariants.{BadForm, OutOfRange, NotRising, ShortPart, NotEachOnce}
use Rattle.ring.specs.declared.NodeBefore.{NodeBefore}
use Rattle.ring.specs.Ring.{numbers, listing, node_before, place, back, back_from, powers, targets}
use Rattle.node.specs.declared.Node.{Node}
use Rattle.node.specs.Node.{Turn, turn, due, H, O, R, message, beat, silent, sending, alone, on_message, on_heartbeat_due}
use Rattle.runfile.specs.File.{FileAnswer, accepted, turned_down, file_of}
use Rattle.plans.specs.Plan.{start_plan, with_ring, with_delay}
use Rattle.logline.specs.declared.Line.{Line}
use Rattle.logline.specs.Line.{letter_f, letter_k, read_of, line_text, written_of as line_written}
use Rattle.model.specs.Lines.{line, log}

-- the dead list with these nodes listed
unfoldable pub dead : List ℕ → ℕ
dead [] = 0
dead (i ∷ is) = listing (dead is) i

-- the forward targets of node i, and the search back from node i that is just left, in the ring of n nodes in number order
unfoldable pub targets_of : ℕ → ℕ → ℕ → List ℕ
targets_of n d i = targets (numbers 0 n) d (place (numbers 0 n) i)

unfoldable pub search_from : ℕ → ℕ → ℕ → NodeBefore
search_from n d i = back_from (numbers 0 n) d i

-- node 5 of eight with these nodes listed, these marked and 4 as emitter, watch and heartbeat due at ticks 24 and 21
unfoldable pub five : List ℕ → List ℕ → Node
five nodes marked = record { emitter = 4; observer = 6; watch = due 24; heartbeat = due 21; list = dead nodes; mark = dead marked }

-- what it does at tick 20 with a report of a subject from node 7, W being 10
unfoldable pub report_to5 : ℕ → List ℕ → List ℕ → Turn
report_to5 subject nodes marked = on_message (numbers 0 8) 10 20 5 R 7 subject 0 (five nodes marked)

-- and with a heartbeat that carries the list of these nodes
unfoldable pub beat_to5 : ℕ → List ℕ → List ℕ → List ℕ → Turn
beat_to5 from carried nodes marked = on_message (numbers 0 8) 10 20 5 H from 0 (dead carried) (five nodes marked)

-- the bytes of a text
unfoldable pub bytes : String → List ℕ
bytes empty = []
bytes (before c s) = code c ∷ bytes s

-- what a run file comes to
unfoldable pub judged : String → FileAnswer
judged file = file_of (bytes file)

-- the text of a log's lines
unfoldable pub log_text : List Line → List ℕ
log_text [] = []
log_text (l ∷ ls) = line_text l ++ log_text ls

-- the whole log of an accepted file that has fewer than 20 events
unfoldable pub written : FileAnswer → List ℕ
written (accepted p) = log_text (log p 20)
written (turned_down refusal line) = []

unfoldable pub log_of : String → List ℕ
log_of file = written (judged file)

-- the log above the starred edges, which "gains `K,6,0,1,0000000000000002` after its W line" by document 02's #103
unfoldable pub worked_log : List ℕ
worked_log =
    bytes "S,2,0,1,0000000000000000\n"
    ++ bytes "S,2,1,0,0000000000000000\n"
    ++ bytes "C,3,1,1,0000000000000000\n"
    ++ bytes "X,3,1,0,0000000000000000\n"
    ++ bytes "H,3,0,1,0000000000000000\n"
    ++ bytes "S,4,0,1,0000000000000000\n"
    ++ bytes "X,5,1,0,0000000000000000\n"
    ++ bytes "W,6,0,1,0000000000000002\n"
    ++ bytes "K,6,0,1,0000000000000002\n"
    ++ bytes "E,6,1,0,0000000000000002\n"

pub record Edges : Type 0 where
  -- "the log above"
  pub worked-log : log_of "P,2,2,3,1,6\nC,3,1\n" ≡ worked_log
  -- "P,1,1,2,1,5 logs only `E,5,1,0,0000000000000000`"
  pub lone-log : log_of "P,1,1,2,1,5\n" ≡ bytes "E,5,1,0,0000000000000000\n"
  -- "H 2, D 1: W 3 passes"
  pub watch-3-passes : judged "P,2,2,3,1,6\n" ≡ accepted (start_plan 2 2 3 1 6)
  -- "01's edge W 2 now passes", by document 02's #109
  pub watch-2-passes : judged "P,2,2,2,1,6\n" ≡ accepted (start_plan 2 2 2 1 6)
  -- "N 8, nodes 2 and 3 listed: targets of 1 are 4, 5, 7"
  pub targets-of-1 : targets_of 8 (dead (2 ∷ 3 ∷ [])) 1 ≡ 4 ∷ 5 ∷ 7 ∷ []
  -- "of 7 are 0, 1, 5"
  pub targets-of-7 : targets_of 8 (dead (2 ∷ 3 ∷ [])) 7 ≡ 0 ∷ 1 ∷ 5 ∷ []
  -- "m 4: powers 1, 2"
  pub powers-below-4 : powers 4 ≡ 1 ∷ 2 ∷ []
  -- "m 5: 1, 2, 4"
  pub powers-below-5 : powers 5 ≡ 1 ∷ 2 ∷ 4 ∷ []
  -- "N 5, node 0 with 3 and 4 listed goes back from 4 to 2"
  pub back-over-listed : (search_from 5 (dead (3 ∷ 4 ∷ [])) 4).node ≡ 2
  -- "with all others listed, to itself"
  pub back-to-itself : (search_from 5 (dead (1 ∷ 2 ∷ 3 ∷ 4 ∷ [])) 4).node ≡ 0
  -- "D 5: delay 5 passes"
  pub delay-5-passes : judged "P,2,2,7,5,6\nL,0,5\n" ≡ accepted (with_delay (start_plan 2 2 7 5 6) (record { number = 0; delay = 5 }))
  -- "0 and 6 get 3"
  pub delay-0-refused : judged "P,2,2,7,5,6\nL,0,0\n" ≡ turned_down OutOfRange 2
  pub delay-6-refused : judged "P,2,2,7,5,6\nL,0,6\n" ≡ turned_down OutOfRange 2
  -- "after `C,3,1`, both `C,3,1` and `C,3,0` get 5"
  pub crash-twice-refused : judged "P,2,2,3,1,6\nC,3,1\nC,3,1\n" ≡ turned_down NotRising 3
  pub crash-falling-refused : judged "P,2,2,3,1,6\nC,3,1\nC,3,0\n" ≡ turned_down NotRising 3
  -- the line Q of document 02, #101: three nodes, the ring 1, 0, 2
  -- "one line Q with N node numbers parted by commas, each exactly once"
  pub ring-taken : judged "P,3,2,3,1,2\nQ,1,0,2\n" ≡ accepted (with_ring (start_plan 3 2 3 1 2) (1 ∷ 0 ∷ 2 ∷ []))
  -- "Before, after, ahead and back then follow the ring's order; events, lists and log columns still go by node number"
  pub ring-log : log_of "P,3,2,3,1,2\nQ,1,0,2\n"
      ≡ bytes "S,2,0,2,0000000000000000\n"
      ++ bytes "S,2,1,0,0000000000000000\n"
      ++ bytes "S,2,2,1,0000000000000000\n"
      ++ bytes "E,2,3,3,0000000000000000\n"
  -- "13, Q is not each node once; tried after 3 on the Q line"
  pub node-twice-refused : judged "P,3,2,3,1,2\nQ,1,0,1\n" ≡ turned_down NotEachOnce 2
  pub no-node-before-twice : judged "P,3,2,3,1,2\nQ,1,1,3\n" ≡ turned_down OutOfRange 2
  -- form: another count of numbers, and a place that is not right "after P"
  pub two-numbers-refused : judged "P,3,2,3,1,2\nQ,1,0\n" ≡ turned_down BadForm 2
  pub four-numbers-refused : judged "P,3,2,3,1,2\nQ,1,0,2,1\n" ≡ turned_down BadForm 2
  pub ring-twice-refused : judged "P,3,2,3,1,2\nQ,1,0,2\nQ,1,0,2\n" ≡ turned_down BadForm 3
  pub ring-after-crash-refused : judged "P,3,2,3,1,2\nC,1,0\nQ,1,0,2\n" ≡ turned_down BadForm 3
  -- the report of document 02, #102: node 5 of eight, whose emitter is 4
  -- "such a report makes the node move in the same event: list, new emitter, watch due tick + 2 × W, O to the new emitter, then the R messages"
  pub emitter-reported : report_to5 4 (3 ∷ []) []
      ≡ record {
        node = record { emitter = 2; observer = 6; watch = due 40; heartbeat = due 21; list = dead (3 ∷ 4 ∷ []); mark = dead (4 ∷ []) };
        sends = message O 2 0 ∷ message R 6 4 ∷ message R 7 4 ∷ message R 1 4 ∷ [];
        passed = 2;
      }
  -- "if it is alone, it stops as at an expiry"
  pub last-emitter-reported : report_to5 4 (0 ∷ 1 ∷ 2 ∷ 3 ∷ 6 ∷ 7 ∷ []) (3 ∷ [])
      ≡ turn (alone 5 (dead (0 ∷ 1 ∷ 2 ∷ 3 ∷ 4 ∷ 6 ∷ 7 ∷ [])) (dead (3 ∷ 4 ∷ []))) [] 7
  -- a report of any other node as before: listed and relayed, and nothing where it is the node itself
  pub other-reported : report_to5 3 (2 ∷ []) (2 ∷ [])
      ≡ sending (five (2 ∷ 3 ∷ []) (2 ∷ 3 ∷ [])) (message R 6 3 ∷ message R 7 3 ∷ message R 1 3 ∷ [])
  pub itself-reported : report_to5 5 (3 ∷ []) (3 ∷ []) ≡ silent (five (3 ∷ []) (3 ∷ []))
  -- the line K of document 02, #103
  -- "how many listed nodes it passed, the one just left included"
  pub passes-two : search_from 5 (dead (3 ∷ 4 ∷ [])) 4 ≡ node_before 2 2
  -- nodes that are listed elsewhere are not passed
  pub passes-three : search_from 8 (dead (2 ∷ 3 ∷ 4 ∷ 6 ∷ [])) 4 ≡ node_before 1 3
  -- "becoming alone included": up to the node itself; of three nodes, node 0 left 2 before and now leaves 1
  pub passes-to-itself : search_from 5 (dead (1 ∷ 2 ∷ 3 ∷ 4 ∷ [])) 4 ≡ node_before 0 4
  pub passes-one : search_from 3 (dead (1 ∷ 2 ∷ [])) 1 ≡ node_before 0 1
  -- at opening nothing was left, and nothing is listed
  pub passes_none : back (numbers 0 3) 0 (place (numbers 0 3) 0) ≡ node_before 2 0
  -- its line is read, with a number to 63; "a sixth column" is not of its form
  pub move_read : read_of (bytes "K,6,0,63,0000000000000002\n") ≡ Ok (line letter_k 6 0 63 2)
  pub move-64-refused : read_of (bytes "K,6,0,64,0000000000000002\n") ≡ Err OutOfRange
  pub six-columns-refused : read_of (bytes "K,6,0,1,0000000000000002,7\n") ≡ Err BadForm
  -- "Number 9 now reads under 80 for every log part"
  pub part-80-written : line_written (line letter_k 6 0 1 2) 80 ≡ Ok 25
  pub part-79-refused : line_written (line letter_k 6 0 1 2) 79 ≡ Err ShortPart
  -- the heartbeats of document 02, #107: node 5 of eight, whose emitter is 4
  -- "Each H message carries its sender's list"
  pub list-carried : on_heartbeat_due 3 21 (five (3 ∷ []) [])
      ≡ sending (record { emitter = 4; observer = 6; watch = due 24; heartbeat = due 24; list = dead (3 ∷ []); mark = 0 }) (beat 6 (dead (3 ∷ [])) ∷ [])
  -- "A receiver whose emitter sent it adds those nodes, never itself or the sender"; "nodes learnt this way aren't relayed from there"
  pub list-added : beat_to5 4 (1 ∷ 4 ∷ 5 ∷ 7 ∷ []) (3 ∷ []) (3 ∷ [])
      ≡ silent (record { emitter = 4; observer = 6; watch = due 30; heartbeat = due 21; list = dead (1 ∷ 3 ∷ 7 ∷ []); mark = dead (3 ∷ []) })
  pub no-emitter-heard : beat_to5 7 (1 ∷ []) (3 ∷ []) (3 ∷ []) ≡ silent (five (3 ∷ []) (3 ∷ []))
  -- "a node relays the first R of each subject it gets, also where a heartbeat named it earlier", and no other
  pub named-reported : report_to5 3 (3 ∷ []) [] ≡ sending (five (3 ∷ []) (3 ∷ [])) (message R 6 3 ∷ message R 7 3 ∷ message R 1 3 ∷ [])
  pub marked-reported : report_to5 3 (3 ∷ []) (3 ∷ []) ≡ silent (five (3 ∷ []) (3 ∷ []))
  -- the last line F of document 02, #109
  -- "such a run's last line has the letter F instead of E"
  pub short-log : log_of "P,2,2,2,1,2\n"
      ≡ bytes "W,2,0,1,0000000000000002\n"
      ++ bytes "K,2,0,1,0000000000000002\n"
      ++ bytes "W,2,1,0,0000000000000001\n"
      ++ bytes "K,2,1,1,0000000000000001\n"
      ++ bytes "F,2,2,0,0000000000000000\n"
  -- "the log reader takes F as E"
  pub last-read : read_of (bytes "F,6,64,2048,0000000000000002\n") ≡ Ok (line letter_f 6 64 2048 2)
  pub last-65-refused : read_of (bytes "F,6,65,0,0000000000000002\n") ≡ Err OutOfRange
  pub last-2049-refused : read_of (bytes "F,6,64,2049,0000000000000002\n") ≡ Err OutOfRange
