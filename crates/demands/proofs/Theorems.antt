-- THE THEOREMS: the customer's three demands, and what request 104 claims. The statements stand in specs/Demands.antt. Assumes nothing.
use Rattle.runfile.proofs.RoundTrip.{written_back, accepted-plan, read_back}
use Rattle.runfile.proofs.Refusals.{refused-by-line}
use Rattle.logline.proofs.LineTrip.{refused-number, written-of-read, read-of-written}
use Rattle.logline.proofs.ColumnTrip.{five-columns}
use Rattle.rehearsal.proofs.Parts.{whole-output}
use Rattle.dispatcher.proofs.Theorems.{dispatches-lent}
use Rattle.planner.proofs.Opening.{taken-apart}
use Rattle.demands.specs.Demands.{Demand1, Demand2, Demand3, Request104}
use Rattle.demands.proofs.Demand1.{start-taken, file-length, open-down, step_down, run_down, run-bad-store, write-down, dispatch-down}
use Rattle.demands.proofs.Demand1.{open-line, step-numbers, run-numbers, write-numbers, dispatch-numbers}
use Rattle.demands.proofs.Demand1.{open-record-down, deliver-down, fire-down, records-stay}
use Rattle.demands.proofs.Demand1.{line-taken, line-only, line-down, table-down, never-four}
use Rattle.demands.proofs.Demand2.{next-events, lent-events, step-puts, run-puts, write-puts, dispatch-puts, line_read, last-read, last-letters}
use Rattle.demands.proofs.Demand2.{last-ranges, file-again}
use Rattle.demands.proofs.Nodes.{rehearsed}
use Rattle.demands.proofs.Demand3.{any-calls}

-- refused by number, with nothing lent to the call written, and all else accepted
pub demand1 : Demand1
demand1 = record {
  file_taken = read_back;
  start_taken = start-taken;
  file_length = file-length;
  file_number = refused-by-line;
  file_only = λ file p ok. (written_back file p ok, accepted-plan file p ok);
  opening = open-down;
  stepping = step_down;
  running = run_down;
  bad_store = run-bad-store;
  writing = write-down;
  dispatching = dispatch-down;
  opening_line = open-line;
  opening_number = taken-apart;
  step_numbers = step-numbers;
  run_numbers = run-numbers;
  write_numbers = write-numbers;
  dispatch_numbers = dispatch-numbers;
  node_open = open-record-down;
  node_deliver = deliver-down;
  node_timers = fire-down;
  records_stay = records-stay;
  line_taken = line-taken;
  line_number = refused-number;
  line_only = line-only;
  line_writing = line-down;
  table = table-down;
  never_four = never-four;
}

-- every event and line as 01 fixes them, and the same bytes when read and written again
pub demand2 : Demand2
demand2 = record {
  nodes = rehearsed;
  events = next-events;
  lent_events = lent-events;
  step_puts = step-puts;
  run_puts = run-puts;
  write_puts = write-puts;
  dispatch_puts = dispatch-puts;
  lines = line_read;
  last_lines = last-read;
  last_letters = last-letters;
  last_ranges = last-ranges;
  columns = five-columns;
  program = whole-output;
  file_again = file-again;
  line_again = written-of-read;
  line_back = read-of-written;
}

-- no live node is ever listed, and the platform settles between two crashes
pub demand3 : Demand3
demand3 = any-calls

-- each turn of an accepted call of the dispatcher, and what all of them leave of each store
pub request104 : Request104
request104 = record { dispatched = dispatches-lent }
