-- Document 01's starred edges hold, and those of document 02's line Q, reported emitter, line K, heartbeats with a list and last line F: each
-- definition computes to what the table says. Assumes nothing.
use mathlib.Core.Path.{refl}
use Rattle.ring.specs.Ring.{among, each_once, listing_all, unlisting, merging}
use Rattle.ring.specs.Ring.{keep, numbers, listed, listing, passing, unlisted, place, round, ahead, first_unlisted, back, next, count, powers}
use Rattle.ring.specs.Ring.{jumps, targets}
use Rattle.node.specs.Node.{reports, opening as node_opening, learnt, on_heartbeat, on_observer, on_report, on_heartbeat_due, leaving, on_message}
use Rattle.text.specs.Number.{digit, decimal}
use Rattle.text.specs.Hex.{hex_byte, hex_value}
use Rattle.text.specs.Field.{ends, onto, number_field_at, list_field_at}
use Rattle.runfile.specs.File.{lines, two_of, crash_of, delay_of, start_of, form_of}
use Rattle.runfile.specs.File.{row_of, or_else, start_line, early, crash_line, delay_line, first_line}
use Rattle.runfile.specs.File.{numbers_then, ring_of, fresh, ring_line, later_line, step_then, later_lines, all_lines, file_of}
use Rattle.plans.specs.Plan.{within, start_ranges, long_enough, crash_range, delay_range, rising_from, rising, later, hits, none_twice, crash_order, above}
use Rattle.plans.specs.Plan.{with_crashed, delay_order, few_delays, start_plan, with_ring, with_crash, with_delay, ring_order, order_of, every, ring_range}
use Rattle.logline.specs.Line.{ranges, within as line_within, form_of as line_form, tried as line_tried, read_of, line_text, written_of as line_written}
use Rattle.model.specs.Platform.{alive, survivors, crashed_list, start, crash_entries, message_entries, timer_entry, timer_entries, pending, earlier}
use Rattle.model.specs.Platform.{first, up_to, next_event, delay_in, numbered, taken, without, received, apply, fits, tried, try, delay_of as message_delay}
use Rattle.model.specs.Lines.{other_of, last_letter, last_line, lines_from, log, moves}
use Rattle.model.specs.Lines.{crash_deed, message_deed, watch_deed, heartbeat_deed, deed_of, deed_lines}
use Rattle.edges.specs.Edges.{dead, targets_of, search_from, five, report_to5, beat_to5, bytes, judged, log_text, written, log_of, worked_log, Edges}

pub edges : Edges
unfolding among each_once listing_all unlisting merging numbers_then ring_of fresh ring_line with_ring ring_order order_of every ring_range keep numbers
    listed listing passing unlisted place round ahead first_unlisted back next count powers jumps targets dead targets_of search_from five report_to5
    beat_to5 reports node_opening learnt on_heartbeat on_observer on_report on_heartbeat_due leaving on_message digit decimal hex_byte number_field_at ends
    within start_ranges long_enough crash_range delay_range rising_from rising later hits none_twice crash_order above delay_order few_delays onto lines
    start_plan two_of crash_of delay_of start_of form_of row_of or_else with_crash with_delay start_line early crash_line delay_line first_line
    later_line step_then later_lines all_lines file_of line_text alive survivors with_crashed crashed_list start crash_entries message_entries timer_entry
    timer_entries pending earlier first up_to next_event delay_in message_delay numbered taken without received apply fits tried try other_of last_letter
    last_line lines_from log bytes judged log_text written log_of worked_log moves crash_deed message_deed watch_deed heartbeat_deed deed_of deed_lines
    ranges line_within line_form line_tried read_of line_written list_field_at hex_value
edges = record {
  worked-log = refl;
  lone-log = refl;
  watch-3-passes = refl;
  watch-2-passes = refl;
  targets-of-1 = refl;
  targets-of-7 = refl;
  powers-below-4 = refl;
  powers-below-5 = refl;
  back-over-listed = refl;
  back-to-itself = refl;
  delay-5-passes = refl;
  delay-0-refused = refl;
  delay-6-refused = refl;
  crash-twice-refused = refl;
  crash-falling-refused = refl;
  ring-taken = refl;
  ring-log = refl;
  node-twice-refused = refl;
  no-node-before-twice = refl;
  two-numbers-refused = refl;
  four-numbers-refused = refl;
  ring-twice-refused = refl;
  ring-after-crash-refused = refl;
  emitter-reported = refl;
  last-emitter-reported = refl;
  other-reported = refl;
  itself-reported = refl;
  passes-two = refl;
  passes-three = refl;
  passes-to-itself = refl;
  passes-one = refl;
  passes_none = refl;
  move_read = refl;
  move-64-refused = refl;
  six-columns-refused = refl;
  part-80-written = refl;
  part-79-refused = refl;
  list-carried = refl;
  list-added = refl;
  no-emitter-heard = refl;
  named-reported = refl;
  marked-reported = refl;
  short-log = refl;
  last-read = refl;
  last-65-refused = refl;
  last-2049-refused = refl;
}
