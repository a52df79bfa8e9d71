-- What traces and their segments are, for proofs and for the crates above: each word from the file that defines it.
pub use Rattle.trace_segments.specs.Gathered.{AreOfRows, IsOfRows, segments_from}
pub use Rattle.trace_segments.specs.Gathering.{AreFew, Gathering, Gives, Waits, are_all_there, first_of, first_rows, is_stranger, no_segments, place_fault, segment_fault, segments_at, taken_of, with_segment}
pub use Rattle.trace_segments.specs.Intervals.{HasInterval, interval_count, interval_width, rows_before, rows_from, rows_within}
unfoldable pub use Rattle.trace_segments.specs.Intervals.{cut}
pub use Rattle.trace_segments.specs.Known.{is_in_network, is_known, vl_of}
pub use Rattle.trace_segments.specs.Ordered.{AreAtReceivers, AreInMessageOrder, IsInOrder, rows_of_event}
pub use Rattle.trace_segments.specs.Places.{IsOfOneGroup, gathered}
pub use Rattle.trace_segments.specs.Segments.{BatchRows, SegmentRows, group_segment_of, is_at_within, is_between, segment_of}
pub use Rattle.trace_segments.specs.Sinking.{IsBeginning}
pub use Rattle.trace_segments.specs.Text.{cause_name, line, next_text, note_fields, place_name, trace_head, trace_line, trace_text}
pub use Rattle.trace_segments.specs.Writing.{Adds, Holds}
