-- The words that most definitions and proofs cite, passed on from one place. Declares nothing.
pub use Rattle.fate_engine.specs.fate_core.FateBySegment.{begins_from, fate_around, fate_by_mark, is_true_of, settles}
pub use Rattle.fate_engine.specs.fate_core.Packets.{AreApart, ArePacketRuns, ArePackets, Follows, IsPacketList, IsRun, PacketList}
pub use Rattle.fate_engine.specs.fate_core.Packets.{active_in, lines_of, octets_of, packets_in, start_by}
pub use Rattle.fate_engine.specs.fate_core.Runs.{AreRuns, RunList}
unfoldable pub use Rattle.fate_engine.specs.fate_core.Runs.{with_row}
pub use Rattle.fate_engine.specs.fate_core.Segments.{AreSegments, IsAround, SegmentList, Tells, broken_off}
pub use Rattle.fate_engine.specs.fate_core.Segments.{ended_segments, gone_on, is_told, last_segment}
pub use Rattle.fate_engine.specs.fate_core.FrameSides.{IsBegun, IsRuler, begun_before, is_fourth, ruler_in, side_of}
pub use Rattle.fate_engine.specs.fate_core.FrameSides.{with_begun}
pub use Rattle.fate_engine.specs.fate_core.Totals.{counted}
pub use Rattle.fate_engine.specs.fate_core.WholeContainers.{whole_in, whole_on}
pub use Rattle.fate_engine.specs.fate_law.FateText.{cause_text, ended_text, fates_end, fates_text, mark_text}
pub use Rattle.fate_engine.specs.fate_law.FateText.{segment_text, spoiled_text, truth_text}
pub use Rattle.fate_engine.specs.fate_law.Fates.{HasPlace, carried_fate, fate_after, fate_in, fate_of, frames_got}
pub use Rattle.fate_engine.specs.fate_law.Fates.{is_got, is_settled_by, place_at, row_at, spoiled_after}
unfoldable pub use Rattle.fate_engine.specs.fate_law.Fates.{fate_among, row_from, spoiled_from}
pub use Rattle.fate_engine.specs.fate_law.Marks.{are_true_marks, has_true_mark, is_piece_at, is_true_mark}
unfoldable pub use Rattle.fate_engine.specs.fate_law.Marks.{places}
pub use Rattle.fate_engine.specs.fate_law.Ruler.{Ruler, idles_to, new_ruler, ruler_of, sides, with_waiting}
unfoldable pub use Rattle.fate_engine.specs.fate_law.Ruler.{ruled}
pub use Rattle.fate_engine.specs.fate_law.SessionFates.{End, Ended, accepted, count_of, does_wait, ended_among}
pub use Rattle.fate_engine.specs.fate_law.SessionFates.{ended_by, ended_of, ended_then, fate_at, fate_if, got_frames}
pub use Rattle.fate_engine.specs.fate_law.SessionFates.{has_got, has_waited, is_refused, refused}
unfoldable pub use Rattle.fate_engine.specs.fate_law.SessionFates.{ended_on}
pub use Rattle.fate_engine.specs.fate_law.Spans.{Span, Spans, fate_by_rows, has_row, later_segments, no_spans}
pub use Rattle.fate_engine.specs.fate_law.Spans.{row_segment, row_segments, span_by, spans}
unfoldable pub use Rattle.fate_engine.specs.fate_law.Spans.{mark_of_row, row_segments_with, spans_on}
pub use Rattle.fate_engine.specs.fate_law.RowCauses.{cause_under, container_cause, lesser, packet_cause}
pub use Rattle.fate_engine.specs.fate_law.RowCauses.{row_cause, same_cause, spoiled_of, spoiled_then}
unfoldable pub use Rattle.fate_engine.specs.fate_law.RowCauses.{least_failing, spoiled_runs}
pub use Rattle.fate_engine.specs.fate_text.FateLineText.{item_text, last_text, told_text}
