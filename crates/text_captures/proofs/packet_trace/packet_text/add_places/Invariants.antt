-- The lines so far are added.
use Rattle.std.proofs.Common.{◌≤◌, ◌+◌, ◌*◌}
use Rattle.text_report.specs.TextCursor.{Extends}
use Rattle.text_captures.specs.packet_trace.StepText.{place_texts}
use Rattle.text_captures.proofs.packet_trace.packet_text.add_places.Given as goal

abbrev pub invariant-loop-member : goal.invariant-loop-member
invariant-loop-member l = record {
  text : Extends l.fn.line l.line (place_texts l.table.source.table l.member);
  end : l.line.at ≤ l.fn.line.at + 10 * l.member;
}
