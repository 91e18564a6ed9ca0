-- A line more is added.
use Rattle.std.proofs.Common.{arith}
use Rattle.text_captures.proofs.H4PacketDecodingLaws.{places-next}
use Rattle.text_captures.proofs.packet_trace.packet_text.add_places.Goals as goal

pub loop-member-preserved : goal.loop-member-preserved
loop-member-preserved c = record {
  text = places-next c.args.line.now c.loop-member.line c.add_place.new.line c.args.table.now.source.table
      c.loop-member.member c.loop-member.invariant.text c.add_place.ensures.text;
  end = omega (arith, c.loop-member.invariant.end, c.add_place.ensures.end);
}
