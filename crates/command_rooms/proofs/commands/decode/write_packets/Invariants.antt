-- The lines of the octets so far are written.
use Rattle.std.proofs.Common.{◌≡◌, ◌≤◌, take}
use Rattle.text_captures.specs.packet_trace.Decoder.{DecoderStands}
use Rattle.command_rooms.specs.DecodingSoFar.{HasLines}
use Rattle.command_rooms.proofs.commands.decode.write_packets.Given as goal

abbrev pub invariant-loop-h4 : goal.invariant-loop-h4
invariant-loop-h4 g l = record {
  stands : DecoderStands l.decoder (take l.h4-index l.octets);
  lines : HasLines g.K.ByteSink.written g.K.ByteSink.faults (take l.h4-index l.octets) l.fn.out l.out l.packets;
  given : l.decoder.given ≡ l.h4-index;
  bound : l.packets ≤ l.h4-index;
}
