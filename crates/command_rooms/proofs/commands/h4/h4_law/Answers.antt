-- By the laws of the text and of the packets.
use Rattle.std.proofs.Common.{ap}
use Rattle.command_rooms.specs.commands.Decode.{decoded}
use Rattle.command_rooms.specs.commands.H4.{h4_octets}
use Rattle.command_rooms.proofs.H4TextAndPacketsLaws.{octet, packet, lower-half, packet-read, octets-small}
use Rattle.command_rooms.proofs.H4TextAndPacketsLaws.{packets-all}
use Rattle.command_rooms.proofs.H4TextAndPacketsLaws.{text-read}
use Rattle.command_rooms.proofs.commands.h4.h4_law.Goals as goal

pub returns-clause-reads : goal.returns-clause-reads
returns-clause-reads c script line frames valid =
    ap decoded (text-read (h4_octets script line frames) (octets-small script line valid frames))

pub returns-clause-packets : goal.returns-clause-packets
returns-clause-packets c script line frames valid =
    packets-all (octet script line valid) (packet script line valid) (lower-half script line valid)
    (packet-read script line valid) frames
