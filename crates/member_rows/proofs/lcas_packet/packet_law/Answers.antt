-- The laws of what is read stand with its definition.
use Rattle.law_model.proofs.PacketNibblesLaws.{read_of-packet_nibbles, read_of-accepted, are_nibbles-true}
use Rattle.law_model.proofs.PacketNibblesLaws.{accepted_cleared, accepted_IsPacket}
use Rattle.member_rows.proofs.lcas_packet.packet_law.Goals as goal

pub returns-clause-back : goal.returns-clause-back
returns-clause-back c = read_of-packet_nibbles

pub returns-clause-nibbles : goal.returns-clause-nibbles
returns-clause-nibbles c nibbles packet e = are_nibbles-true nibbles (read_of-accepted nibbles packet e).are

pub returns-clause-check : goal.returns-clause-check
returns-clause-check c nibbles packet e = (read_of-accepted nibbles packet e).check

pub returns-clause-cleared : goal.returns-clause-cleared
returns-clause-cleared c nibbles packet e = accepted_cleared nibbles packet (read_of-accepted nibbles packet e)

pub returns-clause-octets : goal.returns-clause-octets
returns-clause-octets c nibbles packet e = accepted_IsPacket nibbles packet (read_of-accepted nibbles packet e)
