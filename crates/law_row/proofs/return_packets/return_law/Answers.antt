-- The return packets of a session.
use Rattle.law_row.proofs.LastWordAndReturnPacketLaws.{told-said, is_packet, told_in-nibbles, said-nibbles}
use Rattle.law_row.proofs.return_packets.return_law.Goals as goal

pub returns-clause-told : goal.returns-clause-told
returns-clause-told c = told-said

pub returns-clause-said : goal.returns-clause-said
returns-clause-said c = said-nibbles

pub returns-clause-packet : goal.returns-clause-packet
returns-clause-packet c = is_packet

pub returns-clause-wire : goal.returns-clause-wire
returns-clause-wire c = told_in-nibbles
