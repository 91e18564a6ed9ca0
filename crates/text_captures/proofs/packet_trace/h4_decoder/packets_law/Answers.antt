-- Each clause is a law over lists of octets.
use Rattle.text_captures.proofs.H4PacketDecodingLaws.{are_worded, are_only, packets_stay}
use Rattle.text_captures.proofs.packet_trace.h4_decoder.packets_law.Goals as goal

pub returns-clause-worded : goal.returns-clause-worded
returns-clause-worded c = are_worded

pub returns-clause-only : goal.returns-clause-only
returns-clause-only c = are_only

pub returns-clause-stay : goal.returns-clause-stay
returns-clause-stay c = packets_stay
