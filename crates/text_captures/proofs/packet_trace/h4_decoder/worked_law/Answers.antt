-- Both texts are computed.
use Rattle.text_captures.proofs.H4PacketDecodingLaws.{are_read, is_refused}
use Rattle.text_captures.proofs.packet_trace.h4_decoder.worked_law.Goals as goal

pub returns-clause-read : goal.returns-clause-read
returns-clause-read c = are_read

pub returns-clause-refused : goal.returns-clause-refused
returns-clause-refused c = is_refused
