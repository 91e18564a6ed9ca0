-- No octets have no packet, whole or begun.
use Rattle.std.proofs.Common.{refl}
use Rattle.text_captures.specs.packet_trace.Decoder.{begun_on}
use Rattle.text_captures.proofs.packet_trace.h4_decoder.H4Decoder.new.Goals as goal

pub returns-clause-stands : goal.returns-clause-stands
unfolding begun_on
returns-clause-stands c = record { count = refl; lock = c.new.ensures; begun = refl }
