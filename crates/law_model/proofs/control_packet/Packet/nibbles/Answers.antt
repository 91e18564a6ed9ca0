-- The check is written after the nibbles that it covers.
use Rattle.std.proofs.Common.{refl}
use Rattle.law_model.proofs.control_packet.Packet.nibbles.Goals as goal

pub returns : goal.returns
returns c = rw (
  c.nibble_hi.ensures,
  c.nibble_lo.ensures,
  c.crc8-check.ensures.value,
  c.copy_from_slice.ensures.after,
  c.covered-covered.ensures.value,
) refl
