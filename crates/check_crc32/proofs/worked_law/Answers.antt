-- Both are computed.
use Rattle.std.proofs.Common.{refl}
use Rattle.check_remainder.specs.Bits.{bits, number_behind, octets_of, xors}
use Rattle.check_remainder.specs.Remainder.{add_front, divide}
use Rattle.check_crc32.specs.Crc32.{rest_of, check_bits}
use Rattle.check_crc32.proofs.worked_law.Goals as goal

pub returns-clause-most : goal.returns-clause-most
unfolding check_bits rest_of bits number_behind octets_of xors add_front divide
returns-clause-most c = refl

pub returns-clause-least : goal.returns-clause-least
unfolding check_bits rest_of bits number_behind octets_of xors add_front divide
returns-clause-least c = refl
