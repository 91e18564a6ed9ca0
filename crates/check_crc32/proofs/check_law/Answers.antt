-- By the laws of checks.
use Rattle.check_remainder.specs.Bits.{octet_bits}
use Rattle.check_remainder.proofs.NumberAndOctetBitsLaws.{octets_of_below}
use Rattle.check_crc32.specs.Crc32.{check_bits}
use Rattle.check_crc32.proofs.CheckBitsAndRemainderLaws.{length-fcs_of, check_bits-inverted, check_bits-xors}
use Rattle.check_crc32.proofs.check_law.Goals as goal

pub returns-clause-size : goal.returns-clause-size
returns-clause-size c = length-fcs_of

pub returns-clause-octets : goal.returns-clause-octets
returns-clause-octets c octets = octets_of_below 4 (check_bits (octet_bits octets))

pub returns-clause-inverted : goal.returns-clause-inverted
returns-clause-inverted c = check_bits-inverted

pub returns-clause-differs : goal.returns-clause-differs
returns-clause-differs c = check_bits-xors
