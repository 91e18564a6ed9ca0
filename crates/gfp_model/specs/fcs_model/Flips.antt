-- Bits of octets that are turned over on their way.
use Rattle.std.specs.Prelude.{ℕ, Bool, List, length}
use Rattle.law_model.specs.Common.{octet_bits, octets_of, xors}

-- octets of which the bits are turned over that are 1 in a list of as many bits
abbrev pub flipped : List Bool → List ℕ → List ℕ
flipped flips octets = octets_of (length octets) (xors (octet_bits octets) flips)
