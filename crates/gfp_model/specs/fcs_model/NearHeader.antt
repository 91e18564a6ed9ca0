-- The core header from which four octets differ in at most one bit.
use Rattle.std.specs.Prelude.{◌≡◌, ℕ, zero, suc, ◌≤◌, length, drop, Bool, List, Option, Some, None}
use Rattle.law_model.specs.Common.{bits, number, octet_bits, xors, core_header, IsPli, head, count}
use Rattle.check_hec16.specs.OneWrongBit.{bit_at}
use Rattle.gfp_model.specs.fcs_model.Flips.{flipped}

abbrev pub or_else : Option ℕ → Option ℕ → Option ℕ
or_else None other = other
or_else (Some pli) other = Some pli

-- the header that one of the bits at places below k gives, when it is turned over
unfoldable pub turned_below : ℕ → List ℕ → Option ℕ
turned_below zero octets = None
turned_below (suc k) octets = or_else (head (flipped (bit_at k) octets)) (turned_below k octets)

-- the PLI of the header that four octets are, or else from which they differ in one bit
unfoldable pub near : List ℕ → Option ℕ
near octets = or_else (head octets) (turned_below 32 octets)

-- four octets are the core header of a PLI but for at most one bit
pub record IsNear (octets : List ℕ) (pli : ℕ) : Type 0 where
  pub fits : IsPli pli
  pub flips : List Bool
  pub size : length flips ≡ 32
  pub few : count flips ≤ 1
  pub is : octets ≡ flipped flips (core_header pli)

-- the check that four octets have if they are a core header
unfoldable pub check_of : List ℕ → ℕ
check_of octets = number (xors (bits 16 0x31e0) (octet_bits (drop 2 octets)))
