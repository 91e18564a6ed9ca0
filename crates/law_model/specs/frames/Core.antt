-- G.7041, core header: the payload length indicator (PLI) and its check (cHEC), as they are sent.
use Rattle.std.specs.Prelude.{◌≡◌, ℕ, ◌^◌, ◌<◌, ◌≤◌, ◌⊎◌, ◌==◌, nat_le, ◌&&◌, ◌||◌, Bool, List, ◌++◌, take, Option}
use Rattle.std.specs.Prelude.{Some, None, if◌then◌else◌, bytes_eq}
use Rattle.check_remainder.specs.Bits.{bits, number, octet_bits, octets_of, xors}
use Rattle.check_hec16.specs.Hec.{hec_bits}

-- the core header of a PLI: two octets of PLI and two of cHEC, combined by exclusive or with B6 AB 31 E0
unfoldable pub core_header : ℕ → List ℕ
core_header pli = octets_of 4 (xors (bits 32 0xb6ab31e0) (bits 16 pli ++ hec_bits pli))

-- a PLI that a header may have: that of an idle frame, or room for a type header. That 1 to 3 are refused is this
-- project's own
-- rule
abbrev pub IsPli : ℕ → Type 0
IsPli pli = (pli < 2 ^ 16) × ((pli ≡ 0) ⊎ (4 ≤ pli))

abbrev pub is_pli : ℕ → Bool
is_pli pli = pli == 0 || nat_le 4 pli

-- the PLI that four octets have if they are a core header
unfoldable pub pli_of : List ℕ → ℕ
pli_of octets = number (xors (bits 16 0xb6ab) (octet_bits (take 2 octets)))

-- the PLI of the core header that these octets are, where they are one
unfoldable pub head : List ℕ → Option ℕ
head octets = if bytes_eq (core_header (pli_of octets)) octets && is_pli (pli_of octets) then Some
    (pli_of octets) else None
