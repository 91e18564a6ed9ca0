-- What is decoded of forty octets: a line that locks at the second one carries two packets, or one and one whose check
-- is wrong.
use Rattle.std.specs.Prelude.{◌≡◌, ℕ, List, [], ◌∷◌, ◌++◌, codes}
use Rattle.law_model.specs.Common.{decoded_text}

-- thirty-nine octets of a line
abbrev pub first_octets : List ℕ
first_octets =
    0x00 ∷ 0x01 ∷ 0x02 ∷ 0x03 ∷ 0x04 ∷ 0x05 ∷ 0x06 ∷ 0x07 ∷ 0x08 ∷ 0x09 ∷ 0x0a ∷ 0x1b ∷ 0x0c ∷ 0x0d ∷ 0x0e ∷ 0x0f ∷ 0x00
    ∷ 0x11 ∷ 0x12 ∷ 0x13
    ∷ 0x04 ∷ 0x05 ∷ 0x06 ∷ 0x07 ∷ 0x08 ∷ 0x09 ∷ 0x0a ∷ 0x1b ∷ 0x0c ∷ 0x0d ∷ 0x0e ∷ 0x0f ∷ 0x00 ∷ 0x21 ∷ 0x32 ∷ 0x13 ∷
    0x04 ∷ 0x15 ∷ 0x16 ∷ []

abbrev pub AreRead : Type 0
AreRead =
    decoded_text (first_octets ++ 0x47 ∷ [])
    ≡ codes "at 8 add sq 0 gid 1 act 0 chg 1 mst 00 ack 0\n" ++ codes "at 24 eos sq 0 gid 1 act 1 chg 1 mst 00 ack 0\n"
    ++ codes "end octets 40 packets 2\n"

abbrev pub IsRefused : Type 0
IsRefused =
    decoded_text (first_octets ++ 0x57 ∷ [])
    ≡ codes "at 8 add sq 0 gid 1 act 0 chg 1 mst 00 ack 0\n" ++ codes "at 24 crc said 15 found 14\n" ++ codes
    "end octets 40 packets 2\n"
