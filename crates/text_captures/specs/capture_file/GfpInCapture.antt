-- A capture of GFP frames that hold client frames, for link type 171: G.7041's frames with the core header as it is
-- before B6 AB 31 E0 is put on it, and with the payload area as it is before scrambling.
use Rattle.std.specs.Prelude.{ℕ, List, [], ◌∷◌, ◌++◌, length, flat_map}
use Rattle.std.specs.Int.{w16, to_be_bytes}
use Rattle.law_model.specs.Common.{bits, octet_bits, octets_of, xors, hec_of, client, area_of}
use Rattle.text_captures.specs.capture_file.WrittenCapture.{RowFrame, record_octets}

-- the head of one
abbrev pub gfp_head : List ℕ
gfp_head =
    0xd4 ∷ 0xc3 ∷ 0xb2 ∷ 0xa1 ∷ 0x02 ∷ 0x00 ∷ 0x04 ∷ 0x00 ∷ 0x00 ∷ 0x00 ∷ 0x00 ∷ 0x00 ∷ 0x00 ∷ 0x00 ∷ 0x00 ∷ 0x00 ∷ 0xff
    ∷ 0xff ∷ 0x00 ∷ 0x00 ∷ 0xab ∷ 0x00 ∷ 0x00 ∷ 0x00 ∷ []

-- PLI and its check (cHEC)
abbrev pub plain_header : ℕ → List ℕ
plain_header pli = to_be_bytes w16 pli ++ to_be_bytes w16 (hec_of pli)

-- four octets with B6 AB 31 E0 by exclusive or
abbrev pub with_pattern : List ℕ → List ℕ
with_pattern octets = octets_of 4 (xors (bits 32 0xb6ab31e0) (octet_bits octets))

-- a payload area behind PLI and check
abbrev pub with_plain_header : List ℕ → List ℕ
with_plain_header area = plain_header (length area) ++ area

-- the GFP frame that holds a client frame
abbrev pub gfp_octets : List ℕ → List ℕ
gfp_octets frame = with_plain_header (area_of (client frame))

-- its record, and a capture of such records
abbrev pub gfp_record : RowFrame → List ℕ
gfp_record own = record_octets (record { row = own.row; frame = gfp_octets own.frame })

abbrev pub gfp_capture : List RowFrame → List ℕ
gfp_capture frames = gfp_head ++ flat_map gfp_record frames
