-- A worked stream of two channels with a cut.
use Rattle.std.specs.Prelude.{ℕ, List, [], ◌∷◌, replicate}
use Rattle.law_model.specs.Common.{StreamRow}
use Rattle.gfp_model.specs.declared.linear_model.Cut.{Cut}
use Rattle.gfp_model.specs.linear_model.Channels.{Channels}
use Rattle.gfp_model.specs.linear_model.ChannelStream.{LinearPiece, idle, client, stream_to, cut_rows}

-- two frames of two octets wait of each channel; with their headers they take 14
abbrev pub worked_channels : Channels
worked_channels =
    record {
      waiting = ((1 ∷ 2 ∷ []) ∷ (3 ∷ 4 ∷ []) ∷ []) ∷ ((5 ∷ 6 ∷ []) ∷ (7 ∷ 8 ∷ []) ∷ []) ∷ [];
      next = 0;
    }

-- they are sent in turns, at the places 8, 22, 36 and 50
abbrev pub worked_pieces : List LinearPiece
worked_pieces =
    idle ∷ idle ∷ client 0 (1 ∷ 2 ∷ []) ∷ client 1 (5 ∷ 6 ∷ []) ∷ client 0 (3 ∷ 4 ∷ []) ∷ client 1 (7 ∷ 8 ∷ []) ∷ []

unfoldable pub worked_stream : List ℕ
worked_stream = stream_to 64 worked_channels

-- the first frame is cut off
abbrev pub worked_cuts : List Cut
worked_cuts = record { first = 8; end = 22 } ∷ []

unfoldable pub worked_rows : List StreamRow
worked_rows = cut_rows 0 worked_cuts worked_stream

-- ---- the headers of a frame, as they are sent
-- frames of 64 zero octets, two of channel 0 and one of channel 1
abbrev zeros : List ℕ
zeros = replicate 64 0

abbrev pub zero_channels : Channels
zero_channels = record { waiting = (zeros ∷ zeros ∷ []) ∷ (zeros ∷ []) ∷ []; next = 0 }

-- after two idles: the core header of 72 octets, the type header, and CID 0 with its spare octet
abbrev pub first_octets : List ℕ
first_octets = 0xb6 ∷ 0xe3 ∷ 0xf8 ∷ 0x2c ∷ 0x01 ∷ 0x01 ∷ 0x23 ∷ 0x10 ∷ 0x00 ∷ 0x00 ∷ []
