-- The stream of channels: after two idles the frames in turn, and idles where none waits; and what comes of it where
-- octets don't arrive.
use Rattle.std.specs.Prelude.{◌≡◌, ℕ, zero, suc, ◌+◌, ◌-◌, ◌<◌, ◌≤◌, ◌==◌, nat_le, if◌then◌else◌, true, false, List, []}
use Rattle.std.specs.Prelude.{◌∷◌, ◌++◌, length, map, take, drop, sum_by, Option, Some, None, flat_map}
use Rattle.law_model.specs.Common.{areas_stream, StreamRow, Segment, segments}
use Rattle.gfp_model.specs.declared.linear_model.Cut.{Cut}
use Rattle.gfp_model.specs.linear_model.ChannelArea.{linear_area, LinearOutcome, linear_outcomes}
use Rattle.gfp_model.specs.linear_model.Channels.{Channels, waiting_of, turn, oldest, served, pushed}

-- ---- pieces
-- an idle frame, or a frame of a channel
pub data LinearPiece : Type 0 where
  idle : LinearPiece
  client : ℕ → List ℕ → LinearPiece

-- the payload area of a piece, as it is before scrambling
abbrev pub area_of : LinearPiece → List ℕ
area_of idle = []
area_of (client cid frame) = linear_area cid frame

-- the octets of pieces on the stream
abbrev pub linear_stream : List LinearPiece → List ℕ
linear_stream pieces = areas_stream (map area_of pieces)

-- how many they are
abbrev pub size_of : LinearPiece → ℕ
size_of piece = 4 + length (area_of piece)

abbrev pub size : List LinearPiece → ℕ
size pieces = sum_by size_of pieces

-- ---- which piece comes next
-- the pieces that are begun, and the channels with the frames that wait
pub record Shared : Type 0 where
  pub pieces : List LinearPiece
  pub channels : Channels

-- before the first octet: two idles are begun
abbrev pub unsent : Channels → Shared
unsent channels = record { pieces = idle ∷ idle ∷ []; channels = channels }

-- a frame of a channel is offered
abbrev pub offered : ℕ → List ℕ → Shared → Shared
offered cid frame shared =
    record { pieces = shared.pieces; channels = pushed cid frame shared.channels }

-- one more piece: the oldest frame of the channel whose turn it is, or an idle
abbrev pub next_by : Option ℕ → Shared → Shared
next_by None shared = record { pieces = shared.pieces ++ idle ∷ []; channels = shared.channels }
next_by (Some cid) shared = record {
  pieces = shared.pieces ++ client cid (oldest cid shared.channels) ∷ [];
  channels = served cid shared.channels;
}

abbrev pub one_more : Shared → Shared
one_more shared = next_by (turn shared.channels) shared

-- the fewest pieces that reach a place, with at most so many more
unfoldable pub reaching : ℕ → ℕ → Shared → Shared
reaching zero place shared = shared
reaching (suc steps) place shared =
    if nat_le place (size shared.pieces) then shared else reaching steps place (one_more shared)

-- the fewest pieces that reach a place: each has octets, so there are no more than the place counts
abbrev pub reached : ℕ → Shared → Shared
reached place shared = reaching place place shared

-- pieces are followed by the fewest more that reach a place
pub record IsFewest (before : List LinearPiece) (place : ℕ) (after : List LinearPiece) : Type 0 where
  pub more : List LinearPiece
  pub follow : after ≡ before ++ more
  pub reach : place ≤ size after
  pub fewest : (n : ℕ) → n < length more → size (before ++ take n more) < place

-- the frames of a channel among pieces
abbrev pub of_channel : ℕ → LinearPiece → List (List ℕ)
of_channel cid idle = []
of_channel cid (client other frame) = if other == cid then frame ∷ [] else []

abbrev pub frames_of : ℕ → List LinearPiece → List (List ℕ)
frames_of cid pieces = flat_map (of_channel cid) pieces

-- those that are begun, and then those that wait
abbrev pub accepted_of : ℕ → Shared → List (List ℕ)
accepted_of cid shared = frames_of cid shared.pieces ++ waiting_of cid shared.channels

-- so many octets of the stream of channels whose frames all wait from the start
abbrev pub stream_to : ℕ → Channels → List ℕ
stream_to place channels = take place (linear_stream (reached place (unsent channels)).pieces)

-- ---- octets that don't arrive
-- octets of which the first has a place, cut in turn to those that arrive and those that don't
unfoldable pub cut_rows : ℕ → List Cut → List ℕ → List StreamRow
cut_rows place [] octets = record { whole = true; octets = octets } ∷ []
cut_rows place (cut ∷ cuts) octets =
    record { whole = true; octets = take (cut.first - place) octets }
    ∷ record { whole = false; octets = take (cut.end - cut.first) (drop (cut.first - place) octets) }
    ∷ cut_rows cut.end cuts (drop (cut.end - place) octets)

-- what comes of a stream with its cuts: they end its segments
abbrev pub segment_outcomes : Segment → List LinearOutcome
segment_outcomes segment = linear_outcomes segment.first segment.octets

abbrev pub cut_outcomes : List Cut → List ℕ → List LinearOutcome
cut_outcomes cuts octets = flat_map segment_outcomes (segments (cut_rows 0 cuts octets))
