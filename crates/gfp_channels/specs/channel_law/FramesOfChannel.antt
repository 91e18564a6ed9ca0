-- Of each channel: the frames that a stream carries, those of them that arrive where octets don't, and those that are
-- delivered.
use Rattle.std.specs.Prelude.{ℕ, ◌<◌, ◌≤◌, ◌^◌, ◌==◌, if◌then◌else◌, List, [], ◌∷◌, ◌++◌, length, map, filter, drop}
use Rattle.std.specs.Prelude.{All, slice_index, flat_map}
use Rattle.law_model.specs.Common.{Piece, idle as no_frame, client as with_content, StreamRow, Extent, extents}
use Rattle.law_model.specs.Common.{is_carried, frames_kept, longest_frame}
use Rattle.gfp_model.specs.declared.linear_model.Cut.{Cut}
use Rattle.gfp_model.specs.linear_model.ChannelArea.{linear_header, extension_header, LinearOutcome, linear_outcome}
use Rattle.gfp_model.specs.linear_model.ChannelArea.{ChannelFrame, frame_in}
use Rattle.gfp_model.specs.linear_model.Channels.{Channels}
use Rattle.gfp_model.specs.linear_model.ChannelStream.{LinearPiece, idle, client, cut_outcomes}
use Rattle.law_loss.specs.FrameKind.{Kind}

-- ---- channels of which each frame may be sent
pub record IsChannelFrame (frame : List ℕ) : Type 0 where
  pub least : 64 ≤ length frame
  pub most : length frame ≤ longest_frame
  pub octets : All (λ octet. octet < 2 ^ 8) frame

pub record AreSound (channels : Channels) : Type 0 where
  pub few : length channels.waiting ≤ 256
  pub frames : All (All IsChannelFrame) channels.waiting

-- ---- frames with a linear extension header, as a kind
-- what stands behind the type header
abbrev pub read_content : List ℕ → List ChannelFrame
read_content content = record { cid = slice_index content 0; frame = drop 4 content } ∷ []

abbrev pub linear_kind : Kind LinearOutcome ChannelFrame
linear_kind = record { header = linear_header; outcome = linear_outcome; told = frame_in; read = read_content }

-- the pieces as they are of that kind, by which places in the stream and losses are told
abbrev pub as_piece : LinearPiece → Piece
as_piece idle = no_frame
as_piece (client cid frame) = with_content (extension_header cid ++ frame)

abbrev pub as_pieces : List LinearPiece → List Piece
as_pieces pieces = map as_piece pieces

-- ---- frames of one channel
abbrev pub frame_with : ℕ → ChannelFrame → List (List ℕ)
frame_with cid told = if told.cid == cid then told.frame ∷ [] else []

abbrev pub frames_told : ℕ → List ChannelFrame → List (List ℕ)
frames_told cid told = flat_map (frame_with cid) told

abbrev pub content_frames : ℕ → List (List ℕ) → List (List ℕ)
content_frames cid them = frames_told cid (flat_map read_content them)

-- those that a stream carries whole where it ends at a place
abbrev pub carried_of : ℕ → ℕ → List LinearPiece → List (List ℕ)
carried_of cid place pieces =
    content_frames cid (map (λ (e : Extent). e.frame) (filter (is_carried place) (extents 0 (as_pieces pieces))))

-- those that rows carry and that aren't lost
abbrev pub kept_of : ℕ → List LinearPiece → List StreamRow → List (List ℕ)
kept_of cid pieces rows = content_frames cid (frames_kept (as_pieces pieces) rows)

-- those that are delivered of octets with cuts
abbrev pub delivered_of : ℕ → List Cut → List ℕ → List (List ℕ)
delivered_of cid cuts octets = frames_told cid (flat_map frame_in (cut_outcomes cuts octets))

-- ---- cuts
-- cuts one after the other, from a place on
unfoldable pub AreOrdered : ℕ → List Cut → Type 0
AreOrdered place [] = Unit {0}
AreOrdered place (cut ∷ cuts) = (place ≤ cut.first) × (cut.first ≤ cut.end) × AreOrdered cut.end cuts
