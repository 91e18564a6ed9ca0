-- What is delivered of each channel, with cuts and without, is what is carried of it.
use Rattle.std.proofs.Common.{◌≡◌, ℕ, ◌+◌, List, [], ◌∷◌, ◌++◌, length, take, drop, All, refl, sym, ◌∙◌, ap, subst}
use Rattle.std.proofs.Common.{arith, flat_map, append_assoc, take-append-drop, take_at, length-take-le}
use Rattle.std.proofs.lemmas.List.Concat.{flat_map-append}
use Rattle.std.proofs.lemmas.List.Elements.{All-tail}
use Rattle.law_model.specs.Common.{size_of, client as with_content, StreamRow, Segment, segments, extents, TrueStarts}
use Rattle.gfp_model.specs.declared.linear_model.Cut.{Cut}
use Rattle.gfp_model.specs.linear_model.ChannelArea.{extension_header, ChannelFrame, frame_in}
use Rattle.gfp_model.specs.linear_model.Channels.{Channels, waiting_of}
use Rattle.gfp_model.specs.linear_model.ChannelStream.{LinearPiece, idle, client, linear_stream, Shared, unsent}
use Rattle.gfp_model.specs.linear_model.ChannelStream.{reached, frames_of, stream_to, cut_rows, segment_outcomes}
use Rattle.gfp_channels.proofs.LinearStreamPlaceLaws.{reached-fewest, long}
use Rattle.gfp_channels.proofs.BusyChannelTurnLaws.{reached-keeps}
use Rattle.law_loss.proofs.ClientFrameExtentLaws.{frames_to, all_frames, frames_to-first}
use Rattle.law_loss.specs.FrameKind.{stream_in, IsPieceIn, segment_told, Carries}
use Rattle.gfp_channels.specs.channel_law.FramesOfChannel.{AreSound, linear_kind, as_pieces, read_content, frame_with}
use Rattle.gfp_channels.specs.channel_law.FramesOfChannel.{frames_told, content_frames, carried_of, kept_of}
use Rattle.gfp_channels.specs.channel_law.FramesOfChannel.{delivered_of, AreOrdered}
use Rattle.gfp_channels.proofs.LinearExtensionLaws.{linear-sound, stream-pieces, IsSent, pieces_sent}
use Rattle.gfp_channels.proofs.OfferedChannelFrameLaws.{reached_sent, unsent_may}
use Rattle.gfp_channels.proofs.CutSegmentReceptionLaws.{none-ordered, cut-octets, all-whole}
use Rattle.law_loss.proofs.GivenAndLostFrameLaws.{told-kept, told-all}

-- What is delivered of each channel, with cuts and without.
-- ---- frames of one channel
told-append : (cid : ℕ) (one other : List ChannelFrame) →
    frames_told cid (one ++ other) ≡ frames_told cid one ++ frames_told cid other
told-append cid one other = flat_map-append (frame_with cid) one other

content-append : (cid : ℕ) (one other : List (List ℕ)) →
    content_frames cid (one ++ other) ≡ content_frames cid one ++ content_frames cid other
content-append cid one other =
    ap (frames_told cid) (flat_map-append read_content one other)
    ∙ told-append cid (flat_map read_content one) (flat_map read_content other)

-- all contents of pieces are, of a channel, its frames among them
pub all-frames : (cid start : ℕ) (pieces : List LinearPiece) →
    content_frames cid (all_frames (extents start (as_pieces pieces))) ≡ frames_of cid pieces
unfolding extents
all-frames cid start [] = refl
all-frames cid start (idle ∷ pieces) = all-frames cid (start + 4) pieces
all-frames cid start (client other frame ∷ pieces) =
    let next : ℕ = start + size_of (with_content (extension_header other ++ frame)) in
    ap (λ l. frame_with cid (record { cid = other; frame = frame }) ++ l) (all-frames cid next pieces)

-- what is carried whole of it are the first of them
pub carried-first : (cid place : ℕ) (pieces : List LinearPiece) → (rest : List (List ℕ)) ×
    (frames_of cid pieces ≡ carried_of cid place pieces ++ rest)
carried-first cid place pieces =
    let all : List (List ℕ) = all_frames (extents 0 (as_pieces pieces)) in
    let some = frames_to-first place 0 (as_pieces pieces) in
    let count : ℕ = some.0 in (
      content_frames cid (drop count all),
      sym (all-frames cid 0 pieces) ∙ ap (content_frames cid) (sym (take-append-drop count all))
          ∙ content-append cid (take count all) (drop count all)
          ∙ ap (λ l. content_frames cid l ++ content_frames cid (drop count all)) (sym some.1),
    )

-- ---- what is told of rows is what is delivered
delivered-segments : (parts : List Segment) →
    flat_map frame_in (flat_map segment_outcomes parts) ≡ flat_map (segment_told linear_kind) parts
delivered-segments [] = refl
delivered-segments (segment ∷ parts) =
    flat_map-append frame_in (segment_outcomes segment) (flat_map segment_outcomes parts)
    ∙ ap (λ l. segment_told linear_kind segment ++ l) (delivered-segments parts)

-- ---- the stream of channels
module _ (place : ℕ) (channels : Channels) (sound : AreSound channels) where
  abbrev pub made : Shared
  made = reached place (unsent channels)

  -- the pieces behind the two idles
  abbrev pub behind : List LinearPiece
  behind = (reached-fewest place (unsent channels)).more

  two : made.pieces ≡ idle ∷ idle ∷ behind
  two = (reached-fewest place (unsent channels)).follow

  behind_sent : All IsSent behind
  behind_sent =
      let all : All IsSent (idle ∷ idle ∷ behind) =
      subst (All IsSent) two (reached_sent place (unsent channels) (unsent_may channels sound)).pieces in
      All-tail IsSent idle behind (All-tail IsSent idle (idle ∷ behind) all)

  pieces_behind : All (IsPieceIn linear_kind) (as_pieces behind)
  pieces_behind = pieces_sent behind behind_sent

  same_stream : linear_stream made.pieces ≡ stream_in linear_kind (as_pieces (idle ∷ idle ∷ behind))
  same_stream = ap linear_stream two ∙ sym (stream-pieces (idle ∷ idle ∷ behind))

  abbrev octets : List ℕ
  octets = stream_to place channels

  carries : (cuts : List Cut) → AreOrdered 0 cuts →
      Carries (cut_rows 0 cuts octets) (stream_in linear_kind (as_pieces (idle ∷ idle ∷ behind)))
  carries cuts ordered = record {
    rest = drop place (linear_stream made.pieces);
    parts = sym same_stream ∙ sym (take-append-drop place (linear_stream made.pieces))
        ∙ ap (λ l. l ++ drop place (linear_stream made.pieces)) (sym (cut-octets 0 cuts octets ordered));
  }

  size-octets : length octets ≡ place
  size-octets =
      length-take-le place (linear_stream made.pieces)
      (omega (arith, long made.pieces, (reached-fewest place (unsent channels)).reach))

  -- with cuts
  pub delivered-kept : (cid : ℕ) (cuts : List Cut) → AreOrdered 0 cuts →
      TrueStarts (as_pieces made.pieces) (cut_rows 0 cuts octets) →
      delivered_of cid cuts octets ≡ kept_of cid made.pieces (cut_rows 0 cuts octets)
  delivered-kept cid cuts ordered starts =
      let rows : List StreamRow = cut_rows 0 cuts octets in
      ap (frames_told cid) (delivered-segments (segments rows)
      ∙ told-kept linear_kind linear-sound (as_pieces behind) pieces_behind rows (carries cuts ordered)
      (subst (λ (ps : List LinearPiece). TrueStarts (as_pieces ps) rows) two starts))
      ∙ ap (λ (ps : List LinearPiece). kept_of cid ps rows) (sym two)

  -- without
  pub delivered-all : (cid : ℕ) → delivered_of cid [] octets ≡ carried_of cid place made.pieces
  delivered-all cid =
      let rows : List StreamRow = cut_rows 0 [] octets in
      ap (frames_told cid) (delivered-segments (segments rows)
      ∙ told-all linear_kind linear-sound (as_pieces behind) pieces_behind rows (carries [] none-ordered)
      (all-whole octets))
      ∙ ap (λ n. content_frames cid (frames_to n (extents 0 (as_pieces (idle ∷ idle ∷ behind)))))
      (ap length (cut-octets 0 [] octets none-ordered) ∙ size-octets)
      ∙ ap (λ (ps : List LinearPiece). carried_of cid place ps) (sym two)

-- ---- of what was accepted
pub begun-first : (place cid : ℕ) (channels : Channels) →
    frames_of cid (reached place (unsent channels)).pieces
    ++ waiting_of cid (reached place (unsent channels)).channels ≡ waiting_of cid channels
begun-first place cid channels = reached-keeps place (unsent channels) cid

pub carried-prefix : (place cid : ℕ) (channels : Channels) → (rest : List (List ℕ)) ×
    (waiting_of cid channels ≡ carried_of cid place (reached place (unsent channels)).pieces ++ rest)
carried-prefix place cid channels =
    let made : Shared = reached place (unsent channels) in
    let first = carried-first cid place made.pieces in (
      first.0 ++ waiting_of cid made.channels,
      sym (begun-first place cid channels) ∙ ap (λ l. l ++ waiting_of cid made.channels) first.1
          ∙ append_assoc (carried_of cid place made.pieces) first.0 (waiting_of cid made.channels),
    )

-- the first ones of a list
first_of : (part rest all : List (List ℕ)) → all ≡ part ++ rest → part ≡ take (length part) all
first_of part rest all is = sym (ap (take (length part)) is ∙ take_at part rest (length part) refl)

pub carried-take : (place cid : ℕ) (channels : Channels) →
    carried_of cid place (reached place (unsent channels)).pieces
    ≡ take (length (carried_of cid place (reached place (unsent channels)).pieces)) (waiting_of cid channels)
carried-take place cid channels =
    let prefix = carried-prefix place cid channels in
    first_of (carried_of cid place (reached place (unsent channels)).pieces) prefix.0 (waiting_of cid channels)
    prefix.1

pub delivered-take : (place cid : ℕ) (channels : Channels) → AreSound channels →
    delivered_of cid [] (stream_to place channels)
    ≡ take (length (delivered_of cid [] (stream_to place channels))) (waiting_of cid channels)
delivered-take place cid channels sound =
    let got : delivered_of cid [] (stream_to place channels)
    ≡ carried_of cid place (reached place (unsent channels)).pieces = delivered-all place channels sound cid in
    got ∙ carried-take place cid channels
    ∙ ap (λ l. take (length l) (waiting_of cid channels)) (sym got)
