-- Of each channel of a plan: the frames that it accepted, those that its stream carries, those of them that arrive, and
-- those that are delivered.
use Rattle.std.specs.Prelude.{◌≡◌, ℕ, ◌-◌, List, [], ◌++◌, length, map, flat_map}
use Rattle.law_model.specs.Common.{StreamRow, TrueStarts}
use Rattle.gfp_model.specs.linear_model.ChannelArea.{ChannelFrame}
use Rattle.gfp_model.specs.linear_model.Channels.{Channels, silent}
use Rattle.gfp_model.specs.linear_model.ChannelStream.{LinearPiece, unsent, reached, stream_to, cut_rows}
use Rattle.gfp_channels.specs.channel_law.FramesOfChannel.{as_pieces, frames_told, carried_of, kept_of}
use Rattle.gfp_channels.specs.channel_law.Offers.{accepted_frames}
use Rattle.gfp_channels.specs.declared.channel_link.channel_draft.Offer.{Offer}
use Rattle.gfp_channels.specs.declared.channel_link.channel_draft.ChannelPlan.{ChannelPlan}
use Rattle.gfp_channels.specs.channel_link.ChannelReportText.{after_offers, delivered, refused, got_text, refusal_text, counts_text}

-- the channels when the stream begins, its pieces, and its rows: those that arrive and those that are cut
abbrev pub plan_channels : ChannelPlan → Channels
plan_channels plan = after_offers (silent plan.channels) plan.offers

abbrev pub plan_pieces : ChannelPlan → List LinearPiece
plan_pieces plan = (reached plan.octets (unsent (plan_channels plan))).pieces

abbrev pub plan_rows : ChannelPlan → List StreamRow
plan_rows plan = cut_rows 0 plan.cuts (stream_to plan.octets (plan_channels plan))

-- each place that is confirmed first behind a cut is that of a piece
abbrev pub HasTrueStarts : ChannelPlan → Type 0
HasTrueStarts plan = TrueStarts (as_pieces (plan_pieces plan)) (plan_rows plan)

-- ---- the frames of one channel
-- an offer as a frame with the number of its channel
abbrev pub as_frame : Offer → ChannelFrame
as_frame offer = record { cid = offer.cid; frame = offer.frame }

-- those that are accepted
abbrev pub accepted_by : ChannelPlan → ℕ → List (List ℕ)
accepted_by plan cid = accepted_frames cid (silent plan.channels) (map as_frame plan.offers)

-- those that the stream carries whole
abbrev pub carried_by : ChannelPlan → ℕ → List (List ℕ)
carried_by plan cid = carried_of cid plan.octets (plan_pieces plan)

-- those of them that aren't lost
abbrev pub kept_by : ChannelPlan → ℕ → List (List ℕ)
kept_by plan cid = kept_of cid (plan_pieces plan) (plan_rows plan)

-- those that are delivered
abbrev pub delivered_by : ChannelPlan → ℕ → List (List ℕ)
delivered_by plan cid = frames_told cid (delivered plan)

-- ---- what is written
-- a line for each of some frames, one for each that is refused, and the counts; and of each channel the frames are, in
-- order and each once, those that its stream carries whole if there are no cuts, and those of them that aren't lost if
-- each place that is confirmed first behind a cut is that of a piece
pub record IsPlanReport (plan : ChannelPlan) (text : List ℕ) : Type 0 where
  pub told : List ChannelFrame
  pub lines : text
      ≡ flat_map got_text told ++ flat_map refusal_text (refused plan)
      ++ counts_text (length plan.offers - length (refused plan)) (length (refused plan)) (length told)
  pub uncut : plan.cuts ≡ [] → (cid : ℕ) → frames_told cid told ≡ carried_by plan cid
  pub kept : HasTrueStarts plan → (cid : ℕ) → frames_told cid told ≡ kept_by plan cid
