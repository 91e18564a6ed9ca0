-- What is written of channels whose stream is received with its cuts. This text is this project's own.
use Rattle.std.specs.Prelude.{ℕ, ◌+◌, ◌-◌, List, [], ◌∷◌, ◌++◌, length, codes, decimal, Option, Some, None, flat_map}
use Rattle.hex.specs.Hex.{encode_lower}
use Rattle.gfp_model.specs.declared.linear_model.ChannelFault.{ChannelFault}
use Rattle.gfp_model.specs.declared.linear_model.ChannelFault.TheVariants.{Unknown, Length, QueueFull}
use Rattle.gfp_model.specs.linear_model.ChannelArea.{LinearOutcome, ChannelFrame, frame_in}
use Rattle.gfp_model.specs.linear_model.Channels.{Channels, silent, channel_refusal, pushed}
use Rattle.gfp_model.specs.linear_model.ChannelStream.{stream_to, cut_outcomes}
use Rattle.gfp_channels.specs.declared.channel_link.channel_draft.Offer.{Offer}
use Rattle.gfp_channels.specs.declared.channel_link.channel_run.Refusal.{Refusal}
use Rattle.gfp_channels.specs.declared.channel_link.channel_draft.ChannelPlan.{ChannelPlan}

-- ---- the frames that are offered
-- the channels after offers
unfoldable pub after_offers : Channels → List Offer → Channels
after_offers channels [] = channels
after_offers channels (offer ∷ offers) = after_offers (pushed offer.cid offer.frame channels) offers

-- a refused frame, by its place among all
abbrev pub refusal_where : ℕ → Option ChannelFault → List Refusal
refusal_where item None = []
refusal_where item (Some why) = record { item = item; why = why } ∷ []

-- those of offers, of which the first has a place
unfoldable pub refusals : ℕ → Channels → List Offer → List Refusal
refusals item channels [] = []
refusals item channels (offer ∷ offers) =
    refusal_where item (channel_refusal offer.cid offer.frame channels)
    ++ refusals (item + 1) (pushed offer.cid offer.frame channels) offers

-- ---- what comes of a plan
-- the outcomes of its stream
abbrev pub plan_outcomes : ChannelPlan → List LinearOutcome
plan_outcomes plan =
    cut_outcomes plan.cuts (stream_to plan.octets (after_offers (silent plan.channels) plan.offers))

abbrev pub delivered : ChannelPlan → List ChannelFrame
delivered plan = flat_map frame_in (plan_outcomes plan)

abbrev pub refused : ChannelPlan → List Refusal
refused plan = refusals 0 (silent plan.channels) plan.offers

-- ---- the text
-- the line of a delivered frame: the number of its channel, and its octets
abbrev pub got_front : ℕ → List ℕ
got_front cid = codes "got " ++ decimal cid ++ codes " "

abbrev pub frame_end : List ℕ → List ℕ
frame_end frame = encode_lower frame ++ codes "\n"

abbrev pub got_text : ChannelFrame → List ℕ
got_text got = got_front got.cid ++ frame_end got.frame

-- why a frame is refused: there is no such channel, its length in octets, or the full queue
abbrev pub fault_text : ChannelFault → List ℕ
fault_text (Unknown channels) = codes " unknown"
fault_text (Length n) = codes " length " ++ decimal n
fault_text (QueueFull waiting) = codes " queue"

-- the line of a refused frame
abbrev pub refused_text : ℕ → ChannelFault → List ℕ
refused_text item why = codes "refused " ++ decimal item ++ fault_text why ++ codes "\n"

abbrev pub refusal_text : Refusal → List ℕ
refusal_text refusal = refused_text refusal.item refusal.why

-- the last line
abbrev pub counts_text : ℕ → ℕ → ℕ → List ℕ
counts_text accepted refused got =
    codes "channels frames " ++ decimal accepted ++ codes " refused " ++ decimal refused ++ codes " got " ++ decimal got
    ++ codes "\n"

-- a line for each frame that is delivered, one for each that is refused, and the counts
abbrev pub plan_text : ChannelPlan → List ℕ
plan_text plan =
    flat_map got_text (delivered plan) ++ flat_map refusal_text (refused plan)
    ++ counts_text (length plan.offers - length (refused plan)) (length (refused plan)) (length (delivered plan))
