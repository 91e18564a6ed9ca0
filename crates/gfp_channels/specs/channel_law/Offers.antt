-- Frames that are offered one after the other, and those of a channel that are accepted.
use Rattle.std.specs.Prelude.{ℕ, ◌==◌, if◌then◌else◌, List, [], ◌∷◌, ◌++◌, Option, Some, None}
use Rattle.gfp_model.specs.declared.linear_model.ChannelFault.{ChannelFault}
use Rattle.gfp_model.specs.linear_model.ChannelArea.{ChannelFrame}
use Rattle.gfp_model.specs.linear_model.Channels.{Channels, channel_refusal, pushed}

-- the channels after all of them
unfoldable pub after_frames : Channels → List ChannelFrame → Channels
after_frames channels [] = channels
after_frames channels (offer ∷ offers) = after_frames (pushed offer.cid offer.frame channels) offers

-- of a channel, the frame of an offer that isn't refused
abbrev pub accepted_one : Option ChannelFault → ℕ → ChannelFrame → List (List ℕ)
accepted_one (Some refusal) cid offer = []
accepted_one None cid offer = if offer.cid == cid then offer.frame ∷ [] else []

-- those of all offers
unfoldable pub accepted_frames : ℕ → Channels → List ChannelFrame → List (List ℕ)
accepted_frames cid channels [] = []
accepted_frames cid channels (offer ∷ offers) =
    accepted_one (channel_refusal offer.cid offer.frame channels) cid offer
    ++ accepted_frames cid (pushed offer.cid offer.frame channels) offers
