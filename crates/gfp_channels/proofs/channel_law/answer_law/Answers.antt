-- What an answer depends on.
use Rattle.gfp_channels.proofs.OfferedChannelFrameLaws.{refusal-same}
use Rattle.gfp_channels.proofs.channel_law.answer_law.Goals as goal

pub returns : goal.returns
returns c = refusal-same
