-- What of each channel is begun, carried and delivered.
use Rattle.gfp_channels.proofs.ChannelDeliveryLaws.{begun-first, carried-take, delivered-all, delivered-take, delivered-kept}
use Rattle.gfp_channels.proofs.channel_law.channel_law.Goals as goal

pub returns-clause-begun : goal.returns-clause-begun
returns-clause-begun c = begun-first

pub returns-clause-carried : goal.returns-clause-carried
returns-clause-carried c = carried-take

pub returns-clause-uncut : goal.returns-clause-uncut
returns-clause-uncut c = λ place cid channels sound. delivered-all place channels sound cid

pub returns-clause-first : goal.returns-clause-first
returns-clause-first c = delivered-take

pub returns-clause-kept : goal.returns-clause-kept
returns-clause-kept c = λ place cid channels cuts sound ordered starts.
    delivered-kept place channels sound cid cuts ordered starts
