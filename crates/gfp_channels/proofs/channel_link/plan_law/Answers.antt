-- What is delivered of each channel.
use Rattle.gfp_channels.proofs.ChannelPlanDraftLaws.{plan-carried, plan-uncut, plan-kept}
use Rattle.gfp_channels.proofs.channel_link.plan_law.Goals as goal

pub returns-clause-carried : goal.returns-clause-carried
returns-clause-carried c = plan-carried

pub returns-clause-uncut : goal.returns-clause-uncut
returns-clause-uncut c = plan-uncut

pub returns-clause-kept : goal.returns-clause-kept
returns-clause-kept c = plan-kept
