-- By the lines of the text, and what is delivered of each channel.
use Rattle.gfp_channels.proofs.ChannelPlanDraftLaws.{valid_plan, plan_report}
use Rattle.gfp_channels.proofs.channel_link.text_law.Goals as goal

pub returns-clause-valid : goal.returns-clause-valid
returns-clause-valid c = valid_plan

pub returns-clause-written : goal.returns-clause-written
returns-clause-written c = plan_report
