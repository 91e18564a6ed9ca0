-- What is made of what the lines say.
use Rattle.std.proofs.Common.{ap}
use Rattle.text_lines.specs.LanguageTable.{said_in, formed}
use Rattle.text_lines.proofs.LineLanguageAndTableLaws.{fault_formed}
use Rattle.gfp_channels.specs.channel_link.ChannelTextLines.{plan_table}
use Rattle.gfp_channels.specs.channel_link.Plan.{plan_in}
use Rattle.gfp_channels.proofs.ChannelPlanDraftLaws.{valid_plan}
use Rattle.gfp_channels.proofs.channel_link.read_channel_text.read_plan.Goals as goal

pub returns-in-Ok-clause-valid : goal.returns-in-Ok-clause-valid
returns-in-Ok-clause-valid c =
    valid_plan c.args.text.now (plan_in c.in-Ok.draft) (ap (formed plan_in) c.in-Ok.ensures.ok)

pub returns-in-Err-clause-fault : goal.returns-in-Err-clause-fault
returns-in-Err-clause-fault c =
    fault_formed plan_in (said_in plan_table c.args.text.now) c.in-Err.fault c.in-Err.ensures.err
