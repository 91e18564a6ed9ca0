-- The first fault of a text is that of its language.
use Rattle.text_lines.proofs.LineLanguageAndTableLaws.{said_fault}
use Rattle.gfp_channels.specs.channel_link.ChannelTextLines.{plan_table}
use Rattle.gfp_channels.specs.channel_link.Plan.{plan_in}
use Rattle.gfp_channels.proofs.channel_link.fault_law.Goals as goal

pub returns : goal.returns
returns c = said_fault plan_table plan_in
