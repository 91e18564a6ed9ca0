-- `channels`: frames of clients in a stream that they share by channel numbers, and of which octets don't arrive.
use Rattle.std.specs.Prelude.{◌≡◌, ℕ, List, codes, Option, Some, None, Result, Ok, Err, if◌then◌else◌}
use Rattle.text_lines.specs.declared.text_faults.LineFault.{LineFault}
use Rattle.text_lines.specs.LineFaults.{kind_of}
use Rattle.gfp_channels.specs.declared.channel_link.channel_keyword.ChannelKeyword.{ChannelKeyword}
use Rattle.gfp_channels.specs.declared.channel_link.channel_text_fault.Overlap.{Overlap}
use Rattle.gfp_channels.specs.channel_link.Helps.{help_of}
use Rattle.gfp_channels.specs.declared.channel_link.channel_draft.ChannelPlan.{ChannelPlan}
use Rattle.gfp_channels.specs.channel_link.Plan.{plan_of}
use Rattle.gfp_channels.specs.channel_link.ChannelReportText.{plan_text}
use Rattle.gfp_channels.specs.channel_link.FramesOfPlan.{IsPlanReport}
use Rattle.command_parts.specs.Common.{Answer, writes, refuses, line_text}
use Rattle.command_parts.specs.declared.stop_and_status.Refusal.TheVariants.{Line}
use Rattle.command_rooms.specs.declared.walk_command.WalkCommand.{WalkCommand}
use Rattle.command_rooms.specs.declared.walk_command.WalkCommand.TheVariants.{Channels}
use Rattle.command_rooms.specs.commands.Walk.{is_word}

abbrev pub channels_words : List (List ℕ) → Option WalkCommand
channels_words words = if is_word (codes "channels") words then Some Channels else None

-- of the plan that a text says, or of its first faulty line
abbrev pub shared : Result ChannelPlan (ℕ × LineFault ChannelKeyword Overlap) → Answer
shared (Ok plan) = writes (plan_text plan)
shared (Err at) = refuses Line (line_text at.0 (kind_of at.1) (help_of at.1))

abbrev pub channels_answer : List ℕ → Answer
channels_answer text = shared (plan_of text)

-- what is written of a text is a report of a plan
pub record TellsPlan (text : List ℕ) (plan : ChannelPlan) : Type 0 where
  pub report : List ℕ
  pub answers : channels_answer text ≡ writes report
  pub is : IsPlanReport plan report
