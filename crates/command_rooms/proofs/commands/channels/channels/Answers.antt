-- The input is read, and says channels, frames and cuts or doesn't.
use Rattle.std.proofs.Common.{refl, sym, ap, ◌∙◌}
use Rattle.command_parts.specs.Common.{line_text}
use Rattle.command_parts.specs.declared.stop_and_status.Refusal.TheVariants.{Line}
use Rattle.command_parts.proofs.SourceTextAndStopLaws.{refused-line}
use Rattle.command_parts.proofs.TaskEndAndStatusLaws.{text-written}
use Rattle.text_lines.specs.LineFaults.{kind_of}
use Rattle.gfp_channels.specs.channel_link.Helps.{help_of}
use Rattle.gfp_channels.specs.channel_link.ChannelReportText.{plan_text}
use Rattle.command_rooms.specs.commands.Channels.{shared, channels_answer}
use Rattle.command_rooms.proofs.commands.channels.channels.Goals as goal

pub returns-in-Err : goal.returns-in-Err
returns-in-Err g c = record { ran = tt; stopped = c.in-Err.ensures.stopped channels_answer; nothing = refl }

pub returns-in-Err-Line : goal.returns-in-Err-Line
returns-in-Err-Line g c = record {
  ran = tt;
  stopped = refused-line _ channels_answer c.in-Ok.text.items c.faulty_line.result Line
      (line_text c.in-Err-Line.number (kind_of c.in-Err-Line.fault) (help_of c.in-Err-Line.fault)) c.in-Ok.ensures.read
      c.faulty_line.ensures.why (rw c.in-Err-Line.field-0-is at c.faulty_line.ensures.note)
      (ap channels_answer (sym c.as_slice.ensures.value)
      ∙ ap shared (rw c.in-Err-Line.field-0-is at c.in-Err-Line.ensures.fault));
  nothing = refl;
}

pub returns : goal.returns
returns g c =
    text-written _ _ _ _ channels_answer c.in-Ok.text.items (plan_text c.in-Ok-read_plan.plan) c.in-Ok.ensures.read
    (ap channels_answer (sym c.as_slice.ensures.value) ∙ ap shared c.in-Ok-read_plan.ensures.plan)
    c.write-written.ensures.ok c.write-written.ensures.err refl
