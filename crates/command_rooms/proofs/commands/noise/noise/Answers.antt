-- The input is read, and says frames and flips or doesn't.
use Rattle.std.proofs.Common.{refl, sym, ap, ◌∙◌}
use Rattle.command_parts.specs.Common.{line_text}
use Rattle.command_parts.specs.declared.stop_and_status.Refusal.TheVariants.{Line}
use Rattle.command_parts.proofs.SourceTextAndStopLaws.{refused-line}
use Rattle.command_parts.proofs.TaskEndAndStatusLaws.{text-written}
use Rattle.text_lines.specs.LineFaults.{kind_of}
use Rattle.gfp_noise.specs.noise_link.Helps.{help_of}
use Rattle.gfp_noise.specs.noise_link.NoiseReportText.{noise_text}
use Rattle.command_rooms.specs.commands.Noise.{got_through, noise_answer}
use Rattle.command_rooms.proofs.commands.noise.noise.Goals as goal

pub returns-in-Err : goal.returns-in-Err
returns-in-Err g c = record { ran = tt; stopped = c.in-Err.ensures.stopped noise_answer; nothing = refl }

pub returns-in-Err-Line : goal.returns-in-Err-Line
returns-in-Err-Line g c = record {
  ran = tt;
  stopped = refused-line _ noise_answer c.in-Ok.text.items c.faulty_line.result Line
      (line_text c.in-Err-Line.number (kind_of c.in-Err-Line.fault) (help_of c.in-Err-Line.fault)) c.in-Ok.ensures.read
      c.faulty_line.ensures.why (rw c.in-Err-Line.field-0-is at c.faulty_line.ensures.note)
      (ap noise_answer (sym c.as_slice.ensures.value)
      ∙ ap got_through (rw c.in-Err-Line.field-0-is at c.in-Err-Line.ensures.fault));
  nothing = refl;
}

pub returns : goal.returns
returns g c =
    text-written _ _ _ _ noise_answer c.in-Ok.text.items (noise_text c.in-Ok-read_noise.noise) c.in-Ok.ensures.read
    (ap noise_answer (sym c.as_slice.ensures.value) ∙ ap got_through c.in-Ok-read_noise.ensures.noise)
    c.write-written.ensures.ok c.write-written.ensures.err refl
