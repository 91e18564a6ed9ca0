-- The input is read, and says a link or doesn't.
use Rattle.std.proofs.Common.{refl, sym, ap, ◌∙◌}
use Rattle.command_parts.specs.declared.stop_and_status.Refusal.TheVariants.{Line}
use Rattle.command_parts.proofs.SourceTextAndStopLaws.{refused-line}
use Rattle.command_parts.proofs.TaskEndAndStatusLaws.{text-written}
use Rattle.member_au4.specs.au4_link.LinkReportText.{link_text}
use Rattle.command_rooms.specs.commands.Au4.{carried, au4_answer}
use Rattle.command_rooms.proofs.commands.au4.au4.Goals as goal

pub returns-in-Err : goal.returns-in-Err
returns-in-Err g c = record { ran = tt; stopped = c.in-Err.ensures.stopped au4_answer; nothing = refl }

pub returns-in-Err-Line : goal.returns-in-Err-Line
returns-in-Err-Line g c = record {
  ran = tt;
  stopped = refused-line _ au4_answer c.in-Ok.text.items c.faulty_line.result Line _ c.in-Ok.ensures.read
      c.faulty_line.ensures.why c.faulty_line.ensures.note (ap au4_answer (sym c.as_slice.ensures.value)
      ∙ ap carried (rw c.in-Err-Line.field-0-is at c.in-Err-Line.ensures.fault));
  nothing = refl;
}

pub returns : goal.returns
returns g c =
    text-written _ _ _ _ au4_answer c.in-Ok.text.items (link_text c.in-Ok-read_link.link) c.in-Ok.ensures.read
    (ap au4_answer (sym c.as_slice.ensures.value) ∙ ap carried c.in-Ok-read_link.ensures.link)
    c.write_link-written.ensures.ok c.write_link-written.ensures.err refl
