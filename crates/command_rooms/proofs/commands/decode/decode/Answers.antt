-- The input is read, and is lines of hexadecimal digits or isn't.
use Rattle.std.proofs.Common.{rules, refl, sym, ap, ◌∙◌}
use Rattle.law_model.specs.Common.{decoded_text}
use Rattle.command_parts.specs.Common.{writes}
use Rattle.command_parts.specs.declared.stop_and_status.Refusal.TheVariants.{Line}
use Rattle.command_parts.proofs.SourceTextAndStopLaws.{refused-line}
use Rattle.command_parts.proofs.TaskEndAndStatusLaws.{text-written}
use Rattle.command_rooms.specs.commands.Decode.{decoded, decode_answer}
use Rattle.command_rooms.proofs.commands.decode.decode.Goals as goal

pub returns-in-Err : goal.returns-in-Err
returns-in-Err g c = record { ran = tt; stopped = c.in-Err.ensures.stopped decode_answer; nothing = refl }

pub returns-in-Err-Line : goal.returns-in-Err-Line
returns-in-Err-Line g c = record {
  ran = tt;
  stopped = refused-line _ decode_answer c.in-Ok.text.items c.line_fault.result Line _ c.in-Ok.ensures.read
      c.line_fault.ensures.why c.line_fault.ensures.note (ap decode_answer (sym c.as_slice.ensures.value)
      ∙ ap decoded (c.read_octets.ensures.line c.in-Err-Line.number (search rules)));
  nothing = refl;
}

pub returns : goal.returns
returns g c =
    text-written _ _ _ _ decode_answer c.in-Ok.text.items (decoded_text c.as_slice-2.result.now) c.in-Ok.ensures.read
    (ap decode_answer (sym c.as_slice.ensures.value) ∙ ap decoded c.in-Ok-read_octets.ensures.octets
    ∙ ap (λ octets. writes (decoded_text octets)) (sym c.as_slice-2.ensures.value))
    c.write_packets-written.ensures.ok c.write_packets-written.ensures.err refl
