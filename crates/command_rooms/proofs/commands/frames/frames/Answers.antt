-- The input is read, and is a sound capture or isn't.
use Rattle.std.proofs.Common.{refl, sym, ap, ◌∙◌, drop}
use Rattle.text_captures.specs.capture_file.Reading.{frames_of}
use Rattle.text_captures.specs.capture_file.Texts.{frame_texts}
use Rattle.command_parts.specs.Common.{writes}
use Rattle.command_parts.specs.declared.stop_and_status.Refusal.TheVariants.{Line}
use Rattle.command_parts.proofs.SourceTextAndStopLaws.{refused-line}
use Rattle.command_parts.proofs.TaskEndAndStatusLaws.{text-written}
use Rattle.command_rooms.specs.commands.Frames.{frames_said, frames_answer}
use Rattle.command_rooms.proofs.commands.frames.frames.Goals as goal

pub returns-in-Err : goal.returns-in-Err
returns-in-Err g c = record { ran = tt; stopped = c.in-Err.ensures.stopped frames_answer; nothing = refl }

pub returns-in-Err-read_capture : goal.returns-in-Err-read_capture
returns-in-Err-read_capture g c = record {
  ran = tt;
  stopped = refused-line _ frames_answer c.in-Ok.octets.items c.capture_fault.result Line _
      c.in-Ok.ensures.read c.capture_fault.ensures.why c.capture_fault.ensures.note
      (ap frames_answer (sym c.as_slice.ensures.value) ∙ ap frames_said c.in-Err-read_capture.ensures.fault);
  nothing = refl;
}

pub returns : goal.returns
returns g c =
    text-written _ _ _ _ frames_answer c.in-Ok.octets.items
    (frame_texts (frames_of c.in-Ok-read_capture.form (drop 24 c.as_slice-2.result.now))) c.in-Ok.ensures.read
    (ap frames_answer (sym c.as_slice.ensures.value) ∙ ap frames_said c.in-Ok-read_capture.ensures.sound
    ∙ ap (λ octets. writes (frame_texts (frames_of c.in-Ok-read_capture.form (drop 24 octets))))
    (c.as_slice.ensures.value ∙ sym c.as_slice-2.ensures.value))
    c.write_frames-written.ensures.ok c.write_frames-written.ensures.err refl
