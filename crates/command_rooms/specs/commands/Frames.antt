-- `frames`: the lines of a script for the frames of a capture.
use Rattle.std.specs.Prelude.{ℕ, List, codes, Option, Some, None, Result, Ok, Err, if◌then◌else◌}
use Rattle.text_captures.specs.declared.capture_file.capture_form.CaptureFault.{CaptureFault}
use Rattle.text_captures.specs.capture_file.Reading.{DueFrame, capture_said}
use Rattle.text_captures.specs.capture_file.Texts.{frame_texts, fault_text}
use Rattle.command_parts.specs.Common.{Answer, writes, refuses}
use Rattle.command_parts.specs.declared.stop_and_status.Refusal.TheVariants.{Line}
use Rattle.command_rooms.specs.declared.walk_command.WalkCommand.{WalkCommand}
use Rattle.command_rooms.specs.declared.walk_command.WalkCommand.TheVariants.{Frames}
use Rattle.command_rooms.specs.commands.Walk.{is_word}

abbrev pub frames_words : List (List ℕ) → Option WalkCommand
frames_words words = if is_word (codes "frames") words then Some Frames else None

-- of what a capture says, or of its first fault
abbrev pub frames_said : Result (List DueFrame) CaptureFault → Answer
frames_said (Ok frames) = writes (frame_texts frames)
frames_said (Err fault) = refuses Line (fault_text fault)

abbrev pub frames_answer : List ℕ → Answer
frames_answer octets = frames_said (capture_said octets)
