-- `capture`: a script's walk, and the capture of the frames that it delivers.
use Rattle.std.specs.Prelude.{ℕ, ◌+◌, List, codes, Option, Some, None, if◌then◌else◌}
use Rattle.std.specs.List.{flat_map, range_with_len}
use Rattle.law_model.specs.Common.{Start, leg_of}
use Rattle.law_model.specs.declared.script_types.Script.{Script}
use Rattle.law_headline.specs.WalkTexts.{counts_in}
use Rattle.walk_engine.specs.Common.{Walked}
use Rattle.law_walk.specs.DeliveredFrames.{delivered_since}
use Rattle.text_captures.specs.capture_file.WrittenCapture.{RowFrame, ethernet_capture}
use Rattle.text_captures.specs.declared.capture_file.capture_out.CaptureOut.{CaptureOut}
use Rattle.text_captures.specs.capture_file.CaptureSoFar.{HasCapture, at_row}
use Rattle.command_parts.specs.Common.{Answer, writes, script_answer}
use Rattle.command_rooms.specs.declared.walk_command.WalkCommand.{WalkCommand}
use Rattle.command_rooms.specs.declared.walk_command.WalkCommand.TheVariants.{Capture}
use Rattle.command_rooms.specs.commands.Walk.{is_word}

abbrev pub capture_words : List (List ℕ) → Option WalkCommand
capture_words words = if is_word (codes "capture") words then Some Capture else None

-- the frames that a row gives beside those of the rows before it
abbrev pub frames_of_row : Script → ℕ → List RowFrame
frames_of_row script row = at_row row (delivered_since (leg_of script) row (row + 1))

-- the frames that the first rows give, each with the row that gives it
unfoldable pub taken_frames : Script → ℕ → List RowFrame
taken_frames script rows = flat_map (frames_of_row script) (range_with_len 0 rows)

-- the capture of those that a walk delivers
abbrev pub capture_octets : Script → List ℕ
capture_octets script = ethernet_capture (taken_frames script (counts_in script).rows)

abbrev pub capture_answer : List ℕ → Answer
capture_answer = script_answer (λ script. writes (capture_octets script))

-- ---- as private clauses say it
-- the capture of all rows that were taken is written, or waits
abbrev pub HasTaken : {K : Type 0} → (K → Option (List ℕ)) → (K → ℕ) → CaptureOut K → Start → Walked → Type 0
HasTaken written faults out start walk = HasCapture written faults out start (taken_frames walk.script walk.counts.rows)
