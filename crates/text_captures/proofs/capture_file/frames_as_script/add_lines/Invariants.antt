-- The lines of the records so far are written, and the clock stands behind the last of them.
use Rattle.std.proofs.Common.{◌≤◌, ℕ, List, [], ◌++◌, length}
use Rattle.law_model.specs.Common.{Start}
use Rattle.text_got.specs.TextSoFar.{HasText}
use Rattle.text_captures.specs.capture_file.Form.{Record}
use Rattle.text_captures.specs.capture_file.Reading.{frames_behind}
use Rattle.text_captures.specs.capture_file.Texts.{frame_texts}
use Rattle.text_captures.proofs.CaptureRecordReadingLaws.{HasRead}
use Rattle.text_captures.proofs.capture_file.frames_as_script.add_lines.Given as goal

abbrev pub invariant-loop-record : goal.invariant-loop-record
invariant-loop-record g l =
    (before : List Record) × HasRead l.form l.body l.rest l.clock before
    × ((start : Start) (text : List ℕ) → HasText g.K.ByteSink.written g.K.ByteSink.faults l.fn.got start text
    → HasText g.K.ByteSink.written g.K.ByteSink.faults l.got start
    (text ++ frame_texts (frames_behind l.form [] before)))

abbrev pub decreases-loop-record : goal.decreases-loop-record
decreases-loop-record g l = length l.rest
