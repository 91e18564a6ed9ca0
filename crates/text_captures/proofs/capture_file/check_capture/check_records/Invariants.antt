-- The records so far are sound, and the clock stands behind the last of them.
use Rattle.std.proofs.Common.{length}
use Rattle.text_captures.proofs.CaptureRecordReadingLaws.{HasChecked}
use Rattle.text_captures.proofs.capture_file.check_capture.check_records.Given as goal

abbrev pub invariant-loop-record : goal.invariant-loop-record
invariant-loop-record l = HasChecked l.form l.body l.rest l.clock l.number

abbrev pub decreases-loop-record : goal.decreases-loop-record
decreases-loop-record l = length l.rest
