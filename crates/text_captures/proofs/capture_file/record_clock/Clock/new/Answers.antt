-- Before the first record.
use Rattle.text_captures.proofs.CaptureRecordReadingLaws.{stands-begun}
use Rattle.text_captures.proofs.capture_file.record_clock.Clock.new.Goals as goal

pub returns-clause-stands : goal.returns-clause-stands
returns-clause-stands c = stands-begun c.args.unit
