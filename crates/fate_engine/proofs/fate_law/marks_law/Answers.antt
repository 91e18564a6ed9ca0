-- Whether all marks are true is decided.
use Rattle.fate_engine.proofs.TrueMarksLaws.{marks-starts, starts-marks}
use Rattle.fate_engine.proofs.fate_law.marks_law.Goals as goal

pub returns : goal.returns
returns c pieces rows carried = (marks-starts pieces rows, starts-marks pieces rows carried)
