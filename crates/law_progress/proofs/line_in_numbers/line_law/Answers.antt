-- The lines of a script in numbers.
use Rattle.law_progress.proofs.LinePathInNumbersLaws.{is_decided, is_path, can_run-plan}
use Rattle.law_progress.proofs.line_in_numbers.line_law.Goals as goal

pub returns : goal.returns
returns c = record {
  decided = is_decided;
  paths = λ windows containers delay line. is_path windows containers delay line;
  plans = can_run-plan;
}
