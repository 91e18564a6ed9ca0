-- By computing.
use Rattle.std.proofs.Common.{refl}
use Rattle.text_captures.specs.capture_file.Form.{cut_in}
use Rattle.text_captures.specs.capture_file.Reading.{greatest, faults_behind, frames_behind, first_there}
use Rattle.text_captures.proofs.capture_file.worked_law.Goals as goal

pub returns-clause-said : goal.returns-clause-said
unfolding cut_in greatest faults_behind frames_behind first_there
returns-clause-said c = refl

pub returns-clause-cut : goal.returns-clause-cut
unfolding cut_in greatest faults_behind frames_behind first_there
returns-clause-cut c = refl
