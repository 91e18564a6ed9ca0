-- What an item adds to the report.
use Rattle.law_walk.proofs.LandedItemRefusalAndTotalLaws.{frame-placed, command-placed, frame-totals, command-totals}
use Rattle.law_walk.proofs.report_of_walk.report_law.Goals as goal

pub returns-clause-frame : goal.returns-clause-frame
returns-clause-frame c = frame-placed

pub returns-clause-command : goal.returns-clause-command
returns-clause-command c = command-placed

pub returns-clause-frame_totals : goal.returns-clause-frame_totals
returns-clause-frame_totals c = frame-totals

pub returns-clause-command_totals : goal.returns-clause-command_totals
returns-clause-command_totals c = command-totals
