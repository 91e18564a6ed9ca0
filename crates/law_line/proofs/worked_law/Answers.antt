-- They compute.
use Rattle.law_line.proofs.WorkedLinesLaws.{is_met, are_summed, are_seventeen}
use Rattle.law_line.proofs.worked_law.Goals as goal

pub returns-clause-met : goal.returns-clause-met
returns-clause-met c = is_met

pub returns-clause-summed : goal.returns-clause-summed
returns-clause-summed c = are_summed

pub returns-clause-seventeen : goal.returns-clause-seventeen
returns-clause-seventeen c = are_seventeen
