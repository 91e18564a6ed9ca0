-- By the frames that more rows give, and by the items that were refused.
use Rattle.law_live.proofs.BothWaysWalkLaws.{both-first, both-report, both-walks}
use Rattle.law_live.proofs.both_ways.both_as_walks.both_walk_law.Goals as goal

pub returns-clause-walks : goal.returns-clause-walks
returns-clause-walks c = λ one other said way pair. both-walks one other pair said way

pub returns-clause-first : goal.returns-clause-first
returns-clause-first c = λ one other said way pair. both-first one other pair said way

pub returns-clause-report : goal.returns-clause-report
returns-clause-report c = λ there back said way network well. both-report there back said network well way
