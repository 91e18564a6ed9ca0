-- How soon a line that is added is in use.
use Rattle.law_session.proofs.LineBroughtForwardLaws.{undamaged, among_silent}
use Rattle.law_session.proofs.when_lines_are_in_use.use_law.Goals as goal

pub returns-clause-undamaged : goal.returns-clause-undamaged
returns-clause-undamaged c = undamaged

pub returns-clause-others_silent : goal.returns-clause-others_silent
returns-clause-others_silent c = among_silent
