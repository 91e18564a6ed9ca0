-- When a line is in use.
use Rattle.law_walk.proofs.AcceptedFrameAndDrainedWalkLaws.{used-undamaged, used-among_silent}
use Rattle.law_walk.proofs.member_in_use.member_law.Goals as goal

pub returns-clause-undamaged : goal.returns-clause-undamaged
returns-clause-undamaged c = used-undamaged

pub returns-clause-others_silent : goal.returns-clause-others_silent
returns-clause-others_silent c = used-among_silent
