-- Legs that meet what is asked.
use Rattle.law_walk.proofs.WorkedFailureLegLaws.{failing-sound, failing-starts, failing-adds, silent-sound}
use Rattle.law_walk.proofs.WorkedFailureLegLaws.{silent-adds, near-sound, near-alone}
use Rattle.law_walk.proofs.legs_that_meet.met_law.Goals as goal

pub returns-clause-failing : goal.returns-clause-failing
returns-clause-failing c = failing-sound

pub returns-clause-starts : goal.returns-clause-starts
returns-clause-starts c = failing-starts

pub returns-clause-undamaged : goal.returns-clause-undamaged
returns-clause-undamaged c = failing-adds

pub returns-clause-silent : goal.returns-clause-silent
returns-clause-silent c = silent-sound

pub returns-clause-others_silent : goal.returns-clause-others_silent
returns-clause-others_silent c = silent-adds

pub returns-clause-near : goal.returns-clause-near
returns-clause-near c = near-sound

pub returns-clause-alone : goal.returns-clause-alone
returns-clause-alone c = near-alone
