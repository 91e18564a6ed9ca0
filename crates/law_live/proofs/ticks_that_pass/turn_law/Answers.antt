-- By the measure of a walk, which each round raises.
use Rattle.law_live.proofs.LiveRoundAndLandingLaws.{rounds-over}
use Rattle.law_live.proofs.AgreeingLegConversationLaws.{pass-left, pass-less, pass-turn}
use Rattle.law_live.proofs.ticks_that_pass.turn_law.Goals as goal

pub returns-clause-left : goal.returns-clause-left
returns-clause-left c = λ config said k leg sound well agrees. pass-left config leg sound said k 0 well agrees

pub returns-clause-turn : goal.returns-clause-turn
returns-clause-turn c = λ config said k n leg sound well agrees left.
    pass-turn config leg sound said k n well agrees left

pub returns-clause-less : goal.returns-clause-less
returns-clause-less c = λ config said k n leg sound well agrees left.
    pass-less config leg sound said k n well agrees left

pub returns-clause-over : goal.returns-clause-over
returns-clause-over c = λ plan s k until done. rounds-over k plan until s done
