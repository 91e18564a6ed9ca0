-- By how the counts stand beside what was said.
use Rattle.law_live.proofs.AgreeingLegConversationLaws.{agrees-offers, agrees-orders, agrees-stands, pass-free}
use Rattle.law_live.proofs.AgreeingLegConversationLaws.{pass-made, said-next, said-walked}
use Rattle.law_live.proofs.ticks_that_pass.pass_law.Goals as goal

pub returns-clause-walked : goal.returns-clause-walked
returns-clause-walked c = said-walked

pub returns-clause-ticks : goal.returns-clause-ticks
returns-clause-ticks c = λ config said leg sound well agrees. (agrees-stands config leg sound said well agrees).ticks

pub returns-clause-pass : goal.returns-clause-pass
returns-clause-pass c = λ config said k leg sound well agrees. pass-made config leg sound said k well agrees

pub returns-clause-frames : goal.returns-clause-frames
returns-clause-frames c = λ config said leg sound well agrees. (agrees-stands config leg sound said well agrees).frames

pub returns-clause-commands : goal.returns-clause-commands
returns-clause-commands c = λ config said leg sound well agrees. (agrees-stands config leg sound said well agrees).commands

pub returns-clause-next : goal.returns-clause-next
returns-clause-next c = λ config said kind leg sound well agrees. said-next config leg sound said kind well agrees

pub returns-clause-free : goal.returns-clause-free
returns-clause-free c = λ config said k n leg sound well agrees left.
    pass-free config leg sound said k n well agrees left

pub returns-clause-offers : goal.returns-clause-offers
returns-clause-offers c = λ config said leg sound well agrees. agrees-offers config leg sound said well agrees

pub returns-clause-orders : goal.returns-clause-orders
returns-clause-orders c = λ config said leg sound well agrees. agrees-orders config leg sound said well agrees
