-- By rounds, and by sayings.
use Rattle.law_live.proofs.AgreeingLegConversationLaws.{agrees-refused, agrees-times, answers-got, answers-steps}
use Rattle.law_live.proofs.AgreeingLegConversationLaws.{answers-times}
use Rattle.law_live.proofs.what_is_answered.answer_law.Goals as goal

pub returns-clause-got : goal.returns-clause-got
returns-clause-got c = answers-got

pub returns-clause-steps : goal.returns-clause-steps
returns-clause-steps c = answers-steps

pub returns-clause-times : goal.returns-clause-times
returns-clause-times c = answers-times

pub returns-clause-refused : goal.returns-clause-refused
returns-clause-refused c = λ config said leg sound well agrees. agrees-refused config leg sound said well agrees

pub returns-clause-between : goal.returns-clause-between
returns-clause-between c = λ config said more leg sound well agrees.
    agrees-times config leg sound said more well agrees
