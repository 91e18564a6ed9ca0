-- By the lists that are said one behind the other.
use Rattle.law_model.specs.Common.{begin}
use Rattle.law_walk.specs.Common.{walk_plan}
use Rattle.law_live.proofs.AgreeingLegConversationLaws.{answers-more, counts-more, rounds-more, text-more}
use Rattle.law_live.proofs.answers_that_grow.grow_law.Goals as goal

pub returns-clause-answers : goal.returns-clause-answers
returns-clause-answers c = λ leg said more. answers-more leg (begin (walk_plan leg)) said more

pub returns-clause-counts : goal.returns-clause-counts
returns-clause-counts c = λ leg said more. counts-more (walk_plan leg) (begin (walk_plan leg)) said more

pub returns-clause-rounds : goal.returns-clause-rounds
returns-clause-rounds c = λ leg said more. rounds-more (walk_plan leg) (begin (walk_plan leg)) said more

pub returns-clause-text : goal.returns-clause-text
returns-clause-text c = λ leg said more tells. text-more leg (begin (walk_plan leg)) said more tells
