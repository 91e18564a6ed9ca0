-- By decision steps of a way.
use Rattle.law_pair.specs.Common.{counts_on}
use Rattle.law_live.specs.Common.{answers_on, leg_on, pair_answers, pair_counts}
use Rattle.law_live.proofs.BothWaysAnswerLaws.{answers-queue, answers-queues, answers-steps}
use Rattle.law_live.proofs.ToldMemberLaws.{told-differ, told-last, told-step}
use Rattle.law_live.proofs.both_ways.what_both_are_told.both_told_law.Goals as goal

pub returns-clause-differ : goal.returns-clause-differ
returns-clause-differ c = λ one other said way m.
    told-differ (leg_on one other way) (answers_on way (pair_answers one other said))
    (counts_on (pair_counts one other said) way).ticks (answers-steps one other said way) m

pub returns-clause-step : goal.returns-clause-step
returns-clause-step c = λ one other said way m j low made.
    told-step (leg_on one other way) (answers_on way (pair_answers one other said))
    (counts_on (pair_counts one other said) way).ticks (answers-steps one other said way) m j low made

pub returns-clause-last : goal.returns-clause-last
returns-clause-last c = λ one other said way m low.
    told-last (leg_on one other way) (answers_on way (pair_answers one other said))
    (counts_on (pair_counts one other said) way).ticks (answers-steps one other said way) m low

pub returns-clause-queues : goal.returns-clause-queues
returns-clause-queues c = λ one other said way. answers-queues one other said way

pub returns-clause-queue : goal.returns-clause-queue
returns-clause-queue c = λ one other said way. answers-queue one other said way
