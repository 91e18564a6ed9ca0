-- By decision steps.
use Rattle.law_live.specs.Common.{answers, live_counts}
use Rattle.law_live.proofs.AgreeingLegConversationLaws.{answers-steps}
use Rattle.law_live.proofs.ToldMemberLaws.{step-ticks, step-trace, told-differ, told-last, told-step}
use Rattle.law_live.proofs.what_members_are_told.member_law.Goals as goal

pub returns-clause-times : goal.returns-clause-times
returns-clause-times c = step-ticks

pub returns-clause-trace : goal.returns-clause-trace
returns-clause-trace c = step-trace

pub returns-clause-differ : goal.returns-clause-differ
returns-clause-differ c = λ leg said m.
    told-differ leg (answers leg said) (live_counts leg said).ticks (answers-steps leg said) m

pub returns-clause-step : goal.returns-clause-step
returns-clause-step c = λ leg said m j low made.
    told-step leg (answers leg said) (live_counts leg said).ticks (answers-steps leg said) m j low made

pub returns-clause-last : goal.returns-clause-last
returns-clause-last c = λ leg said m low.
    told-last leg (answers leg said) (live_counts leg said).ticks (answers-steps leg said) m low
