-- By what is said of each way.
use Rattle.law_pair.specs.declared.pair_events.Way.TheVariants.{There, Back}
use Rattle.std.proofs.Common.{◌++◌}
use Rattle.law_live.specs.Common.{script_on}
use Rattle.law_live.proofs.BothWaysCountLaws.{pair-less, said-more}
use Rattle.law_live.proofs.BothWaysSharedLaws.{pair-own, passed-both, said-pair}
use Rattle.law_live.proofs.both_ways.what_both_were_told.both_said_law.Goals as goal

pub returns-clause-more : goal.returns-clause-more
returns-clause-more c = said-more

pub returns-clause-passed : goal.returns-clause-passed
returns-clause-passed c = passed-both

pub returns-clause-pair : goal.returns-clause-pair
returns-clause-pair c = said-pair

pub returns-clause-own : goal.returns-clause-own
returns-clause-own c = pair-own

pub returns-clause-less : goal.returns-clause-less
returns-clause-less c = pair-less

pub returns-clause-begins : goal.returns-clause-begins
returns-clause-begins c = λ there back said more well.
    pair-less there back said more (script_on there There (said ++ more)) (script_on back Back (said ++ more)) well
    (pair-own there back (said ++ more))
