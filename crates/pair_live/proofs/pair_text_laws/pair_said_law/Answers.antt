-- By the lines one after another.
use Rattle.pair_live.proofs.PairLineSayingsLaws.{less_fine, lines_agree, more_fine, said_next, sayings_next}
use Rattle.pair_live.proofs.pair_text_laws.pair_said_law.Goals as goal

pub returns-clause-agrees : goal.returns-clause-agrees
returns-clause-agrees c = lines_agree

pub returns-clause-more : goal.returns-clause-more
returns-clause-more c = more_fine

pub returns-clause-less : goal.returns-clause-less
returns-clause-less c = less_fine

pub returns-clause-next : goal.returns-clause-next
returns-clause-next c = said_next

pub returns-clause-sayings : goal.returns-clause-sayings
returns-clause-sayings c = sayings_next
