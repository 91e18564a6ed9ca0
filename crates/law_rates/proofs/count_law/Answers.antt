-- By the count of whole turns.
use Rattle.law_rates.proofs.RateCountLaws.{due_before, some_frames, length-frames, due_first, frames_rise, frames_early}
use Rattle.law_rates.proofs.count_law.Goals as goal

pub returns-clause-before : goal.returns-clause-before
returns-clause-before c = due_before

pub returns-clause-some : goal.returns-clause-some
returns-clause-some c = some_frames

pub returns-clause-length : goal.returns-clause-length
returns-clause-length c = length-frames

pub returns-clause-first : goal.returns-clause-first
returns-clause-first c = due_first

pub returns-clause-rising : goal.returns-clause-rising
returns-clause-rising c = frames_rise

pub returns-clause-last : goal.returns-clause-last
returns-clause-last c = frames_early
