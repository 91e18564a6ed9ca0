-- By the lists of numbers, and turn by turn.
use Rattle.std.proofs.Common.{refl}
use Rattle.law_rates.proofs.RateCountLaws.{frames_prefix}
use Rattle.law_rates.proofs.RateFrameLaws.{before_turns}
use Rattle.law_rates.proofs.prefix_law.Goals as goal

pub returns-clause-first : goal.returns-clause-first
returns-clause-first c = frames_prefix

pub returns-clause-turns : goal.returns-clause-turns
returns-clause-turns c = λ rate turns k. before_turns rate.sizes turns k _ refl
