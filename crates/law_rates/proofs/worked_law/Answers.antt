-- By computing.
use Rattle.std.proofs.Common.{refl}
use Rattle.law_rates.specs.Draws.{draws, after_draws}
use Rattle.law_rates.specs.Rates.{octets_before, begun_within}
use Rattle.law_rates.proofs.worked_law.Goals as goal

pub returns-clause-count : goal.returns-clause-count
unfolding octets_before begun_within
returns-clause-count c = refl

pub returns-clause-dues : goal.returns-clause-dues
unfolding octets_before
returns-clause-dues c = refl

pub returns-clause-first : goal.returns-clause-first
unfolding octets_before draws after_draws
returns-clause-first c = refl

pub returns-clause-second : goal.returns-clause-second
unfolding octets_before draws after_draws
returns-clause-second c = refl

pub returns-clause-fourth : goal.returns-clause-fourth
unfolding octets_before draws after_draws
returns-clause-fourth c = refl
