-- Where what is confirmed is true.
use Rattle.law_walk.proofs.WholeRowDespiteFailureLaws.{aligned-true, quiet-true}
use Rattle.law_walk.proofs.what_failures_spoil.start_law.Goals as goal

pub returns-clause-aligned : goal.returns-clause-aligned
returns-clause-aligned c = aligned-true

pub returns-clause-quiet : goal.returns-clause-quiet
returns-clause-quiet c = quiet-true
