-- When no change is made.
use Rattle.law_service.proofs.QuietStepAndKeptStatusLaws.{settled-still, unchanged-still}
use Rattle.law_service.proofs.cost_of_failures.settled_law.Goals as goal

pub returns : goal.returns
returns c = record {
  still = λ leg from horizon k none low high. unchanged-still leg from horizon none k low high;
  settled = λ leg from horizon k settled low high. settled-still leg from horizon settled k low high;
}
