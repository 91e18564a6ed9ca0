-- The rows that failures spoil, in numbers.
use Rattle.law_service.proofs.FailureCostInRowsLaws.{cost-hit, cost-closed, cost-first, cost-used}
use Rattle.law_service.proofs.SpoiledRunsOfRowsLaws.{cost-runs, cost-runs_of-clear}
use Rattle.law_service.proofs.cost_of_failures.closed_law.Goals as goal

pub returns : goal.returns
returns c = record {
  only = λ leg from horizon t sound once late low high. cost-hit leg sound from horizon once t late low high;
  rows = λ leg from horizon t sound stops once were late low high.
      cost-closed leg sound from horizon once t stops were late low high;
  first = cost-first;
  runs = cost-runs;
  runs_of_clear = cost-runs_of-clear;
  used = λ leg from horizon sq line t sound once has used up late low high.
      cost-used leg sound from horizon once line sq t has used up late low high;
}
