-- Which rows failures cost, and when lines are in use again.
use Rattle.law_service.proofs.FailureCostInRowsLaws.{cost-rows, cost-together, cost-bill, cost-back, cost-others}
use Rattle.law_service.proofs.cost_of_failures.cost_law.Goals as goal

pub returns : goal.returns
returns c = record {
  rows = λ leg from horizon t sound once spared low high.
      cost-rows leg sound from horizon once t spared low high;
  together = cost-together;
  bill = cost-bill;
  back = λ leg from horizon line t window sound once fails has low high.
      cost-back leg sound from horizon once line t window fails has low high;
  others = λ leg from horizon line t sound once clear has low high.
      cost-others leg sound from horizon once line t clear has low high;
}
