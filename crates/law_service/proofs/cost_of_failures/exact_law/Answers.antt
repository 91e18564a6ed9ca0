-- The rows and the lines in use, exactly.
use Rattle.law_service.proofs.FewerWindowsLaws.{sound-without}
use Rattle.law_service.proofs.FailureCostInRowsLaws.{cost-spoiled, cost-exact, cost-told, cost-stands, cost-unnoticed}
use Rattle.law_service.proofs.UnnoticedFailureLaws.{same-tables}
use Rattle.law_service.proofs.cost_of_failures.exact_law.Goals as goal

pub returns : goal.returns
returns c = record {
  only = λ leg from horizon t sound once late low high.
      cost-spoiled leg sound from horizon once t late low high;
  spoiled = λ leg from horizon t sound stops once late low high.
      cost-exact leg sound from horizon once t stops late low high;
  told = λ leg from horizon t sound once spared low high.
      cost-told leg sound from horizon once t spared low high;
  stands = λ leg from horizon sq line j k sound once has late start group taken near within.
      cost-stands leg sound from horizon once sq line j k has late start group taken near within;
  unnoticed = λ leg from horizon sq line t sound once has read low high.
      cost-unnoticed leg sound from horizon once sq line t has read low high;
  without = λ leg from horizon sound. sound-without from horizon leg sound;
  tables = λ leg from horizon j sound once unnoticed near. same-tables leg sound from horizon once unnoticed j near;
}
