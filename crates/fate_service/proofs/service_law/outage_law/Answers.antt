-- What an outage is.
use Rattle.fate_service.proofs.FrameFateBetweenOutagesLaws.{rows-are, got-rows, before-all, between-all, one-only}
use Rattle.fate_service.proofs.OutageAndLostFrameLaws.{lost-once, lines-caused}
use Rattle.fate_service.proofs.OutageAndSpoiledRowLaws.{spoiled-told}
use Rattle.fate_service.proofs.service_law.outage_law.Goals as goal

pub returns : goal.returns
returns c = record {
  runs = rows-are;
  spoiled = spoiled-told;
  begins = lines-caused;
  got = got-rows;
  once = lost-once;
  before = before-all;
  between = between-all;
  one = one-only;
}
