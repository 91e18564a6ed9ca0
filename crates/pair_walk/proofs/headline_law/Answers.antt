-- By the headline of each way.
use Rattle.pair_walk.proofs.PairReportRowsLaws.{pair_headline}
use Rattle.pair_walk.proofs.headline_law.Goals as goal

pub returns : goal.returns
returns c = pair_headline
