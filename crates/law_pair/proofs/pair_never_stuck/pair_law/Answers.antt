-- A pair in numbers.
use Rattle.law_pair.proofs.ReachedPairAndStallLaws.{pair-walks, pair-said, pair-together}
use Rattle.law_pair.proofs.PairMeasureAndDrainLaws.{pair-moves, pair-ends, pair-drains, pair-begins, pair-steps}
use Rattle.law_pair.proofs.PairMeasureAndDrainLaws.{pair-waits, pair-told, pair-turns, pair-stops}
use Rattle.law_pair.proofs.ReachedPairAndStallLaws.{pair-stalled}
use Rattle.law_pair.proofs.pair_never_stuck.pair_law.Goals as goal

pub returns : goal.returns
returns c = record {
  begins = pair-begins;
  steps = pair-steps;
  walks = pair-walks;
  backs = pair-said;
  together = pair-together;
  told = pair-told;
  waits = pair-waits;
  moves = pair-moves;
  ends = pair-ends;
  stalls = pair-stalled;
  turns = pair-turns;
  stops = pair-stops;
  drains = pair-drains;
}
