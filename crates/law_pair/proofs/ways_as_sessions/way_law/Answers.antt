-- The ways of a pair.
use Rattle.std.proofs.Common.{refl}
use Rattle.law_pair.proofs.PairWayAndPacketLaws.{way-sound, pair-turned, way-lost}
use Rattle.law_pair.proofs.ways_as_sessions.way_law.Goals as goal

pub returns : goal.returns
returns c = record {
  there = λ there back pair. way-sound there back pair.there_way;
  back = λ there back pair. way-sound back there pair.back_way;
  options = λ script other. refl;
  turned = pair-turned;
  lost = way-lost;
}
