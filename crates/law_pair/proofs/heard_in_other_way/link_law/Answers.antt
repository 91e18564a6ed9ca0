-- Where the two ways of a pair meet.
use Rattle.law_pair.proofs.PairWayAndPacketLaws.{says-told, reads-told}
use Rattle.law_pair.proofs.heard_in_other_way.link_law.Goals as goal

pub returns : goal.returns
returns c = record {
  says = says-told;
  reads = reads-told;
}
