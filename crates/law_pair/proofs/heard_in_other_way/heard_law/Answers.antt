-- What is read in the packets of the other way.
use Rattle.law_pair.proofs.PairWayAndPacketLaws.{told-early, told-said, heard-told, silent-none, way-cells}
use Rattle.law_pair.proofs.heard_in_other_way.heard_law.Goals as goal

pub returns : goal.returns
returns c = record {
  early = told-early;
  tells = told-said;
  heard = heard-told;
  silent = silent-none;
  cells = way-cells;
}
