-- A session doesn't depend on what its packets tell.
use Rattle.law_pair.proofs.PairWayAndPacketLaws.{telling-cells, telling-packet, telling-table, telling-payload}
use Rattle.law_pair.proofs.PairWayAndPacketLaws.{telling-rows, telling-container}
use Rattle.law_pair.proofs.ways_as_sessions.telling_law.Goals as goal

pub returns : goal.returns
returns c = record {
  cells = telling-cells;
  packets = telling-packet;
  tables = telling-table;
  payload = telling-payload;
  containers = telling-container;
  rows = telling-rows;
}
