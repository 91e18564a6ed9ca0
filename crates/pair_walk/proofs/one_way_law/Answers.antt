-- The script of one way of a pair, and its walk.
use Rattle.std.proofs.Common.{refl}
use Rattle.pair_walk.proofs.OneWayScriptLaws.{few-lost, same-cells, same-rows, same-tables, valid-way, walk-way}
use Rattle.pair_walk.proofs.one_way_law.Goals as goal

pub returns : goal.returns
returns c = record {
  valid = valid-way;
  few_lost = few-lost;
  walk = walk-way;
  told = λ script other. refl;
  cells = same-cells;
  tables = same-tables;
  rows = same-rows;
}
