-- It has read the same lines.
use Rattle.std.proofs.Common.{◌+◌, length}
use Rattle.pair_live.specs.PairSayingsOfLines.{pair_said_in}
use Rattle.pair_live.proofs.pair_by_lines.AnsweredPairAnswerer.open.Goals as goal

pub returns-clause-reads : goal.returns-clause-reads
returns-clause-reads c ls has = record {
  fine = has.fine;
  made = c.take_configs.ensures.reader;
  at = c.take_configs.ensures.at (length ls + 1) (pair_said_in ls) has.at;
}
