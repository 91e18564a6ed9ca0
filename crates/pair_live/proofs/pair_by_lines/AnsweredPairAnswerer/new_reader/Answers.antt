-- Nothing was read.
use Rattle.pair_live.proofs.PairByLinesLaws.{begins_so}
use Rattle.pair_live.proofs.pair_by_lines.AnsweredPairAnswerer.new_reader.Goals as goal

pub returns-clause-reads : goal.returns-clause-reads
returns-clause-reads c = begins_so c.new.result c.new.ensures.reader c.new.ensures.at
