-- Nothing was read.
use Rattle.walk_live.proofs.WalkByLinesLaws.{begins_so}
use Rattle.walk_live.proofs.walk_by_lines.AnsweredWalkAnswerer.new_reader.Goals as goal

pub returns-clause-reads : goal.returns-clause-reads
returns-clause-reads c = begins_so c.new.result c.new.ensures.reader c.new.ensures.at
