-- Nothing is said yet.
use Rattle.std.proofs.Common.{arith}
use Rattle.text_pairs.proofs.PairScriptReaderLaws.{begins}
use Rattle.text_pairs.proofs.pair_reader.PairReader.new.Goals as goal

pub returns : goal.returns
returns c = record {
  reader = record { reads = c.from_line.ensures.reader; there = tt };
  stands = record {
    said = begins c.from_line.result c.from_line.ensures.at;
    count = omega (arith, c.from_line.ensures.at.number);
  };
  room = omega (arith, c.from_line.ensures.at.number);
}
