-- The first script is whole, and the other one begins.
use Rattle.std.proofs.Common.{arith}
use Rattle.text_scripts.specs.script_read.ScriptInPieces.{drafted}
use Rattle.text_pairs.proofs.PairScriptReaderLaws.{divided_at, script_told}
use Rattle.text_pairs.proofs.pair_reader.divide.Goals as goal

pub returns-in-Ok-clause-reader : goal.returns-in-Ok-clause-reader
returns-in-Ok-clause-reader c = record { reads = c.from_line.ensures.reader; there = c.in-Ok.ensures.untested }

pub returns-in-Ok-clause-at : goal.returns-in-Ok-clause-at
returns-in-Ok-clause-at c = record {
  number = omega (arith, c.from_line.ensures.at.number, c.next_number-number.ensures);
  halves = divided_at c.in-Ok.there c.from_line.result (drafted c.args.first) c.in-Ok.ensures.script
      c.from_line.ensures.at.draft;
}

pub returns-in-Err-clause-fault : goal.returns-in-Err-clause-fault
returns-in-Err-clause-fault c = script_told _ _ c.in-Err.fault c.in-Err.ensures.fault
