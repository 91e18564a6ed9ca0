-- What the reader of two scripts says, in the words of any reader.
use Rattle.std.proofs.Common.{◌++◌, inl, inr}
use Rattle.text_pairs.specs.PairOfText.{pair_of}
use Rattle.text_pairs.proofs.PairScriptReaderLaws.{as_pair, room_for, stops_pair}
use Rattle.text_pairs.proofs.read_pair_pieces.PairReaderPieceReader.read_lines.Goals as goal

pub read_on-requires-clause-room : goal.read_on-requires-clause-room
read_on-requires-clause-room c = room_for c.args.self c.args.rest.items c.requires

pub returns-in-Ok-clause-follows : goal.returns-in-Ok-clause-follows
returns-in-Ok-clause-follows c all follows =
    let read = c.in-Ok.ensures.follows all (as_pair c.args.self c.args.rest.items all follows) in
    record { text = read.text; is = read.is; reads = record { made = c.in-Ok.ensures.reader; stands = read.stands } }

pub returns-in-Err-clause-stopped : goal.returns-in-Err-clause-stopped
returns-in-Err-clause-stopped c all follows more =
    elim (c.in-Err.ensures.fault all (as_pair c.args.self c.args.rest.items all follows)) [
      | inl short ↦ stops_pair (pair_of (all ++ more)) c.in-Err.fault c.stop_of_pair.result (inl short)
          c.stop_of_pair.ensures.refused c.stop_of_pair.ensures.short
      | inr told ↦ stops_pair (pair_of (all ++ more)) c.in-Err.fault c.stop_of_pair.result (inr (told more))
          c.stop_of_pair.ensures.refused c.stop_of_pair.ensures.short
    ]
