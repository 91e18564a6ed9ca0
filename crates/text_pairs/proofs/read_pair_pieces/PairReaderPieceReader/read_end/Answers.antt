-- What the reader of two scripts says at the end, in the words of any reader.
use Rattle.std.proofs.Common.{◌∙◌, ap, inl, inr}
use Rattle.text_pairs.specs.PairOfText.{pair_of}
use Rattle.text_pairs.specs.Inputs.{pair_told}
use Rattle.text_pairs.proofs.PairScriptReaderLaws.{room_for, stops_pair}
use Rattle.text_pairs.proofs.read_pair_pieces.PairReaderPieceReader.read_end.Goals as goal

pub finish-requires-clause-room : goal.finish-requires-clause-room
finish-requires-clause-room c = room_for c.args.self c.args.rest.now c.requires

pub returns-in-Ok-clause-said : goal.returns-in-Ok-clause-said
returns-in-Ok-clause-said c all follows =
    ap pair_told (ap pair_of follows.is ∙ c.in-Ok.ensures.pair follows.text follows.reads.stands)

pub returns-in-Err-clause-stopped : goal.returns-in-Err-clause-stopped
returns-in-Err-clause-stopped c all follows =
    elim (c.in-Err.ensures.fault follows.text follows.reads.stands) [
      | inl short ↦ stops_pair (pair_of all) c.in-Err.fault c.stop_of_pair.result (inl short) c.stop_of_pair.ensures.refused
          c.stop_of_pair.ensures.short
      | inr told ↦ stops_pair (pair_of all) c.in-Err.fault c.stop_of_pair.result (inr (ap pair_of follows.is ∙ told))
          c.stop_of_pair.ensures.refused c.stop_of_pair.ensures.short
    ]
