-- The text is whole, or why it stops.
use Rattle.std.proofs.Common.{◌+◌, ap, length}
use Rattle.pair_live.specs.PairSayingsOfLines.{pair_said_in}
use Rattle.pair_live.specs.PairDialogue.{note_at}
use Rattle.pair_live.proofs.PairByLinesLaws.{end_stops, waits_for}
use Rattle.pair_live.proofs.pair_by_lines.AnsweredPairAnswerer.end.Goals as goal

pub returns-in-Err-clause-stops : goal.returns-in-Err-clause-stops
returns-in-Err-clause-stops c ls has =
    end_stops ls c.in-Err.fault c.stop_of_live_pair.result (c.in-Err.ensures.fault (length ls + 1) (pair_said_in ls) has.at)
    (record { refused = c.stop_of_live_pair.ensures.refused; short = c.stop_of_live_pair.ensures.short })

pub returns-in-Ok : goal.returns-in-Ok
returns-in-Ok c = record {
  whole = λ ls has. ap (note_at (length ls + 1)) (c.in-Ok.ensures.whole (length ls + 1) (pair_said_in ls) has.at);
  waits = λ ls has begun. waits_for c.args.reader.now c.finish.new.self ls has c.in-Ok.ensures.reader begun
      (c.in-Ok.ensures.configs (length ls + 1) (pair_said_in ls) has.at);
  stops = λ ls has. tt;
}
