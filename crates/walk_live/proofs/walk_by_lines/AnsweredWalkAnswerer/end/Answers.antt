-- The text is whole, or why it stops.
use Rattle.std.proofs.Common.{◌+◌, ap, length}
use Rattle.text_live.specs.Sayings.{said_in}
use Rattle.walk_live.specs.LiveReplies.{note_at}
use Rattle.walk_live.proofs.WalkByLinesLaws.{end_stops, waits_for}
use Rattle.walk_live.proofs.walk_by_lines.AnsweredWalkAnswerer.end.Goals as goal

pub returns-in-Err-clause-stops : goal.returns-in-Err-clause-stops
returns-in-Err-clause-stops c ls has =
    end_stops ls c.in-Err.fault c.stop_of_live.result (c.in-Err.ensures.fault (length ls + 1) (said_in ls) has.at)
    (record { refused = c.stop_of_live.ensures.refused; short = c.stop_of_live.ensures.short })

pub returns-in-Ok : goal.returns-in-Ok
returns-in-Ok c = record {
  whole = λ ls has. ap (note_at (length ls + 1)) (c.in-Ok.ensures.whole (length ls + 1) (said_in ls) has.at);
  waits = λ ls has begun. waits_for c.args.reader.now c.finish.new.self ls has c.in-Ok.ensures.reader begun
      (c.in-Ok.ensures.config (length ls + 1) (said_in ls) has.at);
  stops = λ ls has. tt;
}
