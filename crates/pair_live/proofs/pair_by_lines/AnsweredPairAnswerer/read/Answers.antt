-- What was read, and why it stops.
use Rattle.std.proofs.Common.{◌∙◌, ◌+◌, ap, length, sym}
use Rattle.pair_live.specs.PairReaderStands.{pair_frame}
use Rattle.pair_live.specs.PairSayingsOfLines.{pair_said_in, pair_saying_of}
use Rattle.pair_live.specs.PairDialogue.{note_at}
use Rattle.pair_live.proofs.PairByLinesLaws.{happens_in, line_stops, live_line, quiet_in, quiet_line, reads_more}
use Rattle.pair_live.proofs.pair_by_lines.AnsweredPairAnswerer.read.Goals as goal

pub returns-in-Err-clause-stops : goal.returns-in-Err-clause-stops
returns-in-Err-clause-stops c ls has =
    line_stops ls c.args.line.now c.in-Err.fault c.stop_of_live_pair.result
    (c.in-Err.ensures.stops (length ls + 1) (pair_said_in ls) has.at)
    (record { refused = c.stop_of_live_pair.ensures.refused; short = c.stop_of_live_pair.ensures.short })

pub returns-in-Blank : goal.returns-in-Blank
returns-in-Blank c = record {
  fine = λ ls has. ap (note_at (length ls + 1)) (c.in-Ok.ensures.read (length ls + 1) (pair_said_in ls) has.at).fine;
  reads = λ ls has. reads_more c.args.reader.now c.line.new.self ls c.args.line.now c.in-Ok.says has
      c.in-Ok.ensures.reader (c.in-Ok.ensures.read (length ls + 1) (pair_said_in ls) has.at);
  quiet = λ ls has none.
      let read = c.in-Ok.ensures.read (length ls + 1) (pair_said_in ls) has.at in
      quiet_line ls c.args.line.now has.fine read.fine
      (sym (ap pair_saying_of read.told) ∙ quiet_in (pair_frame c.line.new.self) c.in-Ok.says c.in-Blank.is);
  live = λ ls has. tt;
  stops = λ ls has. tt;
}

pub returns-in_default : goal.returns-in_default
returns-in_default c = record {
  fine = λ ls has. ap (note_at (length ls + 1)) (c.in-Ok.ensures.read (length ls + 1) (pair_said_in ls) has.at).fine;
  reads = λ ls has. reads_more c.args.reader.now c.line.new.self ls c.args.line.now c.in-Ok.says has
      c.in-Ok.ensures.reader (c.in-Ok.ensures.read (length ls + 1) (pair_said_in ls) has.at);
  quiet = λ ls has none. absurd cc;
  live = λ ls has.
      live_line c.args.reader.now c.line.new.self ls c.args.line.now c.in-Ok.says has c.in-Ok.ensures.reader
      (c.in-Ok.ensures.read (length ls + 1) (pair_said_in ls) has.at)
      (happens_in (pair_frame c.line.new.self) c.in-Ok.says c.in_default.not-Blank c.in_default.not-Setting);
  stops = λ ls has. tt;
}
