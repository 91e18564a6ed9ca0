-- A line more is written; or a part of it, which is a part of the whole.
use Rattle.std.proofs.Common.{◌++◌, take, sym, subst}
use Rattle.law_model.specs.Common.{Appends, AppendsPart}
use Rattle.octet_io.proofs.AppendedTextAndPrefixLaws.{Appends-then, AppendsPart-then, AppendsPart-longer}
use Rattle.law_rates.specs.Rates.{RateFrame}
use Rattle.text_scripts.specs.rate_load.RateTexts.{line_of, lines_of, rate_text}
use Rattle.text_scripts.proofs.RateTextLaws.{line_more, lines_done}
use Rattle.text_scripts.proofs.rate_load.write_rate_text.write_lines.Goals as goal

pub loop-due-preserved : goal.loop-due-preserved
loop-due-preserved g c =
    let text = c.loop-due.invariant.0 in
    let frame : RateFrame = record { due = c.in-Some.due; octets = take c.in-Some.size c.next.new.room } in (
      text ++ line_of frame,
      line_more (rate_text c.args.rate.now) text c.loop-due.cursor c.next.new.self frame c.loop-due.invariant.1
          c.in-Some.ensures.frame,
      Appends-then g.K.ByteSink.written g.K.ByteSink.faults c.args.out.now c.loop-due.out c.put_all.new.sink
          text (line_of frame) c.loop-due.invariant.2
          (subst (λ line. Appends g.K.ByteSink.written g.K.ByteSink.faults c.loop-due.out c.put_all.new.sink line)
          c.frame_line-end.ensures.line c.in-Ok.ensures.ok),
    )

pub returns-in-Err-clause-err : goal.returns-in-Err-clause-err
returns-in-Err-clause-err g c =
    let text = c.loop-due.invariant.0 in
    let frame : RateFrame = record { due = c.in-Some.due; octets = take c.in-Some.size c.next.new.room } in
    let more = line_more (rate_text c.args.rate.now) text c.loop-due.cursor c.next.new.self frame c.loop-due.invariant.1
    c.in-Some.ensures.frame in
    subst (λ all. AppendsPart g.K.ByteSink.written g.K.ByteSink.faults c.args.out.now c.put_all.new.sink all) (sym more)
    (AppendsPart-longer g.K.ByteSink.written g.K.ByteSink.faults c.args.out.now c.put_all.new.sink
    (text ++ line_of frame) (lines_of c.next.new.self)
    (AppendsPart-then g.K.ByteSink.written g.K.ByteSink.faults c.args.out.now c.loop-due.out c.put_all.new.sink
    text (line_of frame) c.loop-due.invariant.2
    (subst (λ line. AppendsPart g.K.ByteSink.written g.K.ByteSink.faults c.loop-due.out c.put_all.new.sink line)
    c.frame_line-end.ensures.line c.in-Err.ensures.err)))

pub returns-clause-ok : goal.returns-clause-ok
returns-clause-ok g c =
    subst (λ all. Appends g.K.ByteSink.written g.K.ByteSink.faults c.args.out.now c.loop-due.out all)
    (lines_done (rate_text c.args.rate.now) c.loop-due.invariant.0 c.loop-due.cursor c.loop-due.invariant.1
    c.in_default.ensures.end) c.loop-due.invariant.2
