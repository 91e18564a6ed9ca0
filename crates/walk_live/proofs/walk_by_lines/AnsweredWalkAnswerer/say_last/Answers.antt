-- The line of totals is that of the leg that the lines say.
use Rattle.std.proofs.Common.{subst, ◌++◌, OnOk, OnErr}
use Rattle.law_model.specs.Common.{AppendsPart}
use Rattle.text_got.specs.TextSoFar.{Holds}
use Rattle.text_report.specs.ReportLines.{total_text}
use Rattle.walk_live.proofs.WalkByLinesLaws.{total_is}
use Rattle.walk_live.proofs.walk_by_lines.AnsweredWalkAnswerer.say_last.Goals as goal

pub returns : goal.returns
returns g c = record {
  told = λ asked ls has.
      subst (λ (totals : _). OnOk c.tell_totals.result (Holds g.K.ByteSink.written g.K.ByteSink.faults c.args.out.now
      c.tell_totals.new.out c.tell_totals.new.block (c.args.block.now ++ total_text totals)))
      (total_is c.args.self.now asked ls c.totals-totals.result has c.totals-totals.ensures)
      c.tell_totals.ensures.ok;
  part = λ asked ls has.
      subst (λ (totals : _). OnErr c.tell_totals.result (AppendsPart g.K.ByteSink.written g.K.ByteSink.faults
      c.args.out.now c.tell_totals.new.out (c.args.block.now ++ total_text totals)))
      (total_is c.args.self.now asked ls c.totals-totals.result has c.totals-totals.ensures)
      c.tell_totals.ensures.err;
}
