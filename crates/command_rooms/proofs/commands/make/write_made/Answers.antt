-- Each line stands behind those before it.
use Rattle.std.proofs.Common.{rules, ◌+◌, ◌-◌, ◌++◌, ℕ, List, sym, subst}
use Rattle.std.proofs.lemmas.Result.{on_ok_weaker, on_err_weaker}
use borrow.Rule.Slice.PartMut.{put_mid}
use Rattle.law_model.specs.Common.{Appends, AppendsPart}
use Rattle.text_report.specs.ReportLines.{total_text}
use Rattle.text_got.proofs.WaitingTextInBlockLaws.{front_added}
use Rattle.command_rooms.specs.commands.Make.{made_text}
use Rattle.command_rooms.proofs.WalkCaptureAndFrameSumLaws.{room-behind}
use Rattle.command_rooms.proofs.commands.make.write_made.Goals as goal

pub returns : goal.returns
returns g c =
    let P : List ℕ → Type 0 = λ text. Appends g.K.ByteSink.written g.K.ByteSink.faults c.args.out.now c.put_all.new.sink
    text in
    let Q : List ℕ → Type 0 = λ text. AppendsPart g.K.ByteSink.written g.K.ByteSink.faults c.args.out.now
    c.put_all.new.sink text in
    let text =
    front_added (c.made_line-first.result + c.total_line.result) c.sum_line.result
    (256 - (c.made_line-first.result + c.total_line.result))
    (put_mid c.made_line-first.result (256 - c.made_line-first.result) c.made_line-first.new.out c.total_line.new.out)
    c.sum_line.new.out
    (made_text c.args.lines c.args.ticks ++ total_text c.args.totals.now) _
    (room-behind c.made_line-first.result c.total_line.result (256 - c.made_line-first.result) c.made_line-first.new.out
    c.total_line.new.out (search rules) (search rules)) (search rules)
    (sym (front_added c.made_line-first.result c.total_line.result
    (256 - c.made_line-first.result) c.made_line-first.new.out c.total_line.new.out
    (made_text c.args.lines c.args.ticks) _
    (search rules) (search rules) (sym c.made_line-first.ensures.line) c.total_line.ensures.line))
    c.sum_line.ensures.line in
    record {
      ok = on_ok_weaker c.put_all.result (subst P text) c.put_all.ensures.ok;
      err = on_err_weaker c.put_all.result (subst Q text) c.put_all.ensures.err;
    }
