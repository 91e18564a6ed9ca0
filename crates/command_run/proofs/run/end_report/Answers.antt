-- The got lines are written, or a write of them has failed.
use Rattle.std.proofs.lemmas.Result.{on_ok_weaker, on_err_weaker}
use Rattle.command_run.proofs.EndedSessionReportLaws.{run-all, run-got, run-cut}
use Rattle.command_run.proofs.run.end_report.Goals as goal

pub returns-then-failed-clause-err : goal.returns-then-failed-clause-err
returns-then-failed-clause-err g c script first ended got =
    run-cut _ _ script first c.args.out.now (got.part (let a = c.failed.ensures in let b = c.if-failed.true in cc))

pub returns-clause-ok : goal.returns-clause-ok
returns-clause-ok g c script first ended got =
    on_ok_weaker c.write_end.result
    (run-all _ _ script first c.args.out.now c.write_end.new.out
    (got.all (let a = c.failed.ensures in let b = c.if-failed.false in cc)))
    (c.write_end.ensures.ok script ended)

pub returns-clause-err : goal.returns-clause-err
returns-clause-err g c script first ended got =
    on_err_weaker c.write_end.result
    (run-got _ _ script first c.args.out.now c.write_end.new.out
    (got.all (let a = c.failed.ensures in let b = c.if-failed.false in cc)))
    (c.write_end.ensures.err script ended)
