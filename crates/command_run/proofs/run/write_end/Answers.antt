-- What waits is the rest of the report.
use Rattle.std.proofs.Common.{rules, refl, sym, ◌∙◌}
use Rattle.law_model.specs.declared.script_types.Script.{Script}
use Rattle.text_got.specs.TextSoFar.{HasText, name_of, start_at}
use Rattle.command_run.specs.HandedSession.{HasEnded, end_text}
use Rattle.command_run.proofs.EndedSessionReportLaws.{end-written}
use Rattle.command_run.proofs.run.write_end.Given as given
use Rattle.command_run.proofs.run.write_end.Goals as goal
use Rattle.command_run.proofs.run.write_end.Goals.{After-finish-back}

told : (g : given.Over) (c : After-finish-back g) (script : Script) → HasEnded script c.args.ended.now →
    HasText g.K.ByteSink.written g.K.ByteSink.faults c.write_rest.new.got
    (start_at g.K.ByteSink.written g.K.ByteSink.faults c.args.out.now (name_of c.new-got.result)) (end_text script)
told g c script ended =
    end-written g.K.ByteSink.written g.K.ByteSink.faults c.new-got.result c.write_rest.new.got _ c.refusals.result
    c.totals.result script (c.refusals.ensures ∙ ended.group.refusals) (c.totals.ensures script ended)
    c.new-got.ensures.fresh c.write_rest.ensures

pub returns-clause-ok : goal.returns-clause-ok
returns-clause-ok g c script ended =
    let has = told g (goal.at.returns-clause-ok g c).After-finish-back script ended in
    let end = c.finish-back.ensures.ok c.args.out.now (end_text script) (refl, has.1) in
    let back = rw (sym c.take_back.ensures) at end in
    let name = c.finish-back.ensures.name ∙ has.0 ∙ c.new-got.ensures.name in
    search (rules, back, name)

pub returns-clause-err : goal.returns-clause-err
returns-clause-err g c script ended =
    let has = told g (goal.at.returns-clause-err g c).After-finish-back script ended in
    let end = c.finish-back.ensures.err c.args.out.now (end_text script) (refl, has.1) in
    let back = rw (sym c.take_back.ensures) at end in
    let name = c.finish-back.ensures.name ∙ has.0 ∙ c.new-got.ensures.name in
    search (rules, back, name)
