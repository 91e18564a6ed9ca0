-- A script is read, its session is run, and its report is written or a write fails.
use Rattle.std.proofs.Common.{refl}
use Rattle.law_model.specs.Common.{leg_of}
use Rattle.law_model.specs.declared.script_types.Script.{Script}
use Rattle.law_walk.specs.Common.{final_report}
use Rattle.command_parts.specs.Common.{writes}
use Rattle.command_parts.proofs.TaskEndAndStatusLaws.{script-written}
use Rattle.command_run.specs.HandedSession.{HasEnded, HasGot}
use Rattle.command_run.proofs.run.run.Goals as goal

pub returns-in-Err : goal.returns-in-Err
returns-in-Err g c = record {
  ran = tt;
  stopped = c.in-Err.ensures.stopped (λ (script : Script). writes (final_report (leg_of script)));
  nothing = refl;
}

pub returns : goal.returns
returns g c =
    let script : Script = c.in-Ok.script in
    let ended : HasEnded script c.in-Ok-run_session.ended =
    record { rings = c.in-Ok-run_session.ensures.rings; group = c.in-Ok-run_session.ensures.group } in
    let got : HasGot g.K.ByteSink.written g.K.ByteSink.faults c.args.out.now c.run_session.new.out script
    c.in-Ok-run_session.ended =
    record { all = c.in-Ok-run_session.ensures.written; part = c.in-Ok-run_session.ensures.part } in
    script-written _ _ _ _ (λ (script : Script). final_report (leg_of script)) script c.in-Ok.ensures.script
    (c.end_report-written.ensures.ok script c.args.out.now ended got)
    (c.end_report-written.ensures.err script c.args.out.now ended got) (script, c.in-Ok.ensures.script, ended)
