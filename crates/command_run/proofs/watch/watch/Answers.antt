-- A script is read, its session is run, and its report and its alarms are written or a write fails.
use Rattle.std.proofs.Common.{inl, inr, refl, subst}
use Rattle.law_model.specs.Common.{leg_of, Appends, AppendsPart}
use Rattle.std.proofs.lemmas.Result.{on_ok_weaker, on_err_weaker}
use Rattle.law_model.specs.declared.script_types.Script.{Script}
use Rattle.law_walk.specs.Common.{final_report}
use Rattle.thread_alarms.specs.alarm_log.Logs.{alarms_in}
use Rattle.command_parts.specs.Common.{Answer, writes_both}
use Rattle.command_parts.proofs.SourceTextAndStopLaws.{meets-script}
use Rattle.command_run.specs.Watch.{alarms_text}
use Rattle.command_run.specs.HandedSession.{HasEnded, HasGot}
use Rattle.command_run.proofs.WatchAlarmTextLaws.{told-text, some-none, some-all}
use Rattle.command_run.proofs.watch.watch.Goals as goal

abbrev answer : Script → Answer
answer script = writes_both (final_report (leg_of script)) (alarms_text script)

pub returns-in-Err : goal.returns-in-Err
returns-in-Err g c = record { ran = tt; stopped = c.in-Err.ensures.stopped answer; nothing = (refl, refl) }

-- ---- a write has failed in the report
pub returns-in_default-end_report : goal.returns-in_default-end_report
returns-in_default-end_report g c =
    let script : Script = c.in-Ok.script in
    let ended : HasEnded script c.in-Ok-run_watched.ended =
    record { rings = c.in-Ok-run_watched.ensures.rings; group = c.in-Ok-run_watched.ensures.group } in
    let got : HasGot g.K.ByteSink.written g.K.ByteSink.faults c.args.out.now c.run_watched.new.out script
    c.in-Ok-run_watched.ended =
    record { all = c.in-Ok-run_watched.ensures.written; part = c.in-Ok-run_watched.ensures.part } in
    record {
      ran = record {
        answer = answer script;
        meets = meets-script _ answer script c.in-Ok.ensures.script;
        all = tt;
        part = inl (
          c.in_default-end_report.ensures.err script c.args.out.now ended got,
          some-none _ _ c.args.notes.now (alarms_text script),
        );
        made = (script, c.in-Ok.ensures.script, ended);
      };
      stopped = tt;
      nothing = tt;
    }

-- ---- the report is written, and the alarms are or a write fails in them
pub returns : goal.returns
returns g c =
    let script : Script = c.in-Ok.script in
    let ended : HasEnded script c.in-Ok-run_watched.ended =
    record { rings = c.in-Ok-run_watched.ensures.rings; group = c.in-Ok-run_watched.ensures.group } in
    let got : HasGot g.K.ByteSink.written g.K.ByteSink.faults c.args.out.now c.run_watched.new.out script
    c.in-Ok-run_watched.ended =
    record { all = c.in-Ok-run_watched.ensures.written; part = c.in-Ok-run_watched.ensures.part } in
    let report = c.in-Ok-end_report.ensures.ok script c.args.out.now ended got in
    let alarms = told-text script (alarms_in c.in-Ok-run_watched.list) c.in-Ok-run_watched.ensures.alarms in
    record {
      ran = record {
        answer = answer script;
        meets = meets-script _ answer script c.in-Ok.ensures.script;
        all = on_ok_weaker c.tell_alarms-written.result
            (λ all. (
              report,
              subst (Appends g.E.ByteSink.written g.E.ByteSink.faults c.args.notes.now
                  c.tell_alarms-written.new.notes) alarms all,
            )) c.tell_alarms-written.ensures.ok;
        part = on_err_weaker c.tell_alarms-written.result (λ part. inr (
          some-all _ _ c.args.out.now
              c.end_report.new.out (final_report (leg_of script)) report,
          subst (AppendsPart g.E.ByteSink.written g.E.ByteSink.faults c.args.notes.now
              c.tell_alarms-written.new.notes) alarms part,
        ))
            c.tell_alarms-written.ensures.err;
        made = (script, c.in-Ok.ensures.script, ended);
      };
      stopped = tt;
      nothing = tt;
    }
