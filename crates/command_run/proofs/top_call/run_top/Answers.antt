-- The program ends as the command does that the words are.
use Rattle.std.proofs.Common.{◌≡◌, Some, refl, sym, ap, subst, rules}
use Rattle.law_model.specs.session.Leg.{leg_of}
use Rattle.law_walk.specs.WalkReport.{final_report}
use Rattle.command_parts.specs.Task.{Task, writes, writes_both}
use Rattle.command_parts.specs.Ends.{Ends, lent}
use Rattle.command_parts.proofs.TaskEndAndStatusLaws.{alone, ends-given, when-run}
use Rattle.command_run.specs.declared.command_of_words.RunCommand.TheVariants.{Run, Watch}
use Rattle.command_run.specs.Watch.{alarms_text}
use Rattle.command_run.specs.Commands.{command_in, task_at, task_for}
use Rattle.command_run.specs.HandedSession.{HandsSession, ended_of}
use Rattle.command_run.proofs.EndedSessionReportLaws.{tells-headline}
use Rattle.command_run.proofs.top_call.run_top.Goals as goal

pub returns-in-Ok-Run : goal.returns-in-Ok-Run
returns-in-Ok-Run g c =
    let P : Task → Type 0 = λ task.
    Ends (lent g.S.ByteSource.left g.S.ByteSource.faults c.args.script.now c.run.new.script)
    (lent g.K.ByteSink.written g.K.ByteSink.faults c.args.out.now c.run.new.out)
    (lent g.E.ByteSink.written g.E.ByteSink.faults c.args.notes.now c.end_of.new.notes)
    task c.end_of.result.status in
    let known : command_in c.args.words.now ≡ Some (Run c.in-Ok-Run.workers) = search rules in
    let own : P (task_at (Run c.in-Ok-Run.workers)) =
    ends-given _ _ _ _ c.args.notes.now c.args.notes.now c.end_of.new.notes _ _ _ c.run.result
    (alone _ _ _ _ _ _ refl c.run.ensures) c.end_of.ensures.end in
    record {
      ends = subst P (sym (ap task_for known)) own;
      headline = tells-headline _ _ (lent g.E.ByteSink.written g.E.ByteSink.faults c.args.notes.now c.end_of.new.notes)
          c.end_of.result.status (λ script. writes (final_report (leg_of script))) (λ script all. all.0) own;
      handed = λ at. rw c.end_of.ensures.ended
          (when-run _ _ _ _ c.args.notes.now c.args.notes.now c.end_of.new.notes _ _ _
          (λ ran. HandsSession (lent g.S.ByteSource.left g.S.ByteSource.faults c.args.script.now c.run.new.script)
          (ended_of ran)) (λ own made. made) c.run.result (alone _ _ _ _ _ _ refl c.run.ensures) c.end_of.ensures.end at);
      kept = search rules;
    }

pub returns-in-Ok-Watch : goal.returns-in-Ok-Watch
returns-in-Ok-Watch g c =
    let P : Task → Type 0 = λ task.
    Ends (lent g.S.ByteSource.left g.S.ByteSource.faults c.args.script.now c.watch.new.script)
    (lent g.K.ByteSink.written g.K.ByteSink.faults c.args.out.now c.watch.new.out)
    (lent g.E.ByteSink.written g.E.ByteSink.faults c.args.notes.now c.end_of-in-Ok-Watch.new.notes)
    task c.end_of-in-Ok-Watch.result.status in
    let known : command_in c.args.words.now ≡ Some (Watch c.in-Ok-Watch.workers) = search rules in
    let own : P (task_at (Watch c.in-Ok-Watch.workers)) =
    ends-given _ _ _ _ c.args.notes.now c.watch.new.notes c.end_of-in-Ok-Watch.new.notes _ _ _ c.watch.result
    c.watch.ensures c.end_of-in-Ok-Watch.ensures.end in
    record {
      ends = subst P (sym (ap task_for known)) own;
      headline = tells-headline _ _ (lent g.E.ByteSink.written g.E.ByteSink.faults c.args.notes.now c.end_of-in-Ok-Watch.new.notes)
          c.end_of-in-Ok-Watch.result.status (λ script. writes_both (final_report (leg_of script)) (alarms_text script)) (λ script all. all.0) own;
      handed = λ at. rw c.end_of-in-Ok-Watch.ensures.ended
          (when-run _ _ _ _ c.args.notes.now c.watch.new.notes c.end_of-in-Ok-Watch.new.notes _ _ _
          (λ ran. HandsSession (lent g.S.ByteSource.left g.S.ByteSource.faults c.args.script.now c.watch.new.script)
          (ended_of ran)) (λ own made. made) c.watch.result c.watch.ensures c.end_of-in-Ok-Watch.ensures.end at);
      kept = search rules;
    }
