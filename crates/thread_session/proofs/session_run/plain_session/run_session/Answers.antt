-- The session is that of the script.
use Rattle.std.proofs.Common.{ap}
use Rattle.text_report.specs.ReportLines.{got_texts}
use Rattle.thread_session.proofs.SessionEndByScriptLaws.{frames-ended, session-ended, group-ended}
use Rattle.thread_session.proofs.SessionRingEndsAndSinkRunLaws.{writes-whole, writes-part}
use Rattle.thread_session.proofs.session_run.plain_session.run_session.Goals as goal

pub returns : goal.returns
returns g c =
    let end = c.run_opened-left.ensures.end in
    let text = ap got_texts (frames-ended c.args.script c.requires.script _ _ _ end) in
    record {
      rings = session-ended c.args.script c.requires.script _ _ _ end;
      group = group-ended c.args.script c.requires.script _ _ _ end;
      written = writes-whole _ _ _ _ _ _ _ text c.run_opened-left.ensures.written;
      part = writes-part _ _ _ _ _ _ _ text c.run_opened-left.ensures.written;
      nothing = tt;
    }
