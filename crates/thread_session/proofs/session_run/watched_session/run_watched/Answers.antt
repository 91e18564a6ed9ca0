-- The session is that of the script, and so are the alarms of each line.
use Rattle.std.proofs.Common.{◌≡◌, length, vec_len, Some, ap, subst, arith}
use Rattle.thread_alarms.specs.alarm_log.Logs.{SameLog, alarms_in}
use Rattle.thread_alarms.specs.alarm_log.Posts.{SamePost}
use Rattle.text_report.specs.ReportLines.{got_texts}
use Rattle.thread_session.specs.session_parts.Duty.{IsLogLater}
use Rattle.thread_session.proofs.WorkerShareAndPairListLaws.{zip-length}
use Rattle.thread_session.proofs.SessionEndByScriptLaws.{frames-ended, session-ended, group-ended}
use Rattle.thread_session.proofs.SessionRingEndsAndSinkRunLaws.{writes-whole, writes-part}
use Rattle.thread_session.proofs.LinesWithPostsLaws.{watchable, still-posts, all-alarms, all-below}
use Rattle.thread_session.proofs.session_run.watched_session.run_watched.Goals as goal

pub run_opened-left-requires-clause-watch : goal.run_opened-left-requires-clause-watch
run_opened-left-requires-clause-watch g c κs within m worker post there here =
    watchable c.args.script.config c.requires.script.sound.network _ _ _ c.in_ok-opened.ensures.open.lines
    c.in_ok-log.log c.in_ok-log.posts.items _ c.in_ok-log.ensures m worker post there here

pub finish-requires : goal.finish-requires
finish-requires g c =
    let log = c.in_ok-log.log in
    let posts = c.in_ok-log.posts in
    let left = c.run_opened-left.result.posts in
    let made = c.in_ok-log.ensures in
    let same : SameLog log c.in-Some.log =
    subst (IsLogLater (Some log)) c.in-Some.is c.run_opened-left.ensures.log in
    let long = zip-length SamePost posts.items left.items c.run_opened-left.ensures.posts in
    record {
      one_log = still-posts log c.in-Some.log posts.items left.items _ made same c.run_opened-left.ensures.posts;
      count = omega (arith, long, made.count, made.posts, same.posts, posts.ok.0, left.ok.0);
    }

pub returns : goal.returns
returns g c =
    let left = c.run_opened-left.result in
    let lines = c.in_ok-opened.opened.lines in
    let posts = c.in_ok-log.posts in
    let made = c.in_ok-log.ensures in
    let opened = c.in_ok-opened.ensures.open.lines in
    let end = c.run_opened-left.ensures.end in
    let text = ap got_texts (frames-ended c.args.script c.requires.script _ _ _ end) in
    let ended = session-ended c.args.script c.requires.script _ _ _ end in
    let long = zip-length SamePost posts.items left.posts.items c.run_opened-left.ensures.posts in
    let many : vec_len posts ≡ vec_len lines =
    omega (arith, made.count, opened.workers_count, posts.ok.0, lines.ok.0) in
    let count : length left.posts.items ≡ length left.ended.lines.items =
    omega (arith, long, made.count, ended.count) in
    record {
      rings = ended;
      group = group-ended c.args.script c.requires.script _ _ _ end;
      written = writes-whole _ _ _ _ _ _ _ text c.run_opened-left.ensures.written;
      part = writes-part _ _ _ _ _ _ _ text c.run_opened-left.ensures.written;
      alarms = all-alarms c.args.script left.ended.group left.ended.lines.items left.ended.sink ended left.posts.items
          (c.run_opened-left.ensures.told many) count (alarms_in c.finish.result) c.finish.ensures.lines;
      below = all-below c.args.script left.ended.group left.ended.lines.items left.ended.sink ended left.posts.items
          (c.run_opened-left.ensures.told many) count (alarms_in c.finish.result) c.finish.ensures.whole;
      nothing = tt;
    }
