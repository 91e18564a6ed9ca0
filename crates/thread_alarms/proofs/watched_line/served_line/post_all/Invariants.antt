-- The first ones were posted.
use Rattle.std.proofs.Common.{◌≡◌, ◌++◌, take}
use Rattle.thread_alarms.specs.alarm_log.Posts.{posted_by, SamePost}
use Rattle.thread_alarms.proofs.watched_line.served_line.post_all.Given as goal

abbrev pub invariant-loop-alarm : goal.invariant-loop-alarm
invariant-loop-alarm g l = record {
  posted : posted_by l.post ≡ posted_by l.fn.post ++ take l.alarm-index l.alarms;
  same : SamePost l.fn.post l.post;
}
