-- Each turn of the loop moves one alarm.
use Rattle.std.proofs.Common.{◌≡◌, ◌≤◌, ◌+◌, length}
use Rattle.thread_alarms.specs.alarm_log.Logs.{moved_by, misses_of, SameLog}
use Rattle.thread_alarms.proofs.LaterServedLineLaws.{Grown}
use Rattle.thread_alarms.proofs.alarm_log.log_turns.AlarmLog.take_on.Given as goal

abbrev pub invariant-loop : goal.invariant-loop
invariant-loop g l = record {
  least : length (moved_by l.fn.self) ≤ length (moved_by l.self);
  each : length (moved_by l.self) + 1 ≡ length (moved_by l.fn.self) + l.counter;
  grown : Grown (moved_by l.fn.self) (moved_by l.self);
  quiet : misses_of l.self ≡ misses_of l.fn.self;
  same : SameLog l.fn.self l.self;
}
