-- The log has the same posts.
use Rattle.std.proofs.Common.{◌≡◌, vec_capacity}
use Rattle.thread_alarms.specs.alarm_log.Listens.{Listens, SameEars}
use Rattle.thread_alarms.proofs.alarm_log.take_alarms.drain.Given as goal

abbrev pub invariant-loop : goal.invariant-loop
invariant-loop g l = record {
  listens : Listens l.queue l.pass l.list;
  same : SameEars l.fn.pass l.pass;
  room : vec_capacity l.list ≡ vec_capacity l.fn.list;
}
