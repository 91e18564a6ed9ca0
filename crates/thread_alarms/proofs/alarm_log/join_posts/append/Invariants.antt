-- What was moved, and what is left.
use Rattle.std.proofs.Common.{◌≡◌, ◌+◌, ◌≤◌, ◌++◌, length, vec_capacity}
use Rattle.std.specs.Vec.Iter.{into_iter_items}
use Rattle.thread_alarms.proofs.alarm_log.join_posts.append.Given as goal

abbrev pub invariant-loop-alarm : goal.invariant-loop-alarm
invariant-loop-alarm l = record {
  room : length l.list.items + length (into_iter_items l.alarm-iterator) ≤ vec_capacity l.list;
  capacity : vec_capacity l.list ≡ vec_capacity l.fn.list;
  items : l.list.items ++ into_iter_items l.alarm-iterator ≡ l.fn.list.items ++ l.fn.kept.items;
}
