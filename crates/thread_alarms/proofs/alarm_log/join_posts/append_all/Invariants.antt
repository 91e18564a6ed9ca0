-- What was moved, and what is left.
use Rattle.std.proofs.Common.{◌≡◌, ◌+◌, ◌≤◌, ◌++◌, length, map, vec_capacity}
use Rattle.std.specs.Vec.Iter.{into_iter_items}
use Rattle.thread_alarms.specs.alarm_log.Alarms.{in_row, items_of}
use Rattle.thread_alarms.proofs.alarm_log.join_posts.append_all.Given as goal

abbrev pub invariant-loop-one : goal.invariant-loop-one
invariant-loop-one l = record {
  room : length l.list.items + length (in_row (map items_of (into_iter_items l.one-iterator))) ≤ vec_capacity l.list;
  items : l.list.items ++ in_row (map items_of (into_iter_items l.one-iterator)) ≡ l.fn.list.items
      ++ in_row (map items_of l.fn.kept.items);
}
