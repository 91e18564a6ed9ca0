-- What was put together, and the workers and posts that are left.
use Rattle.std.proofs.Common.{◌≡◌, ◌+◌, ◌≤◌, ◌++◌, length, map, vec_len, vec_capacity}
use Rattle.std.specs.Vec.Iter.{into_iter_items, into_iter_len}
use Rattle.thread_alarms.specs.watched_line.ServedWithPosts.{worker_of, posts_of, AreWatchable}
use Rattle.thread_alarms.proofs.watched_line.serve_lines_watched.serve_lines.Given as goal

abbrev pub invariant-loop-worker : goal.invariant-loop-worker
invariant-loop-worker l = record {
  workers : map worker_of l.served.items ++ into_iter_items l.worker-iterator ≡ l.fn.workers.items;
  posts : posts_of l.served.items ++ into_iter_items l.left ≡ l.fn.posts.items;
  room : vec_len l.served + into_iter_len l.worker-iterator ≤ vec_capacity l.served;
  few : length (into_iter_items l.left) ≤ length (into_iter_items l.worker-iterator);
  watch : AreWatchable (into_iter_items l.worker-iterator) (into_iter_items l.left);
}
