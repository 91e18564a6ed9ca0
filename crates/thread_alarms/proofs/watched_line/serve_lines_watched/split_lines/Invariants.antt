-- What was taken apart, and what is left.
use Rattle.std.proofs.Common.{◌≡◌, ◌+◌, ◌≤◌, ◌++◌, map, vec_len, vec_capacity}
use Rattle.std.specs.Vec.Iter.{into_iter_items, into_iter_len}
use Rattle.thread_alarms.specs.watched_line.ServedWithPosts.{worker_of, posts_of}
use Rattle.thread_alarms.proofs.watched_line.serve_lines_watched.split_lines.Given as goal

abbrev pub invariant-loop-line : goal.invariant-loop-line
invariant-loop-line l = record {
  workers : l.workers.items ++ map worker_of (into_iter_items l.line-iterator) ≡ map worker_of l.fn.lines.items;
  posts : l.posts.items ++ posts_of (into_iter_items l.line-iterator) ≡ posts_of l.fn.lines.items;
  room : vec_len l.workers + into_iter_len l.line-iterator ≤ vec_capacity l.workers;
  place : vec_len l.posts + into_iter_len l.line-iterator ≤ vec_capacity l.posts;
}
