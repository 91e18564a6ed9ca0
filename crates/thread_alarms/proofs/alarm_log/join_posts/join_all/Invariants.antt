-- The posts that are left, and those that were joined.
use Rattle.std.proofs.Common.{◌≡◌, ℕ, ◌+◌, ◌≤◌, ◌++◌, map, vec_len, slice_get, Some, vec_capacity}
use Rattle.std.specs.Vec.Iter.{into_iter_items, into_iter_len}
use Rattle.crossbeam_queue.specs.Passes.{view, IsPassOf}
use Rattle.thread_alarms.specs.declared.alarm_log.alarm_post.AlarmPost.{AlarmPost}
use Rattle.thread_alarms.specs.declared.alarm_log.queue_rule.View.TheVariants.{Log}
use Rattle.thread_alarms.specs.alarm_log.Alarms.{items_of}
use Rattle.thread_alarms.specs.alarm_log.Views.{heard_of, with_known}
use Rattle.thread_alarms.specs.alarm_log.Posts.{known_by, kept_by}
use Rattle.thread_alarms.proofs.alarm_log.join_posts.join_all.Given as goal

abbrev pub invariant-loop-post : goal.invariant-loop-post
invariant-loop-post l = record {
  own : IsPassOf l.queue l.pass × (l.pass.table_id ≡ l.fn.pass.table_id);
  is : view l.pass ≡ Log (heard_of (view l.pass));
  queue : (i : ℕ) (post : AlarmPost) → slice_get (into_iter_items l.post-iterator) i ≡ Some post
      → post.pass.table_id ≡ l.pass.table_id;
  room : vec_len l.all + into_iter_len l.post-iterator ≤ vec_capacity l.all;
  known : with_known (view l.pass) (map known_by (into_iter_items l.post-iterator))
      ≡ with_known (view l.fn.pass) (map known_by l.fn.posts.items);
  kept : map items_of l.all.items ++ map kept_by (into_iter_items l.post-iterator) ≡ map kept_by l.fn.posts.items;
}
