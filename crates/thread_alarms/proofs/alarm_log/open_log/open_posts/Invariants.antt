-- The posts that were made.
use Rattle.std.proofs.Common.{◌≡◌, ℕ, length, slice_get, Some, vec_capacity}
use Rattle.std.specs.Arc.{arc_value}
use Rattle.crossbeam_queue.specs.Passes.{view, IsPassOf, ruled_capacity}
use Rattle.thread_alarms.specs.declared.alarm_log.alarm_post.AlarmPost.{AlarmPost}
use Rattle.thread_alarms.specs.declared.alarm_log.queue_rule.View.TheVariants.{Log}
use Rattle.thread_alarms.specs.alarm_log.Views.{made_first}
use Rattle.thread_alarms.specs.alarm_log.Posts.{IsFresh}
use Rattle.thread_alarms.proofs.alarm_log.open_log.open_posts.Given as goal

abbrev pub invariant-loop-number : goal.invariant-loop-number
invariant-loop-number l = record {
  own : IsPassOf (arc_value l.queue) l.pass;
  is : view l.pass ≡ Log (made_first l.most l.posts l.number);
  count : length l.made.items ≡ l.number;
  capacity : vec_capacity l.made ≡ l.posts;
  fresh : (i : ℕ) (post : AlarmPost) → slice_get l.made.items i ≡ Some post
      → IsFresh post i l.posts (ruled_capacity (arc_value l.queue)) l.most × (post.pass.table_id ≡ l.pass.table_id);
}
