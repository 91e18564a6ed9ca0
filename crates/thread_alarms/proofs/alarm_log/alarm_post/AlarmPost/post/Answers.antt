-- The post puts one alarm more.
use Rattle.std.proofs.Common.{refl, arith, length-append}
use Rattle.crossbeam_queue.specs.Passes.{view}
use Rattle.thread_alarms.specs.alarm_log.Views.{put_of, posts_in}
use Rattle.thread_alarms.proofs.QueueRuleViewSteps.{puts, held}
use Rattle.thread_alarms.proofs.alarm_log.alarm_post.AlarmPost.post.Goals as goal

pub push_as-requires-clause-rule : goal.push_as-requires-clause-rule
push_as-requires-clause-rule g c =
    let post = c.args.self.now in
    let v = view post.pass in
    let below = c.requires in
    let both = length-append (put_of v) post.kept.items in (
      puts _ _ v post.number post.most (posts_in v) (put_of v) _ post.seat refl (omega (arith, below, both)),
      held _ v post.number post.most (posts_in v) (put_of v) post.seat,
    )
