-- The log's pass knows what was put through one more post.
use Rattle.std.proofs.Common.{ap, ◌∙◌}
use Rattle.crossbeam_queue.specs.Passes.{view}
use Rattle.thread_alarms.specs.alarm_log.Views.{heard_of, put_of, posts_in, and_known}
use Rattle.thread_alarms.proofs.QueueRuleViewSteps.{merges}
use Rattle.thread_alarms.proofs.alarm_log.join_posts.join_one.Goals as goal

pub absorb-requires-clause-rule : goal.absorb-requires-clause-rule
absorb-requires-clause-rule c =
    let v = view c.args.pass.now in
    let post = c.args.post in
    merges _ v (heard_of v) _ (view post.pass) post.number post.most (posts_in (view post.pass))
    (put_of (view post.pass)) c.requires.is post.seat

pub returns-clause-known : goal.returns-clause-known
returns-clause-known c = c.absorb.ensures.rule ∙ ap (and_known (view c.args.pass.now)) c.args.post.seat
