-- The pass of the log is split.
use Rattle.std.proofs.Common.{refl}
use Rattle.crossbeam_queue.specs.Passes.{view}
use Rattle.thread_alarms.specs.alarm_log.Views.{made_first}
use Rattle.thread_alarms.proofs.QueueRuleViewSteps.{forks}
use Rattle.thread_alarms.proofs.alarm_log.open_log.open_post.Goals as goal

pub another-theirs-requires-clause-rule : goal.another-theirs-requires-clause-rule
another-theirs-requires-clause-rule c = forks _ (view c.args.pass.now)
    (made_first c.args.most c.args.posts c.args.number) c.requires.is refl c.requires.below
