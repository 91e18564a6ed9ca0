-- The limit goes in and comes out.
use Rattle.std.proofs.Common.{rules}
use Rattle.thread_alarms.proofs.QueueRuleViewSteps.{begins, limits, listens}
use Rattle.thread_alarms.proofs.alarm_log.open_log.limited.Goals as goal

pub ruled-requires-clause-rule : goal.ruled-requires-clause-rule
ruled-requires-clause-rule c = begins

pub try_push_as-requires-clause-rule : goal.try_push_as-requires-clause-rule
try_push_as-requires-clause-rule c = limits _ _ _ _ (search rules)

pub try_pop_as-requires-clause-rule : goal.try_pop_as-requires-clause-rule
try_pop_as-requires-clause-rule c = listens _ _ c.args.most c.args.posts (search rules)
