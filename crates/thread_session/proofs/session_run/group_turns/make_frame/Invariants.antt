-- Only items have landed so far.
use Rattle.std.proofs.Common.{◌≡◌}
use Rattle.thread_group.specs.Group.{ticks_of}
use Rattle.thread_session.proofs.session_run.group_turns.make_frame.Given as goal

abbrev pub invariant-loop : goal.invariant-loop
invariant-loop g l = ticks_of l.group.state ≡ ticks_of l.fn.group.state
