-- So many frames were made.
use Rattle.std.proofs.Common.{◌≡◌, ◌+◌}
use Rattle.thread_group.specs.Group.{ticks_of}
use Rattle.thread_session.proofs.session_run.group_turns.make_frames.Given as goal

abbrev pub invariant-loop-made : goal.invariant-loop-made
invariant-loop-made g l = ticks_of l.group.state ≡ ticks_of l.fn.group.state + l.made
