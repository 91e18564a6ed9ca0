-- The workers of the lines are later, and the sink has run on.
use Rattle.text_got.specs.TextSoFar.{seen}
use Rattle.thread_session.specs.session_parts.Duty.{Begun, HasRun}
use Rattle.thread_alarms.specs.watched_line.ServedWithPosts.{AreServedLater}
use Rattle.thread_session.proofs.session_run.finish_in_turn.finish.Given as goal

abbrev pub invariant-loop : goal.invariant-loop
invariant-loop g l = record {
  lines : AreServedLater l.fn.lines.items l.lines.items;
  run : (begun : Begun) → HasRun begun l.fn.sink (seen (g.K.ByteSink.written l.fn.out) (g.K.ByteSink.faults l.fn.out)) →
      HasRun begun l.sink (seen (g.K.ByteSink.written l.out) (g.K.ByteSink.faults l.out));
}
