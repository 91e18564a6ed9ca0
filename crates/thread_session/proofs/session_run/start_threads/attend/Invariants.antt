-- The duty was done turn by turn, and what has no thread went on.
use Rattle.std.proofs.Common.{List}
use Rattle.std.specs.Global.{Vec}
use Rattle.thread_alarms.specs.declared.watched_line.served_line.ServedLine.{ServedLine}
use Rattle.thread_session.specs.session_parts.Duty.{Begun}
use Rattle.thread_session.specs.declared.session_parts.stop_flag.Flag.{Flag}
use Rattle.thread_session.specs.session_parts.HeldShares.{AreHeldOf, AreToldBy}
use Rattle.thread_session.proofs.session_run.start_threads.attend.Given as goal

abbrev pub invariant-loop : goal.invariant-loop
invariant-loop g l = record {
  duty : (begun : Begun) → g.D.Duty.stands_for l.fn.duty begun → g.D.Duty.stands_for l.duty begun;
  told : (flags : List Flag) → AreToldBy flags l.fn.held.items → AreToldBy flags l.held.items;
  held : (shares : List (Vec ServedLine)) → AreHeldOf shares l.fn.held.items → AreHeldOf shares l.held.items;
}
