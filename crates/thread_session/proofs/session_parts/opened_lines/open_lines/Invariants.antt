-- The first lines are opened, and there is room for the others.
use Rattle.std.proofs.Common.{◌≤◌, vec_capacity}
use Rattle.thread_session.specs.session_parts.LinesOpened.{AreOpened}
use Rattle.thread_session.proofs.session_parts.opened_lines.open_lines.Given as goal

abbrev pub invariant-loop-line : goal.invariant-loop-line
invariant-loop-line l = record {
  are : AreOpened l.config l.line l.tx.items l.workers.items l.rx.items;
  tx : l.config.lines ≤ vec_capacity l.tx;
  workers : l.config.lines ≤ vec_capacity l.workers;
  rx : l.config.lines ≤ vec_capacity l.rx;
}
