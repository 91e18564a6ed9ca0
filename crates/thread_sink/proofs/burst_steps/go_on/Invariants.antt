-- What was given so far.
use Rattle.std.proofs.Common.{◌≡◌, ◌≤◌, length}
use Rattle.member_rows.specs.realign_rows.Gather.{line_count}
use Rattle.thread_sink.specs.SinkParts.{parts, Keeps, Later, Gives}
use Rattle.thread_sink.proofs.burst_steps.go_on.Given as goal

abbrev pub invariant-loop : goal.invariant-loop
invariant-loop g l = record {
  lines : line_count l.rows ≡ l.core.lines;
  rings : length l.rx.items ≡ l.core.lines;
  rows : l.rows.rows ≡ l.core.taken;
  most : l.core.taken ≤ l.fn.last;
  later : Later (parts l.fn.rows l.fn.core l.fn.rx.items l.fn.back) (parts l.rows l.core l.rx.items l.back);
  keeps : Keeps (parts l.fn.rows l.fn.core l.fn.rx.items l.fn.back) → Keeps (parts l.rows l.core l.rx.items l.back);
  gives : Keeps (parts l.fn.rows l.fn.core l.fn.rx.items l.fn.back) →
      Gives g.F.FrameOut.stands_for l.fn.out l.out (parts l.fn.rows l.fn.core l.fn.rx.items l.fn.back)
      (parts l.rows l.core l.rx.items l.back);
}
