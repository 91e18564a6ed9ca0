-- As many rows were passed as were taken, of as many lines.
use Rattle.std.proofs.Common.{◌≡◌}
use Rattle.member_rows.specs.realign_rows.Gather.{line_count}
use Rattle.parts_tests.proofs.sink_groups.take_all.Given as goal

abbrev pub invariant-loop : goal.invariant-loop
invariant-loop l = record {
  lines : line_count l.rows ≡ l.sink.lines;
  rows : l.rows.rows ≡ l.sink.taken;
}
