-- As many rows were passed as there were numbers, of one line.
use Rattle.std.proofs.Common.{◌≡◌}
use Rattle.member_rows.specs.realign_rows.Gather.{line_count}
use Rattle.parts_tests.proofs.realignment.are_right.Given as goal

abbrev pub invariant-loop-t : goal.invariant-loop-t
invariant-loop-t l = (line_count l.rows ≡ 1) × (l.rows.rows ≡ l.t)
