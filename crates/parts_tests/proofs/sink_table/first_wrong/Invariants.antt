-- As many rows were taken as were counted.
use Rattle.std.proofs.Common.{◌≡◌}
use Rattle.parts_tests.proofs.sink_table.first_wrong.Given as goal

abbrev pub invariant-loop-row : goal.invariant-loop-row
invariant-loop-row l = record { lines : l.table.lines ≡ 3; taken : l.table.taken ≡ l.taken }

abbrev pub invariant-loop : goal.invariant-loop
invariant-loop l = record { lines : l.table.lines ≡ 3; taken : l.table.taken ≡ l.taken }
