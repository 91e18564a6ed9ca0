-- A cell changes neither how many lines there are nor how many rows were passed.
use Rattle.std.proofs.Common.{◌≡◌}
use Rattle.member_rows.specs.realign_rows.Gather.{line_count}
use Rattle.parts_tests.proofs.realignment.feed.Given as goal

abbrev pub invariant-loop : goal.invariant-loop
invariant-loop l = (line_count l.rows ≡ line_count l.fn.rows) × (l.rows.rows ≡ l.fn.rows.rows)
