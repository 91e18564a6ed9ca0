-- The lines so far are decided.
use Rattle.std.proofs.Common.{◌≡◌, ◌+◌, drop}
use Rattle.member_rows.specs.realign_rows.Gather.{decided_lines}
use Rattle.member_rows.proofs.realign_rows.row_gather.decided_lines.Given as goal

abbrev pub invariant-loop-m : goal.invariant-loop-m
invariant-loop-m l = decided_lines l.lines ≡ l.m + decided_lines (drop l.m l.lines)
