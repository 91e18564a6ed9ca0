-- The lines so far that are in NORM, and no more of them than were passed.
use Rattle.std.proofs.Common.{◌≡◌, ◌≤◌, map, filter, take, length}
use Rattle.law_model.specs.Common.{is_normal}
use Rattle.terminal_source.proofs.lcas_source.member_table.active.Given as goal

abbrev pub invariant-loop-member : goal.invariant-loop-member
invariant-loop-member l = record {
  lines : l.lines.items ≡ map (λ member. member.line) (filter is_normal (take l.member-index l.members));
  few : length l.lines.items ≤ l.member-index;
}
