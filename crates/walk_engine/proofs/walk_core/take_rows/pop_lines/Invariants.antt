-- The lines so far decide the next row.
use Rattle.std.proofs.Common.{◌≡◌, length}
use Rattle.law_model.specs.Common.{Leg}
use Rattle.member_rows.specs.realign_rows.Gather.{line_count}
use Rattle.walk_engine.specs.Common.{CanPop, windows_in}
use Rattle.walk_engine.proofs.ReceiveRingAndPopLaws.{Popping}
use Rattle.walk_engine.proofs.walk_core.take_rows.pop_lines.Given as goal

abbrev pub invariant-loop-m : goal.invariant-loop-m
invariant-loop-m l = record {
  size : length l.lines.items ≡ length l.fn.lines.items;
  count : line_count l.rows ≡ line_count l.fn.rows;
  rows : l.rows.rows ≡ l.fn.rows.rows;
  windows : windows_in l.lines.items ≡ windows_in l.fn.lines.items;
  pops : (leg : Leg) → CanPop leg l.fn.lines.items l.fn.rows →
      Popping leg l.fn.lines.items l.lines.items l.rows l.m;
}
