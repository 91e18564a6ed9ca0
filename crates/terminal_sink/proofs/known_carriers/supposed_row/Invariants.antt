-- The lines so far have the packets that are supposed of them.
use Rattle.std.proofs.Common.{◌≡◌, length, map, take}
use Rattle.std.specs.List.{range_with_len}
use Rattle.terminal_sink.specs.known_carriers.Supposed.{supposed_at}
use Rattle.terminal_sink.proofs.known_carriers.supposed_row.Given as goal
use Rattle.law_model.specs.Common.{most_lines}

abbrev pub invariant-loop-line : goal.invariant-loop-line
invariant-loop-line l = record {
  size : length l.packets ≡ most_lines;
  done : take l.line l.packets ≡ map (supposed_at l.states l.watches l.row) (range_with_len 0 l.line);
}
