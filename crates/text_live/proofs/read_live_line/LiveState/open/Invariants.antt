-- The lines so far are kept as before they are cut.
use Rattle.std.proofs.Common.{◌≡◌, ◌≤◌, map, take}
use Rattle.std.specs.Prelude.{vec_capacity}
use Rattle.law_live.specs.LiveSayings.{uncut}
use Rattle.text_live.specs.LiveReaderStands.{state_of}
use Rattle.text_live.proofs.read_live_line.LiveState.open.Given as goal
use Rattle.law_model.specs.Common.{most_lines}

abbrev pub invariant-loop-list : goal.invariant-loop-list
invariant-loop-list l = record {
  lines : l.self.lines.items ≡ map state_of (map uncut (take l.list-index l.fn.config.windows));
  room : most_lines ≤ vec_capacity l.self.lines;
  ticks : l.self.ticks ≡ l.fn.config.ticks;
  passed : l.self.passed ≡ 0;
}
