-- The lines added so far, with those that are left behind them, are all that have the number.
use Rattle.std.proofs.Common.{◌≡◌, ◌++◌, drop}
use Rattle.law_model.specs.Common.{lines_at}
use Rattle.terminal_sink.proofs.active_lines.push_lines.Given as goal

abbrev pub invariant-loop-line : goal.invariant-loop-line
invariant-loop-line l = l.active ++ lines_at l.sq l.line (drop l.line l.packets)
    ≡ l.fn.active ++ lines_at l.sq 0 l.packets
