-- The lines counted so far and those that are left.
use Rattle.std.proofs.Common.{◌≡◌, ◌+◌, ◌≤◌, drop}
use Rattle.terminal_sink.specs.active_lines.CarryingLines.{carrying}
use Rattle.terminal_sink.proofs.active_lines.carrying.Given as goal

abbrev pub invariant-loop-packet : goal.invariant-loop-packet
invariant-loop-packet l = record {
  count : l.count + carrying (drop l.packet-index l.packets) ≡ carrying l.packets;
  within : l.count ≤ l.packet-index;
}
