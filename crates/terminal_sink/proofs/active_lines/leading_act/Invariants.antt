-- No line so far has a packet, so that the leader is among those that are left.
use Rattle.std.proofs.Common.{◌≡◌, drop}
use Rattle.law_model.specs.Common.{leader}
use Rattle.terminal_sink.specs.active_lines.CarryingLines.{act_of}
use Rattle.terminal_sink.proofs.active_lines.leading_act.Given as goal

abbrev pub invariant-loop-packet : goal.invariant-loop-packet
invariant-loop-packet l = act_of (leader (drop l.packet-index l.packets)) ≡ act_of (leader l.packets)
