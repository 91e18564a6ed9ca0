-- No line so far has a packet, so that the leader is among those that are left.
use Rattle.std.proofs.Common.{◌≡◌, drop}
use Rattle.law_model.specs.Common.{leader}
use Rattle.terminal_sink.proofs.lcas_sink.leader.Given as goal

abbrev pub invariant-loop-packet : goal.invariant-loop-packet
invariant-loop-packet l = leader (drop l.packet-index l.row) ≡ leader l.row
