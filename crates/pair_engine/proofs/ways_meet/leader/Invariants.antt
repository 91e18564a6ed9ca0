-- None of the lines so far has a packet.
use Rattle.std.proofs.Common.{◌≡◌, drop}
use Rattle.law_model.specs.Common.{leader}
use Rattle.pair_engine.proofs.ways_meet.leader.Given as goal

abbrev pub invariant-loop-packet : goal.invariant-loop-packet
invariant-loop-packet l = leader (drop l.packet-index l.row) ≡ leader l.row
