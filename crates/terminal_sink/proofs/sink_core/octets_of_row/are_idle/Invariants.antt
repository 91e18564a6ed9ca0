-- The members so far have the octets of idle frames.
use Rattle.member_cells.specs.HeldPlaces.{held}
use Rattle.terminal_sink.proofs.ReceivedOctetAndDealtIdleLaws.{AreDealt}
use Rattle.terminal_sink.proofs.sink_core.octets_of_row.are_idle.Given as goal

abbrev pub invariant-loop-rank : goal.invariant-loop-rank
invariant-loop-rank l = AreDealt l.have l.place l.places l.rank (held l.containers) l.active
