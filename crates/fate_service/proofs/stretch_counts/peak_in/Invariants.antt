-- The greatest queue so far.
use Rattle.std.proofs.Common.{◌≡◌, ◌-◌, List, Option}
use Rattle.law_model.specs.Common.{Scenario, Told, place_of}
use Rattle.fate_engine.specs.Common.{ArePackets}
use Rattle.fate_service.specs.Stretches.{queue_in, peak_on, peak_in}
use Rattle.fate_service.proofs.stretch_counts.peak_in.Given as goal

abbrev pub invariant-loop-tick : goal.invariant-loop-tick
invariant-loop-tick l = (scenario : Scenario) (cells : List (Option Told)) → ArePackets scenario cells l.packets →
    peak_on (queue_in l.accepted l.ruler.sent (place_of scenario cells) l.made) l.peak l.tick (l.end - l.tick)
    ≡ peak_in (queue_in l.accepted l.ruler.sent (place_of scenario cells) l.made) l.first l.end
