-- The runs so far are written.
use Rattle.std.proofs.Common.{◌≡◌, ℕ, ◌-◌, ◌≤◌, List, ◌++◌, map, Option}
use Rattle.std.specs.List.{flat_map, range_with_len}
use Rattle.law_model.specs.Common.{Start, Scenario, Told, width, most_lines}
use Rattle.text_got.specs.TextSoFar.{HasText}
use Rattle.fate_engine.specs.Common.{ArePackets}
use Rattle.fate_service.specs.MemberRuns.{runs_on, runs_of}
use Rattle.fate_service.specs.ServiceText.{members_text}
use Rattle.fate_service.proofs.service_report.write_members.Given as goal

abbrev pub invariant-loop-row : goal.invariant-loop-row
invariant-loop-row g l =
    (l.run.members ≤ most_lines) × (l.run.end ≡ l.row)
    × ((scenario : Scenario) (cells : List (Option Told)) → ArePackets scenario cells l.packets → (done : List ℕ)
    × (done ++ flat_map (members_text l.size)
    (runs_on l.run (map (width scenario cells) (range_with_len l.row (l.rows - l.row))))
    ≡ flat_map (members_text l.size) (runs_of (map (width scenario cells) (range_with_len 0 l.rows))))
    × ((start : Start) (before : List ℕ) → HasText g.K.ByteSink.written g.K.ByteSink.faults l.fn.got start before →
    HasText g.K.ByteSink.written g.K.ByteSink.faults l.got start (before ++ done)))
