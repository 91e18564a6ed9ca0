-- The outages so far are written.
use Rattle.std.proofs.Common.{◌≡◌, ℕ, List, ◌++◌, drop}
use Rattle.law_model.specs.Common.{Start, leg_of, scenario_by}
use Rattle.text_got.specs.TextSoFar.{HasText}
use Rattle.law_walk.specs.Common.{session_of}
use Rattle.fate_engine.specs.Common.{row_cause, ended_of}
use Rattle.fate_service.specs.FrameColumns.{carried_of}
use Rattle.fate_service.specs.ServiceText.{outages_text}
use Rattle.fate_service.proofs.service_report.write_outages.Given as goal

abbrev pub invariant-loop-i : goal.invariant-loop-i
invariant-loop-i g l = (done : List ℕ)
    × (done ++ outages_text (row_cause (scenario_by (leg_of l.walk.script)) (session_of (leg_of l.walk.script)))
    (carried_of (ended_of (leg_of l.walk.script) l.walk.counts)) l.walk.counts.rows (drop l.i l.survey.outages.items)
    ≡ outages_text (row_cause (scenario_by (leg_of l.walk.script)) (session_of (leg_of l.walk.script)))
    (carried_of (ended_of (leg_of l.walk.script) l.walk.counts)) l.walk.counts.rows l.survey.outages.items)
    × ((start : Start) (before : List ℕ) → HasText g.K.ByteSink.written g.K.ByteSink.faults l.fn.got start before →
    HasText g.K.ByteSink.written g.K.ByteSink.faults l.got start (before ++ done))
