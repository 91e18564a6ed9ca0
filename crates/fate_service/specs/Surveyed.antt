-- What was found of a walk, and how its lines go on, as private clauses say it.
use Rattle.std.specs.Prelude.{◌≡◌, ℕ, ◌+◌, ◌==◌, if◌then◌else◌, List, []}
use Rattle.law_model.specs.Common.{Leg, Counts}
use Rattle.law_walk.specs.Common.{session_rows}
use Rattle.fate_engine.specs.Common.{ended_of}
use Rattle.fate_service.specs.declared.width_run.WidthRun.{WidthRun}
use Rattle.fate_service.specs.declared.service_report.Survey.{Survey}
use Rattle.fate_service.specs.FrameColumns.{AreLanded}
use Rattle.fate_service.specs.Outages.{outages_of}
use Rattle.fate_service.specs.RowStates.{states_of}
use Rattle.fate_service.specs.ServiceText.{members_text}

-- what was found is that of a walk
pub record IsSurveyed (leg : Leg) (s : Counts) (survey : Survey) : Type 0 where
  pub landed : AreLanded (ended_of leg s) survey.landed
  pub states : survey.states.items ≡ states_of (session_rows leg s.rows)
  pub outages : survey.outages.items ≡ outages_of (states_of (session_rows leg s.rows))

-- the run after a row with so many members, and the line that is written before it
abbrev pub next_run : WidthRun → ℕ → WidthRun
next_run run members =
    if members == run.members then record { first = run.first; end = run.end + 1; members = run.members }
    else record { first = run.end; end = run.end + 1; members = members }

abbrev pub run_text : ℕ → WidthRun → ℕ → List ℕ
run_text size run members = if members == run.members then [] else members_text size run
