-- The lines that `service` writes of a walk, as numbers.
use Rattle.std.specs.Prelude.{ℕ, List, [], ◌∷◌, ◌++◌, map, fold, codes, decimal, ◌-◌, Option}
use Rattle.law_model.specs.session.Leg.{Leg}
use Rattle.law_model.specs.session.Counts.{Counts}
use Rattle.law_model.specs.session.Scenario.{scenario_by, frames_at}
use Rattle.law_model.specs.source.Client.{offered, stream_before}
use Rattle.law_walk.specs.DeliveredFrames.{session_rows}
use Rattle.law_walk.specs.LandedOfLeg.{landed_scenario}
use Rattle.law_walk.specs.Walk.{session_of}
use Rattle.fate_engine.specs.declared.fate_law.Cause.{Cause}
use Rattle.fate_engine.specs.fate_law.SessionFates.{ended_of}
use Rattle.fate_engine.specs.fate_law.FateText.{truth_text}
use Rattle.fate_service.specs.declared.landed_frames.Tally.{Tally}
use Rattle.fate_service.specs.declared.landed_frames.CarriedFrame.{CarriedFrame}
use Rattle.fate_service.specs.declared.width_run.WidthRun.{WidthRun}
use Rattle.fate_service.specs.declared.outages.Outage.{Outage}
use Rattle.fate_service.specs.declared.stretch_counts.Stretch.{Stretch}
use Rattle.fate_service.specs.declared.service_text.Ends.{Ends}
use Rattle.fate_service.specs.FrameColumns.{carried_of}
use Rattle.fate_service.specs.RowStates.{states_of}
use Rattle.fate_service.specs.Outages.{outages_of, losses, next_first}
use Rattle.fate_service.specs.Stretches.{Known, queue_in, stretch_of, spans_of}
use Rattle.fate_service.specs.MemberRuns.{runs_of}
use Rattle.fate_service.specs.ServiceText.{outage_text, stretch_text, widths_of, known_of, told_of}

-- ---- members
abbrev pub members_in : Leg → Counts → List WidthRun
members_in leg s = runs_of (widths_of leg s.rows)

-- ---- outages
-- an outage, and the frames that are lost in it
pub record OutageLine : Type 0 where
  pub outage : Outage
  pub lost : Tally

abbrev pub outage_line : List CarriedFrame → ℕ → Outage → List Outage → OutageLine
outage_line carried rows outage later =
    record { outage = outage; lost = losses carried outage.first (next_first rows later) }

unfoldable pub outage_lines : List CarriedFrame → ℕ → List Outage → List OutageLine
outage_lines carried rows [] = []
outage_lines carried rows (outage ∷ later) =
    outage_line carried rows outage later ∷ outage_lines carried rows later

abbrev pub outages_in : Leg → Counts → List OutageLine
outages_in leg s =
    outage_lines (carried_of (ended_of leg s)) s.rows (outages_of (states_of (session_rows leg s.rows)))

-- by the causes of rows
abbrev pub outage_line_text : (ℕ → Option Cause) → OutageLine → List ℕ
outage_line_text cause line = outage_text line.outage line.lost (cause line.outage.first)

-- ---- stretches
-- from one tick on to below another
pub record StretchLine : Type 0 where
  pub first : ℕ
  pub end : ℕ
  pub counts : Stretch

abbrev pub stretch_line : Known → ℕ × ℕ → StretchLine
stretch_line known span =
    record { first = span.0; end = span.1; counts = stretch_of known span.0 span.1 }

abbrev pub stretches_in : Leg → Counts → ℕ → List StretchLine
stretches_in leg s interval = map (stretch_line (known_of leg s)) (spans_of interval (told_of leg s))

abbrev pub stretch_line_text : StretchLine → List ℕ
stretch_line_text line = stretch_text line.first line.end line.counts

-- ---- the queue in a tick
abbrev pub queue_of : Leg → Counts → ℕ → ℕ
queue_of leg s t =
    let known = known_of leg s in queue_in known.accepted known.sent known.place known.ticks t

-- the frames that wait once those have landed that land in it, of all that have: the next one finds these
abbrev pub waiting_in : Leg → Counts → ℕ → List (List ℕ)
waiting_in leg s t =
    (fold offered (stream_before (scenario_by leg) (session_of leg) t) (frames_at (landed_scenario leg s) t)).waiting

-- ---- all ticks, in the last line
abbrev pub all_of : Leg → Counts → Stretch
all_of leg s = stretch_of (known_of leg s) 0 (told_of leg s)

-- ---- what the last line of `fates` is by that of `service`
abbrev pub fates_line : Stretch → Ends → List ℕ
fates_line all ends =
    codes "fates ticks " ++ decimal ends.ticks ++ codes " taken " ++ decimal ends.taken
    ++ codes " frames " ++ decimal (all.came.offered.frames - all.came.refused.frames)
    ++ codes " got " ++ decimal all.ended.got.frames
    ++ codes " lost " ++ decimal all.ended.lost.frames
    ++ codes " waits " ++ decimal ends.waits.frames
    ++ codes " refused " ++ decimal all.came.refused.frames
    ++ codes " starts " ++ truth_text ends.starts ++ codes "\n"
