-- The text of a walk's service: a line for each run of rows in which as many members carry payload, one for each outage,
-- one for each stretch, one of delays, and one of all ticks. These texts are this project's own.
use Rattle.std.specs.Prelude.{ℕ, ◌*◌, List, [], ◌∷◌, ◌++◌, length, map, Option, Some, None, codes, decimal}
use Rattle.std.specs.List.{flat_map, range_with_len}
use Rattle.law_model.specs.Common.{Leg, Counts, greatest, scenario_by, width, place_of, stream_before}
use Rattle.law_walk.specs.Common.{session_of, session_rows, session_pieces}
use Rattle.fate_engine.specs.Common.{ruler_of, are_true_marks, row_cause, ended_of, cause_text, truth_text}
use Rattle.fate_engine.specs.declared.fate_law.Cause.{Cause}
use Rattle.fate_service.specs.declared.landed_frames.Tally.{Tally}
use Rattle.fate_service.specs.declared.landed_frames.CarriedFrame.{CarriedFrame}
use Rattle.fate_service.specs.declared.width_run.WidthRun.{WidthRun}
use Rattle.fate_service.specs.declared.outages.Outage.{Outage}
use Rattle.fate_service.specs.declared.stretch_counts.Came.{Came}
use Rattle.fate_service.specs.declared.stretch_counts.Ended.{Ended}
use Rattle.fate_service.specs.declared.stretch_counts.Peak.{Peak}
use Rattle.fate_service.specs.declared.stretch_counts.Stretch.{Stretch}
use Rattle.fate_service.specs.declared.frame_delays.Delays.{Delays}
use Rattle.fate_service.specs.declared.service_text.Ends.{Ends}
use Rattle.fate_service.specs.FrameColumns.{offered_of, accepted_of, carried_of, waits_of}
use Rattle.fate_service.specs.RowStates.{states_of}
use Rattle.fate_service.specs.Outages.{outages_of, losses, next_first}
use Rattle.fate_service.specs.Stretches.{Known, stretch_of, spans_of, told_on}
use Rattle.fate_service.specs.Delays.{delays_of}
use Rattle.fate_service.specs.MemberRuns.{runs_of}

-- ---- lines
abbrev pub tally_text : Tally → List ℕ
tally_text tally = decimal tally.frames ++ codes " " ++ decimal tally.octets

-- of a container of so many octets of payload
abbrev pub members_text : ℕ → WidthRun → List ℕ
members_text size run =
    codes "members " ++ decimal run.first ++ codes " " ++ decimal run.end ++ codes " " ++ decimal run.members
    ++ codes " " ++ decimal (run.members * size) ++ codes "\n"

abbrev pub first_cause : Option Cause → List ℕ
first_cause None = []
first_cause (Some cause) = cause_text cause

abbrev pub outage_text : Outage → Tally → Option Cause → List ℕ
outage_text outage lost cause =
    codes "outage " ++ decimal outage.first ++ codes " " ++ decimal outage.end ++ codes " spoiled "
    ++ decimal outage.spoiled ++ codes " lost " ++ tally_text lost ++ codes " " ++ first_cause cause ++ codes "\n"

abbrev pub came_text : ℕ → ℕ → Came → List ℕ
came_text first end came =
    decimal first ++ codes " " ++ decimal end ++ codes " offered " ++ tally_text came.offered
    ++ codes " refused " ++ tally_text came.refused

abbrev pub carried_text : Ended → List ℕ
carried_text ended = codes " got " ++ tally_text ended.got ++ codes " lost " ++ tally_text ended.lost

abbrev pub room_text : ℕ → Peak → List ℕ
room_text capacity peak =
    codes " capacity " ++ decimal capacity ++ codes " queue " ++ decimal peak.queue ++ codes " " ++ decimal peak.tick

abbrev pub counts_text : ℕ → ℕ → Stretch → List ℕ
counts_text first end stretch =
    came_text first end stretch.came ++ carried_text stretch.ended ++ room_text stretch.capacity stretch.peak
    ++ codes " delay " ++ decimal stretch.ended.delay ++ codes " dark " ++ decimal stretch.dark

abbrev pub stretch_text : ℕ → ℕ → Stretch → List ℕ
stretch_text first end stretch = codes "stretch " ++ counts_text first end stretch ++ codes "\n"

-- the delays of the frames that were got, and the greatest delay of a line
abbrev pub delays_text : Delays → ℕ → List ℕ
delays_text delays path =
    codes "delays least " ++ decimal delays.least ++ codes " half " ++ decimal delays.half ++ codes " most "
    ++ decimal delays.most ++ codes " greatest " ++ decimal delays.greatest ++ codes " path " ++ decimal path ++ codes "\n"

abbrev pub left_text : ℕ → Tally → List ℕ
left_text outages waits = codes " outages " ++ decimal outages ++ codes " waits " ++ tally_text waits

abbrev pub ends_text : Ends → List ℕ
ends_text ends =
    left_text ends.outages ends.waits ++ codes " ticks " ++ decimal ends.ticks ++ codes " taken " ++ decimal ends.taken
    ++ codes " starts " ++ truth_text ends.starts

abbrev pub last_text : ℕ → Stretch → Ends → List ℕ
last_text end stretch ends =
    codes "service " ++ counts_text 0 end stretch ++ ends_text ends ++ codes "\n"

-- ---- outages, each with the first row of the next one
unfoldable pub outages_text : (ℕ → Option Cause) → List CarriedFrame → ℕ → List Outage → List ℕ
outages_text cause carried rows [] = []
outages_text cause carried rows (outage ∷ outages) =
    outage_text outage (losses carried outage.first (next_first rows outages)) (cause outage.first)
    ++ outages_text cause carried rows outages

-- ---- by the counts of a walk
-- how many members carry payload in each taken row
abbrev pub widths_of : Leg → ℕ → List ℕ
widths_of leg rows = map (width (scenario_by leg) (session_of leg)) (range_with_len 0 rows)

abbrev pub known_of : Leg → Counts → Known
known_of leg s = record {
  place = place_of (scenario_by leg) (session_of leg);
  ticks = s.ticks;
  rows = s.rows;
  states = states_of (session_rows leg s.rows);
  offered = offered_of (ended_of leg s);
  accepted = accepted_of (ended_of leg s);
  carried = carried_of (ended_of leg s);
  sent = (ruler_of (stream_before (scenario_by leg) (session_of leg) s.ticks)).sent;
}

abbrev pub told_of : Leg → Counts → ℕ
told_of leg s = told_on s.ticks (offered_of (ended_of leg s))

abbrev pub ends_of : Leg → Counts → Ends
ends_of leg s = record {
  outages = length (outages_of (states_of (session_rows leg s.rows)));
  waits = waits_of (ended_of leg s);
  ticks = s.ticks;
  taken = s.rows;
  starts = are_true_marks (session_pieces leg) (session_rows leg s.rows);
}

abbrev pub stretches_text : Known → List (ℕ × ℕ) → List ℕ
stretches_text known spans =
    flat_map (λ (span : ℕ × ℕ). stretch_text span.0 span.1 (stretch_of known span.0 span.1)) spans

-- with this number as the greatest delay of a line
abbrev pub service_with : ℕ → Leg → Counts → ℕ → List ℕ
service_with path leg s interval =
    flat_map (members_text leg.config.size) (runs_of (widths_of leg s.rows))
    ++ outages_text (row_cause (scenario_by leg) (session_of leg)) (carried_of (ended_of leg s)) s.rows
    (outages_of (states_of (session_rows leg s.rows)))
    ++ stretches_text (known_of leg s) (spans_of interval (told_of leg s))
    ++ delays_text (delays_of (carried_of (ended_of leg s))) path
    ++ last_text (told_of leg s) (stretch_of (known_of leg s) 0 (told_of leg s)) (ends_of leg s)

-- of a line of the leg, of a member or not: a row is taken once each line has decided it
abbrev pub service_text : Leg → Counts → ℕ → List ℕ
service_text leg = service_with (greatest leg.config.delays) leg
