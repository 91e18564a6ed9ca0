-- The text of fates: a line for each run of rows that aren't whole for one cause, one for each segment but the first,
-- one for each client
-- item that has landed, and a line of totals. These texts are this project's own.
use Rattle.std.specs.Prelude.{ℕ, ◌-◌, ◌+◌, Bool, true, false, List, ◌++◌, length, Option, Some, None, codes, decimal}
use Rattle.std.specs.List.{flat_map}
use Rattle.law_model.specs.Common.{Leg, Piece, scenario_by, StreamRow, Counts}
use Rattle.text_report.specs.ReportLines.{refusal_text}
use Rattle.law_walk.specs.Common.{session_of, session_rows, session_pieces}
use Rattle.fate_engine.specs.declared.fate_law.Cause.{Cause}
use Rattle.fate_engine.specs.declared.fate_law.Cause.TheVariants.{Packet, PacketOf, Container}
use Rattle.fate_engine.specs.declared.fate_law.Fate.{Fate}
use Rattle.fate_engine.specs.declared.fate_law.Fate.TheVariants.{Waits, Cut, Unconfirmed, Hunting, Unsettled, Got}
use Rattle.fate_engine.specs.fate_law.Fates.{row_at}
use Rattle.fate_engine.specs.fate_law.Marks.{is_piece_at, are_true_marks}
use Rattle.fate_engine.specs.declared.fate_law.SpoiledRun.{SpoiledRun}
use Rattle.fate_engine.specs.declared.fate_law.RowSegment.{RowSegment}
use Rattle.fate_engine.specs.fate_law.RowCauses.{spoiled_of}
use Rattle.fate_engine.specs.fate_law.Spans.{later_segments}
use Rattle.fate_engine.specs.fate_law.SessionFates.{End, refused, accepted, Ended, ended_of, is_refused, has_got, has_waited}
use Rattle.fate_engine.specs.fate_law.SessionFates.{count_of}

-- ---- rows
abbrev pub cause_text : Cause → List ℕ
cause_text Packet = codes "packet"
cause_text (PacketOf line) = codes "packet " ++ decimal line
cause_text (Container line) = codes "container " ++ decimal line

abbrev pub spoiled_text : SpoiledRun → List ℕ
spoiled_text run = codes "spoiled " ++ decimal run.first ++ codes " " ++ decimal run.end ++ codes " " ++ cause_text
    run.cause ++ codes "\n"

-- ---- segments
abbrev pub truth_text : Bool → List ℕ
truth_text true = codes "true"
truth_text false = codes "false"

abbrev pub mark_text : List Piece → List StreamRow → Option ℕ → List ℕ
mark_text pieces rows None = codes "none"
mark_text pieces rows (Some place) = truth_text (is_piece_at pieces place) ++ codes " " ++ decimal (row_at rows place)

abbrev pub segment_text : List Piece → List StreamRow → RowSegment → List ℕ
segment_text pieces rows segment =
    codes "segment " ++ decimal segment.first ++ codes " " ++ decimal segment.end ++ codes " " ++ mark_text pieces rows
    segment.mark ++ codes "\n"

-- ---- frames
abbrev pub rows_text : ℕ → ℕ → List ℕ
rows_text r q = codes " " ++ decimal r ++ codes " " ++ decimal q

abbrev pub fate_text : Fate → List ℕ
fate_text Waits = codes "waits"
fate_text (Cut r q t) = codes "cut" ++ rows_text r q ++ codes " " ++ decimal t
fate_text (Unconfirmed r q) = codes "unconfirmed" ++ rows_text r q
fate_text (Hunting r q) = codes "hunting" ++ rows_text r q
fate_text (Unsettled r q) = codes "unsettled" ++ rows_text r q
fate_text (Got r q) = codes "got" ++ rows_text r q

abbrev pub end_text : End → List ℕ
end_text (refused why) = codes "refused " ++ refusal_text why
end_text (accepted fate) = fate_text fate

abbrev pub ended_text : Ended → List ℕ
ended_text ended = codes "frame " ++ decimal ended.number ++ codes " due " ++ decimal ended.due ++ codes " " ++ end_text
    ended.end ++ codes "\n"

-- ---- the last line: how many frames are accepted, and of these are got, lost and wait, and how many are refused
abbrev pub fates_end : ℕ → ℕ → List Ended → Bool → List ℕ
fates_end ticks rows all starts =
    codes "fates ticks " ++ decimal ticks ++ codes " taken " ++ decimal rows
    ++ codes " frames " ++ decimal (length all - count_of is_refused all)
    ++ codes " got " ++ decimal (count_of has_got all)
    ++ codes " lost " ++ decimal (length all -
    (count_of is_refused all + count_of has_got all + count_of has_waited all))
    ++ codes " waits " ++ decimal (count_of has_waited all)
    ++ codes " refused " ++ decimal (count_of is_refused all)
    ++ codes " starts " ++ truth_text starts ++ codes "\n"

-- ---- the text by the counts of a walk
abbrev pub fates_text : Leg → Counts → List ℕ
fates_text leg s =
    flat_map spoiled_text (spoiled_of (scenario_by leg) (session_of leg) s.rows)
    ++ flat_map (segment_text (session_pieces leg) (session_rows leg s.rows))
    (later_segments (session_rows leg s.rows))
    ++ flat_map ended_text (ended_of leg s)
    ++ fates_end s.ticks s.rows (ended_of leg s)
    (are_true_marks (session_pieces leg) (session_rows leg s.rows))
