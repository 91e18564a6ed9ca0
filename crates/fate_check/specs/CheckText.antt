-- The text of what in a script is unused, idle, early or refused: a line for each line that is unused, one for each
-- failure that is idle, one of frames that are early, if there are any, one for each item that was refused, and one of
-- numbers.
-- These texts are this project's own.
use Rattle.std.specs.Prelude.{ℕ, ◌-◌, nat_lt, if◌then◌else◌, List, [], ◌++◌, length, Option, Some, None, codes, decimal}
use Rattle.std.specs.List.{flat_map}
use Rattle.law_model.specs.declared.item_refusals.Refusal.{Refusal}
use Rattle.law_model.specs.declared.item_refusals.Refusal.TheVariants.{Command, Frame}
use Rattle.law_model.specs.declared.item_refusals.CommandFault.{CommandFault}
use Rattle.law_model.specs.declared.item_refusals.CommandFault.TheVariants.{UnknownLine}
use Rattle.law_model.specs.declared.window_types.Window.{Window}
use Rattle.law_model.specs.session.Leg.{Leg}
use Rattle.law_model.specs.session.Counts.{Counts}
use Rattle.text_report.specs.ReportLines.{refusal_text}
use Rattle.law_walk.specs.LandedOfLeg.{refusals_of}
use Rattle.fate_check.specs.declared.check_lines.Found.{Found}
use Rattle.fate_check.specs.UsedLines.{unused_lines}
use Rattle.fate_check.specs.IdleWindows.{idle_windows}
use Rattle.fate_check.specs.EarlyFrames.{payload_row, early_frames}

-- ---- lines
abbrev pub unused_text : ℕ → List ℕ
unused_text line = codes "line " ++ decimal line ++ codes " unused\n"

-- a failure by the numbers of its line in the script
abbrev pub idle_text : ℕ → Window → List ℕ
idle_text line window =
    codes "window " ++ decimal line ++ codes " " ++ decimal window.first ++ codes " " ++ decimal window.end
    ++ codes " idle\n"

abbrev pub row_text : Option ℕ → List ℕ
row_text None = codes "none"
row_text (Some row) = decimal row

abbrev pub early_text : ℕ → Option ℕ → List ℕ
early_text frames row = codes "early " ++ decimal frames ++ codes " " ++ row_text row ++ codes "\n"

abbrev pub early_if_any : ℕ → Option ℕ → List ℕ
early_if_any frames row = if nat_lt 0 frames then early_text frames row else []

-- which lines there are, where a command is for none of them
abbrev pub known_text : CommandFault → List ℕ
known_text (UnknownLine lines) = codes " lines 0 to " ++ decimal (lines - 1)
known_text fault = []

abbrev pub lines_text : Refusal → List ℕ
lines_text (Command fault) = known_text fault
lines_text (Frame fault) = []

abbrev pub refused_item : ℕ → Refusal → List ℕ
refused_item item why =
    codes "item " ++ decimal item ++ codes " " ++ (codes "refused " ++ refusal_text why) ++ lines_text why
    ++ codes "\n"

abbrev pub last_text : Found → List ℕ
last_text found =
    codes "check unused " ++ decimal found.unused ++ codes " idle " ++ decimal found.idle ++ codes " early "
    ++ decimal found.early ++ codes " refused " ++ decimal found.refused ++ codes "\n"

-- ---- by the counts of a walk
abbrev pub idle_texts : List (ℕ × Window) → List ℕ
idle_texts failures = flat_map (λ (failure : ℕ × Window). idle_text failure.0 failure.1) failures

abbrev pub refused_items : List (ℕ × Refusal) → List ℕ
refused_items refusals = flat_map (λ (refused : ℕ × Refusal). refused_item refused.0 refused.1) refusals

abbrev pub found_of : Leg → Counts → Found
found_of leg s = record {
  unused = length (unused_lines leg s.rows);
  idle = length (idle_windows leg s.rows);
  early = length (early_frames leg s);
  refused = length (refusals_of leg s);
}

abbrev pub check_text : Leg → Counts → List ℕ
check_text leg s =
    flat_map unused_text (unused_lines leg s.rows)
    ++ idle_texts (idle_windows leg s.rows)
    ++ early_if_any (length (early_frames leg s)) (payload_row leg s)
    ++ refused_items (refusals_of leg s)
    ++ last_text (found_of leg s)
