-- What is replied to the lines of a live text, each behind those before it: the answers to what it says, of the session of
-- which the lines so far say all; or what is wrong with it.
use Rattle.std.specs.Prelude.{ℕ, ◌+◌, ◌*◌, List, [], ◌∷◌, ◌++◌, length, Option, is_some, option_map}
use Rattle.text_lines.specs.WordsOfLine.{words}
use Rattle.law_model.specs.Common.{Leg}
use Rattle.law_model.specs.declared.script_types.Config.{Config}
use Rattle.law_walk.specs.Common.{cell_taken, table_in}
use Rattle.law_live.specs.Common.{Saying, answers, answers_from, answers_text, last_text, leg_said, live_counts}
use Rattle.law_live.specs.Common.{Telling, changed_number, members_in, members_text, queue_texts}
use Rattle.text_captures.specs.packet_trace.StepText.{step_text}
use Rattle.text_live.specs.LiveLines.{LineWrong, line_fault, opening_fault}
use Rattle.text_live.specs.LiveReaderStands.{fault_at}
use Rattle.text_live.specs.Sayings.{leg_in, line_saying, said_in, sayings}
use Rattle.command_parts.specs.Dialogue.{Dialogue}
use Rattle.walk_live.specs.LiveTexts.{FaultNote, LiveText, dialogue_of}
use Rattle.walk_live.specs.Notes.{live_fault_text, live_why}
use Rattle.walk_live.specs.declared.asked.Asked.{Asked}
use Rattle.walk_live.specs.declared.asked.Asked.TheVariants.{Nothing, Steps, Members}

-- ---- answers
-- what is told of decision step j: nothing, its line, or the lines whose codes are others than before
abbrev pub step_line : Asked → Leg → ℕ → List ℕ
step_line Nothing leg j = []
step_line Steps leg j = step_text j (cell_taken leg j) (table_in leg (16 * j + 9)) leg.config.lines
step_line Members leg j = members_text (members_in leg j)

-- and of a pass, by how many frames wait before and behind it: that number, where it is another one
abbrev pub queue_lines : Asked → ℕ → ℕ → List ℕ
queue_lines Nothing was now = []
queue_lines Steps was now = []
queue_lines Members was now = queue_texts (changed_number was now)

abbrev pub telling : Asked → Leg → Telling
telling asked leg = record { step = step_line asked leg; queue = queue_lines asked }

-- what is answered to all that was said, and to more that is said behind it
abbrev pub answered : Asked → Leg → List Saying → List ℕ
answered asked leg said = answers_text (telling asked leg) (answers leg said)

abbrev pub answered_since : Asked → Leg → List Saying → List Saying → List ℕ
answered_since asked leg said more =
    answers_text (telling asked leg) (answers_from leg (live_counts leg said) more)

-- to one saying more over a configuration: of the session of which that is all
abbrev pub answer_to : Asked → Config → List Saying → Saying → List ℕ
answer_to asked config said saying = answered_since asked (leg_said config (said ++ saying ∷ [])) said (saying ∷ [])

-- ---- replies
-- the note on the fault of line n, where it has one
abbrev pub note_at : ℕ → Option LineWrong → FaultNote
note_at n found = option_map (λ wrong. (live_why (fault_at n wrong), live_fault_text (fault_at n wrong))) found

abbrev pub live_text : LiveText
live_text = record {
  begun = λ ls. is_some (said_in ls).live;
  fault = λ ls line. note_at (length ls + 1) (line_fault (said_in ls) (words line));
  missing = λ ls. note_at (length ls + 1) (opening_fault (said_in ls).live (said_in ls).settings);
  answer = λ asked ls line. answered_since asked (leg_in (ls ++ line ∷ [])) (sayings ls) (line_saying line);
  -- the totals
  last = λ ls. last_text (leg_in ls) (sayings ls);
}

-- by what is asked for
abbrev pub live_dialogue : Asked → Dialogue
live_dialogue asked = dialogue_of live_text asked
