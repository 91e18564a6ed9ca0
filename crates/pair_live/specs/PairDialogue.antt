-- What is replied to the lines of a live text of both ways, each behind those before it: the answers to what it says,
-- of the two scripts of which the lines so far say all; or what is wrong with it.
use Rattle.std.specs.Prelude.{ℕ, ◌+◌, List, [], ◌∷◌, ◌++◌, length, Option, is_some, option_map}
use Rattle.text_lines.specs.WordsOfLine.{words}
use Rattle.law_live.specs.Common.{last_pair_text}
use Rattle.command_parts.specs.Dialogue.{Dialogue}
use Rattle.walk_live.specs.declared.asked.Asked.{Asked}
use Rattle.walk_live.specs.LiveTexts.{FaultNote, LiveText, dialogue_of}
use Rattle.pair_live.specs.PairLines.{PairWrong, pair_line_fault, pair_opening_fault}
use Rattle.pair_live.specs.PairNotes.{live_pair_fault_text, live_pair_why}
use Rattle.pair_live.specs.PairReaderStands.{pair_fault_at}
use Rattle.pair_live.specs.PairReplies.{pair_answered, pair_answered_since}
use Rattle.pair_live.specs.PairSayingsOfLines.{line_pair_saying, pair_said_in, pair_sayings, scripts_of_live}

-- ---- answers
-- to all that lines say; and to what one says behind others, of the scripts with it
abbrev pub lines_answered : Asked → List (List ℕ) → List ℕ
lines_answered asked ls =
    pair_answered asked (scripts_of_live ls).there (scripts_of_live ls).back (pair_sayings ls)

abbrev pub line_answered : Asked → List (List ℕ) → List ℕ → List ℕ
line_answered asked ls line =
    let pair = scripts_of_live (ls ++ line ∷ []) in
    pair_answered_since asked pair.there pair.back (pair_sayings ls) (line_pair_saying line)

-- both lines of totals
abbrev pub lines_last : List (List ℕ) → List ℕ
lines_last ls = last_pair_text (scripts_of_live ls).there (scripts_of_live ls).back (pair_sayings ls)

-- ---- replies
-- the note on the fault of line n, where it has one
abbrev pub note_at : ℕ → Option PairWrong → FaultNote
note_at n found =
    option_map (λ wrong. (live_pair_why (pair_fault_at n wrong), live_pair_fault_text (pair_fault_at n wrong))) found

abbrev pub pair_text : LiveText
pair_text = record {
  begun = λ ls. is_some (pair_said_in ls).live;
  fault = λ ls line. note_at (length ls + 1) (pair_line_fault (pair_said_in ls) (words line));
  missing = λ ls. note_at (length ls + 1) (pair_opening_fault (pair_said_in ls));
  answer = line_answered;
  last = lines_last;
}

-- by what is asked for
abbrev pub pair_dialogue : Asked → Dialogue
pair_dialogue asked = dialogue_of pair_text asked
