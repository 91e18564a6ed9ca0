-- The lines of a link's text, as a table. This language is this project's own.
use Rattle.std.specs.Prelude.{ℕ, ◌+◌, ◌-◌, ◌==◌, nat_lt, List, [], ◌∷◌, ◌++◌, length, replicate, Option, Some, None}
use Rattle.std.specs.Prelude.{option_map, codes, bytes_eq, if◌then◌else◌}
use Rattle.std.specs.Option.{option_or}
use Rattle.text_lines.specs.WordsOfLine.{number_at}
use Rattle.text_lines.specs.Fields.{Field, within, where_true, fields_fault}
use Rattle.text_lines.specs.Language.{Language}
use Rattle.text_lines.specs.LanguageTable.{Table, Told, language_of, count_fault}
use Rattle.text_lines.specs.declared.text_faults.LineFault.{LineFault}
use Rattle.text_lines.specs.declared.text_faults.LineFault.TheVariants as wrong
use Rattle.member_au4.specs.declared.au4_pointer.au_frame.Action.{Action}
use Rattle.member_au4.specs.declared.au4_pointer.au_frame.Action.TheVariants.{Keep, Up, Down, New}
use Rattle.member_au4.specs.declared.au4_link.au4_keyword.Au4Keyword.{Au4Keyword}
use Rattle.member_au4.specs.declared.au4_link.au4_keyword.Au4Keyword.TheVariants as word
use Rattle.member_au4.specs.declared.au4_link.au4_text_fault.Early.{Early}
use Rattle.member_au4.specs.declared.au4_link.au4_draft.Au4Draft.{Au4Draft}

-- the words that may begin a line
abbrev pub keyword_of : List ℕ → Option Au4Keyword
keyword_of w =
    if bytes_eq w (codes "start") then Some word.Start
    else if bytes_eq w (codes "frames") then Some word.Frames
    else if bytes_eq w (codes "up") then Some word.Up
    else if bytes_eq w (codes "down") then Some word.Down
    else if bytes_eq w (codes "new") then Some word.New
    else None

-- the place of a line in a text: 0 and 1 are the lines that have to be there, 2 is that of actions
abbrev pub place : Au4Keyword → ℕ
place word.Start = 0
place word.Frames = 1
place word.Up = 2
place word.Down = 2
place word.New = 2

-- the line that has to stand at a place before that of actions
abbrev pub awaited : ℕ → Au4Keyword
awaited next = if next == 0 then word.Start else word.Frames

-- what the words after a keyword have to be: a frame is one of the link's, and no move stands in frame 0
abbrev pub fields : Au4Draft → Au4Keyword → List Field
fields d word.Start = within 0 782 ∷ []
fields d word.Frames = within 1 100000 ∷ []
fields d word.Up = within 1 (d.frames - 1) ∷ []
fields d word.Down = within 1 (d.frames - 1) ∷ []
fields d word.New = within 0 (d.frames - 1) ∷ within 0 782 ∷ []

-- ---- what the lines before it leave no room for
-- the least frame that a line may name, where these are the actions up to the last frame that one named: three frames
-- lie between two
abbrev pub least_next : List Action → ℕ
least_next [] = 0
least_next (a ∷ more) = length (a ∷ more) + 3

-- the last frame that was named
abbrev pub last_named : Au4Draft → Early
last_named d = record { frame = length d.actions - 1 }

abbrev pub too_early : Au4Draft → List (List ℕ) → Option Early
too_early d ws = where_true (nat_lt (number_at 0 ws) (least_next d.actions)) (last_named d)

abbrev pub early : Au4Draft → Au4Keyword → List (List ℕ) → Option Early
early d word.Start ws = None
early d word.Frames ws = None
early d word.Up ws = too_early d ws
early d word.Down ws = too_early d ws
early d word.New ws = too_early d ws

-- the fault of the words of a move
abbrev pub move_fault : Au4Draft → Au4Keyword → List (List ℕ) → Option (LineFault Au4Keyword Early)
move_fault d k ws =
    option_or (count_fault k 1 ws)
    (option_or (option_map wrong.Field (fields_fault (within 1 (d.frames - 1) ∷ []) 2 0 ws))
    (option_map wrong.Own (too_early d ws)))

-- ---- what a line without a fault adds
abbrev pub with_action : Au4Draft → ℕ → Action → Au4Draft
with_action d frame a =
    record d { actions = d.actions ++ replicate (frame - length d.actions) Keep ++ a ∷ [] }

abbrev pub after : Au4Draft → Au4Keyword → List (List ℕ) → Au4Draft
after d word.Start ws = record d { start = number_at 0 ws }
after d word.Frames ws = record d { frames = number_at 0 ws }
after d word.Up ws = with_action d (number_at 0 ws) Up
after d word.Down ws = with_action d (number_at 0 ws) Down
after d word.New ws = with_action d (number_at 0 ws) (New (number_at 1 ws))

-- before the first line
abbrev pub at_first : Au4Draft
at_first = record { start = 0; frames = 0; actions = [] }

-- ---- the table
abbrev pub link_table : Table Au4Draft Au4Keyword Early
link_table = record {
  first = at_first;
  keyword = keyword_of;
  place = place;
  must = 2;
  awaited = awaited;
  fields = fields;
  own = early;
  after = after;
}

abbrev pub link_lines : Language (Told Au4Draft Au4Keyword) (LineFault Au4Keyword Early)
link_lines = language_of link_table
