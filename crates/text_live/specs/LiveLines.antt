-- The lines of a live text: what each may say after those before it, which fault it has first, and what it adds to them.
-- The lines of a script up to its windows come first, and then live lines, each of which speaks of now. This language
-- is this project's own.
use Rattle.std.specs.Prelude.{ℕ, ◌+◌, ◌-◌, ◌==◌, nat_le, nat_lt, not, List, length, drop}
use Rattle.std.specs.Prelude.{Option, Some, None, option_map, is_some, is_none, codes, bytes_eq}
use Rattle.std.specs.Prelude.{if◌then◌else◌}
use Rattle.std.specs.Option.{option_or}
use Rattle.text_lines.specs.WordsOfLine.{word_at, is_skipped, number_of, octets_of}
use Rattle.text_lines.specs.Fields.{Field, within, digits, where_true, field_fault}
use Rattle.text_lines.specs.Language.{Language}
use Rattle.law_model.specs.declared.script_types.Config.{Config}
use Rattle.law_model.specs.declared.script_types.ItemKind.TheVariants as item_kind
use Rattle.text_scripts.specs.declared.script_read.script_draft.Draft.{Draft}
use Rattle.text_scripts.specs.declared.script_read.script_fault.LineFault.{LineFault}
use Rattle.text_scripts.specs.declared.script_read.script_fault.ScriptFault.{ScriptFault}
use Rattle.text_scripts.specs.script_read.Statements.{words_fault, words_said, after, at_first, last_end}
use Rattle.text_scripts.specs.script_read.Script.{missing_line, config_fault}
use Rattle.law_live.specs.LiveSayings.{Saying, lands, cuts, mends, passes, LineCourse, Live, opened, course_at, live_after}
use Rattle.text_live.specs.declared.live_keyword.EarlierPart.{EarlierPart}
use Rattle.text_live.specs.declared.live_keyword.EarlierPart.TheVariants as part
use Rattle.text_live.specs.declared.live_keyword.LiveKeyword.{LiveKeyword}
use Rattle.text_live.specs.declared.live_keyword.LiveKeyword.TheVariants as word
use Rattle.text_live.specs.declared.live_keyword.FirstWord.{FirstWord}
use Rattle.text_live.specs.declared.live_keyword.FirstWord.TheVariants as first
use Rattle.text_live.specs.declared.live_fault.LiveLineFault.{LiveLineFault}
use Rattle.text_live.specs.declared.live_fault.LiveLineFault.TheVariants as wrong
use Rattle.law_model.specs.Common.{longest_offer, most_windows}

-- ---- what lines say
-- what the lines of a script say, and the live ones, where one has come
pub record Said : Type 0 where
  pub settings : Draft
  pub live : Option Live

-- what is wrong with a line: a fault that scripts have; slips, spread or lag that don't fit, of which the first live line
-- is told; or a fault of live texts alone
pub data LineWrong : Type 0 where
  of_script : LineFault → LineWrong
  of_limits : ScriptFault → LineWrong
  of_live : LiveLineFault → LineWrong

-- ---- the first word
-- the part of a script whose lines have this first word, of options and windows
abbrev pub option_part : List ℕ → Option EarlierPart
option_part w =
    if bytes_eq w (codes "sink") then Some part.Configuration
    else if bytes_eq w (codes "holdoff") then Some part.Configuration
    else if bytes_eq w (codes "restore") then Some part.Configuration
    else if bytes_eq w (codes "statuses") then Some part.Configuration
    else if bytes_eq w (codes "fail") then Some part.Windows
    else if bytes_eq w (codes "lost") then Some part.Windows
    else None

-- and of those and the other lines of the configuration
abbrev pub earlier_part : List ℕ → Option EarlierPart
earlier_part w =
    if bytes_eq w (codes "container") then Some part.Configuration
    else if bytes_eq w (codes "lines") then Some part.Configuration
    else if bytes_eq w (codes "delays") then Some part.Configuration
    else if bytes_eq w (codes "ring") then Some part.Configuration
    else if bytes_eq w (codes "lag") then Some part.Configuration
    else if bytes_eq w (codes "ticks") then Some part.Configuration
    else option_part w

-- the words of live lines
abbrev pub live_keyword : List ℕ → Option LiveKeyword
live_keyword w =
    if bytes_eq w (codes "frame") then Some word.Frame
    else if bytes_eq w (codes "add") then Some word.Add
    else if bytes_eq w (codes "remove") then Some word.Remove
    else if bytes_eq w (codes "cut") then Some word.Cut
    else if bytes_eq w (codes "mend") then Some word.Mend
    else if bytes_eq w (codes "pass") then Some word.Pass
    else None

abbrev pub live_first : Option LiveKeyword → FirstWord
live_first (Some k) = first.Live k
live_first None = first.Other

abbrev pub first_by : Option EarlierPart → Option LiveKeyword → FirstWord
first_by (Some p) k = first.Earlier p
first_by None k = live_first k

abbrev pub first_of : List ℕ → FirstWord
first_of w = first_by (earlier_part w) (live_keyword w)

-- ---- before the first live line
abbrev pub live_or : Option Live → Config → Live
live_or (Some live) c = live
live_or None c = opened c

abbrev pub now_live : Said → Live
now_live s = live_or s.live s.settings.config

-- the configuration isn't whole where it has to be, or its slips, spread or lag don't fit
abbrev pub opening_fault : Option Live → Draft → Option LineWrong
opening_fault (Some live) d = None
opening_fault None d =
    option_or (option_map of_script (missing_line d)) (option_map of_limits (config_fault d.config))

-- ---- the other words of a live line
-- what its one word has to be, once so many ticks have passed
abbrev pub field : Config → ℕ → LiveKeyword → Field
field c passed word.Frame = digits 1 longest_offer
field c passed word.Add = within 0 255
field c passed word.Remove = within 0 255
field c passed word.Cut = within 0 (c.lines - 1)
field c passed word.Mend = within 0 (c.lines - 1)
field c passed word.Pass = within 1 (c.ticks - passed)

-- ---- what the lines before it leave no room for
-- all ticks have passed
abbrev pub ended_fault : ℕ → ℕ → Option LiveLineFault
ended_fault ticks passed = where_true (passed == ticks) wrong.LastTick

-- how many failures a line has: so many whose end is known, and one more where it is cut
abbrev pub count_by : ℕ → Option ℕ → ℕ
count_by failures cut = failures + (if is_some cut then 1 else 0)

-- of a failure of line m that begins now, where the last of so many failures ends at `end`; and of one that ends now
abbrev pub cut_fault_by : (ticks passed m failures end : ℕ) → Option ℕ → Option LiveLineFault
cut_fault_by ticks passed m failures end cut =
    option_or (where_true (nat_le most_windows (count_by failures cut)) (wrong.FullLine m))
    (option_or (ended_fault ticks passed)
    (option_or (where_true (is_some cut) (wrong.CutAlready m))
    (where_true (nat_lt passed end) (wrong.FailureBefore end))))

abbrev pub mend_fault_by : (ticks passed m : ℕ) → Option ℕ → Option LiveLineFault
mend_fault_by ticks passed m cut =
    option_or (ended_fault ticks passed) (where_true (is_none cut) (wrong.NotCut m))

abbrev pub cut_fault : ℕ → ℕ → ℕ → LineCourse → Option LiveLineFault
cut_fault ticks passed m course =
    cut_fault_by ticks passed m (length course.windows) (last_end course.windows) course.cut

abbrev pub mend_fault : ℕ → ℕ → ℕ → LineCourse → Option LiveLineFault
mend_fault ticks passed m course = mend_fault_by ticks passed m course.cut

abbrev pub own_fault : ℕ → Live → LiveKeyword → ℕ → Option LiveLineFault
own_fault ticks live word.Frame n = ended_fault ticks live.passed
own_fault ticks live word.Add n = ended_fault ticks live.passed
own_fault ticks live word.Remove n = ended_fault ticks live.passed
own_fault ticks live word.Cut n = cut_fault ticks live.passed n (course_at live n)
own_fault ticks live word.Mend n = mend_fault ticks live.passed n (course_at live n)
own_fault ticks live word.Pass n = None

-- ---- the first fault of a line
-- of a word, which has this place in its line and has to be of this kind
abbrev pub word_fault : Field → ℕ → List ℕ → Option LiveLineFault
word_fault f at w = option_map wrong.Field (field_fault f at 0 w)

-- of the word at this place that says what happens
abbrev pub value_fault : Config → Live → LiveKeyword → ℕ → List ℕ → Option LiveLineFault
value_fault c live k at w = option_or (word_fault (field c live.passed k) at w) (own_fault c.ticks live k (number_of w))

-- of the number of the words behind its first one
abbrev pub count_fault : LiveKeyword → List (List ℕ) → Option LiveLineFault
count_fault k ws = where_true (not (length ws == 1)) (wrong.Count k (length ws))

-- of those words
abbrev pub rest_fault : Config → Live → LiveKeyword → List (List ℕ) → Option LiveLineFault
rest_fault c live k ws = option_or (count_fault k ws) (value_fault c live k 2 (word_at 0 ws))

-- of a line that scripts have: none stands behind a live one
abbrev pub earlier_fault : Option Live → Draft → EarlierPart → List (List ℕ) → Option LineWrong
earlier_fault (Some live) d p ws = Some (of_live (wrong.Behind p))
earlier_fault None d p ws = option_map of_script (words_fault d ws)

abbrev pub fault_by : Said → List (List ℕ) → FirstWord → Option LineWrong
fault_by s ws (first.Earlier p) = earlier_fault s.live s.settings p ws
fault_by s ws (first.Live k) =
    option_or (opening_fault s.live s.settings)
    (option_map of_live (rest_fault s.settings.config (now_live s) k (drop 1 ws)))
fault_by s ws first.Other = Some (of_live wrong.First)

-- of the words of a line
abbrev pub line_fault : Said → List (List ℕ) → Option LineWrong
line_fault s ws = if is_skipped ws then None else fault_by s ws (first_of (word_at 0 ws))

-- ---- what a line says
-- nothing; something of the configuration; or what happens now
pub data Told : Type 0 where
  nothing : Told
  setting : Told
  happens : Saying → Told

-- by the word that says what happens
abbrev pub live_said : LiveKeyword → List ℕ → Saying
live_said word.Frame w = lands (item_kind.Frame (octets_of w))
live_said word.Add w = lands (item_kind.Add (number_of w))
live_said word.Remove w = lands (item_kind.Remove (number_of w))
live_said word.Cut w = cuts (number_of w)
live_said word.Mend w = mends (number_of w)
live_said word.Pass w = passes (number_of w)

abbrev pub live_told : LiveKeyword → List (List ℕ) → Saying
live_told k ws = live_said k (word_at 0 ws)

abbrev pub told_by : List (List ℕ) → FirstWord → Told
told_by ws (first.Earlier p) = setting
told_by ws (first.Live k) = happens (live_told k (drop 1 ws))
told_by ws first.Other = nothing

abbrev pub told : List (List ℕ) → Told
told ws = if is_skipped ws then nothing else told_by ws (first_of (word_at 0 ws))

-- ---- what it adds, by its number, to what the lines before it say
-- the live lines with this one
abbrev pub with_live : Said → Saying → Said
with_live s saying = record s { live = Some (live_after (now_live s) saying) }

abbrev pub said_with : ℕ → Said → List (List ℕ) → Told → Said
said_with n s ws nothing = s
said_with n s ws setting = record s { settings = after n s.settings (words_said ws) }
said_with n s ws (happens saying) = with_live s saying

abbrev pub line_after : ℕ → Said → List (List ℕ) → Said
line_after n s ws = said_with n s ws (told ws)

-- ---- the lines one after another
abbrev pub nothing_said : Said
nothing_said = record { settings = at_first; live = None }

abbrev pub live_lines : Language Said LineWrong
live_lines = record {
  first = nothing_said;
  fault = line_fault;
  after = line_after;
  missing = λ s. opening_fault s.live s.settings;
}
