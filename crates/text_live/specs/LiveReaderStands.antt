-- Where a reader of a live text stands, and what it keeps of the lines of the group.
use Rattle.std.specs.Prelude.{◌⊎◌, Bool, is_none, false, true, drop, if◌then◌else◌, nat_lt}
use Rattle.text_lines.specs.WordsOfLine.{word_at, is_skipped}
use Rattle.std.specs.Option.{option_or}
use Rattle.text_lines.specs.Fields.{within, digits}
use Rattle.std.specs.Prelude.{◌≡◌, ℕ, ◌+◌, ◌≤◌, List, [], length, map, All, Option, Some, None, IfSome, vec_capacity}
use Rattle.law_model.specs.Common.{IsNetwork, longest_input, most_lines, most_ticks, longest_offer, most_windows}
use Rattle.law_model.specs.declared.script_types.Config.{Config}
use Rattle.law_model.specs.declared.script_types.ItemKind.TheVariants as item_kind
use Rattle.text_scripts.specs.declared.script_read.script_fault.ScriptFault.TheVariants as script
use Rattle.text_scripts.specs.declared.script_read.script_reader.ScriptReader.{ScriptReader}
use Rattle.text_scripts.specs.script_read.Statements.{last_end}
use Rattle.text_scripts.specs.script_read.ScriptInPieces.{IsReader, next_number, drafted}
use Rattle.text_live.specs.declared.live_keyword.EarlierPart.{EarlierPart}
use Rattle.text_live.specs.declared.live_keyword.FirstWord.TheVariants as first
use Rattle.text_live.specs.declared.live_keyword.LiveKeyword.{LiveKeyword}
use Rattle.text_live.specs.declared.live_fault.LiveLineFault.{LiveLineFault}
use Rattle.text_live.specs.declared.live_fault.LiveFault.{LiveFault}
use Rattle.text_live.specs.declared.live_fault.LiveFault.TheVariants as fault
use Rattle.text_live.specs.declared.live_line.LiveLine.{LiveLine}
use Rattle.text_live.specs.declared.live_line.LiveLine.TheVariants as line
use Rattle.text_live.specs.declared.read_live_line.LineState.{LineState}
use Rattle.text_live.specs.declared.read_live_line.LiveState.{LiveState}
use Rattle.text_live.specs.declared.live_reader.LiveReader.{LiveReader}
use Rattle.law_live.specs.LiveSayings.{LineCourse, Live, cuts, lands, live_after, mends, passes}
use Rattle.text_live.specs.LiveLines.{happens, Said, LineWrong, of_script, of_limits, of_live, Told, nothing, setting}
use Rattle.text_live.specs.LiveLines.{count_by, word_fault, ended_fault, value_fault}
use Rattle.text_live.specs.LiveLines.{live_said, told, now_live, line_fault, line_after, first_of}

-- ---- faults
-- the fault of line n
abbrev pub fault_at : ℕ → LineWrong → LiveFault
fault_at n (of_script wrong) = fault.Script (script.Line n wrong)
fault_at n (of_limits wrong) = fault.Script wrong
fault_at n (of_live wrong) = fault.Line n wrong

-- memory was short
abbrev pub no_memory : LiveFault
no_memory = fault.Script script.Memory

-- the line of a number has a fault, and is told
pub record IsToldAt (n : ℕ) (found : Option LineWrong) (told : LiveFault) : Type 0 where
  pub wrong : LineWrong
  pub fails : found ≡ Some wrong
  pub is : told ≡ fault_at n wrong

-- ---- what a line says, where the octets of a frame stand apart
abbrev pub told_line : List ℕ → LiveLine → Told
told_line octets line.Blank = nothing
told_line octets line.Setting = setting
told_line octets line.Frame = happens (lands (item_kind.Frame octets))
told_line octets (line.Add n) = happens (lands (item_kind.Add n))
told_line octets (line.Remove n) = happens (lands (item_kind.Remove n))
told_line octets (line.Cut n) = happens (cuts n)
told_line octets (line.Mend n) = happens (mends n)
told_line octets (line.Pass n) = happens (passes n)

-- ---- what is kept of live lines
-- of a line: how many failures it has whose end is known, where the last of them ends, and the first container of one whose
-- end isn't
abbrev pub state_of : LineCourse → LineState
state_of course =
    record { failures = length course.windows; end = last_end course.windows; cut = course.cut }

-- what is kept stands for what live lines say
pub record Keeps (state : LiveState) (c : Config) (live : Live) : Type 0 where
  pub ticks : state.ticks ≡ c.ticks
  pub passed : state.passed ≡ live.passed
  pub lines : state.lines.items ≡ map state_of live.courses
  pub count : length live.courses ≡ c.lines

-- a line has at most 256 failures
abbrev pub HasFew : LineState → Type 0
HasFew line = count_by line.failures line.cut ≤ most_windows

-- the fault of the word of a command, and of that of a frame, which have this place
abbrev pub command_fault : ℕ → ℕ → ℕ → List ℕ → Option LiveLineFault
command_fault ticks passed at w = option_or (word_fault (within 0 255) at w) (ended_fault ticks passed)

abbrev pub frame_fault : ℕ → ℕ → ℕ → List ℕ → Option LiveLineFault
frame_fault ticks passed at w = option_or (word_fault (digits 1 longest_offer) at w) (ended_fault ticks passed)

-- what is kept of a line once its failure has ended
abbrev pub mended_by : ℕ → LineState → Option ℕ → LineState
mended_by passed line None = record line { cut = None }
mended_by passed line (Some start) =
    if nat_lt start passed then record { failures = line.failures + 1; end = passed; cut = None }
    else record line { cut = None }

abbrev pub mended_state : ℕ → LineState → LineState
mended_state passed line = mended_by passed line line.cut

-- it was made by its calls
pub record IsKept (state : LiveState) : Type 0 where
  pub some : 1 ≤ length state.lines.items
  pub lines : length state.lines.items ≤ most_lines
  pub few : All HasFew state.lines.items
  pub ticks : state.ticks ≤ most_ticks
  pub passed : state.passed ≤ state.ticks

-- the word at a place is read, and what is kept stands for what is said with it
pub record Reads (now : LiveState) (octets : List ℕ) (c : Config) (live : Live) (k : LiveKeyword) (at : ℕ) (w : List ℕ)
    (said : LiveLine) : Type 0 where
  pub fine : value_fault c live k at w ≡ None
  pub told : told_line octets said ≡ happens (live_said k w)
  pub keeps : Keeps now c (live_after live (live_said k w))

-- nothing is kept yet
pub record IsRoom (state : LiveState) : Type 0 where
  pub passed : state.passed ≡ 0
  pub lines : state.lines.items ≡ []
  pub room : most_lines ≤ vec_capacity state.lines

-- ---- a reader
-- why it doesn't read on, where it doesn't
abbrev pub failure : LiveReader → Option LiveFault
failure reader = reader.fault

-- the number of the line that is read next
abbrev pub line_at : LiveReader → ℕ
line_at reader = reader.number

-- the configuration, where it waits to be handed out
abbrev pub waiting_config : LiveReader → Option Config
waiting_config reader = reader.config

-- the octets of the last frame
abbrev pub frame_of : LiveReader → List ℕ
frame_of reader = reader.octets.items

-- one more line may follow
abbrev pub HasLinesLeft : LiveReader → Type 0
HasLinesLeft reader = line_at reader ≤ longest_input

-- before the first live line, and from it on
pub record IsSetting (reader : ScriptReader) (number : ℕ) (state : LiveState) : Type 0 where
  pub made : IsReader reader
  pub at : next_number reader ≡ number
  pub room : IsRoom state

abbrev pub IsStage : Option ScriptReader → ℕ → LiveState → Option LiveFault → Type 0
IsStage (Some reader) number state stopped = IsSetting reader number state
IsStage None number state (Some stop) = Unit {0}
IsStage None number state None = IsKept state

-- the live lines have begun
abbrev pub has_begun : LiveReader → Bool
has_begun reader = is_none reader.settings

-- it was made by its calls
pub record IsLiveReader (reader : LiveReader) : Type 0 where
  pub stage : IsStage reader.settings reader.number reader.state reader.fault
  pub config : IfSome reader.config IsNetwork
  pub room : longest_offer ≤ vec_capacity reader.octets
  pub count : line_at reader ≤ longest_input + 1

-- the lines so far say this
abbrev pub Says : Option ScriptReader → LiveState → Said → Type 0
Says (Some reader) state s = (s.live ≡ None) × (drafted reader ≡ s.settings)
Says None state s = (live : Live) × (s.live ≡ Some live) × Keeps state s.settings.config live

-- it reads the line of this number next, after lines that say this
pub record IsAt (reader : LiveReader) (n : ℕ) (s : Said) : Type 0 where
  pub goes_on : failure reader ≡ None
  pub number : line_at reader ≡ n
  pub says : Says reader.settings reader.state s

-- ---- one more line
-- with the first live line, or the end of a text without one, the live lines begin
abbrev pub opened_said : Said → Said
opened_said s = record s { live = Some (now_live s) }

-- then the configuration waits to be handed out
abbrev pub HandsOut : LiveReader → Said → Type 0
HandsOut now s = s.live ≡ None → waiting_config now ≡ Some s.settings.config

-- a line was read that has no fault
pub record ReadsLine (now : LiveReader) (n : ℕ) (s : Said) (ws : List (List ℕ)) (said : LiveLine) : Type 0 where
  pub fine : line_fault s ws ≡ None
  pub told : told_line (frame_of now) said ≡ told ws
  pub at : IsAt now (n + 1) (line_after n s ws)
  pub opens : (live : Live) → (line_after n s ws).live ≡ Some live → HandsOut now s

-- a line was not read, for its fault or, before the first live line, for want of memory
abbrev pub Stops : ℕ → Said → List (List ℕ) → LiveFault → Type 0
Stops n s ws stop = ((stop ≡ no_memory) × (s.live ≡ None)) ⊎ IsToldAt n (line_fault s ws) stop

-- the words of a live line are its keyword and others
pub record IsLiveLine (ws : List (List ℕ)) (k : LiveKeyword) (rest : List (List ℕ)) : Type 0 where
  pub said : is_skipped ws ≡ false
  pub first : first_of (word_at 0 ws) ≡ first.Live k
  pub others : drop 1 ws ≡ rest

-- those of a line that says nothing; or they begin as a line of this part of a script does
abbrev pub IsEarlierLine : List (List ℕ) → Option EarlierPart → Type 0
IsEarlierLine ws None = is_skipped ws ≡ true
IsEarlierLine ws (Some p) = (is_skipped ws ≡ false) × (first_of (word_at 0 ws) ≡ first.Earlier p)
