-- What is said of how to write what a script has wrong.
use Rattle.std.specs.Prelude.{ℕ, ◌+◌, ◌-◌, List, ◌++◌, codes, decimal}
use Rattle.text_help.specs.LineHelpTexts.{field_text, count_text, missing_text, order_text}
use Rattle.text_scripts.specs.declared.script_read.script_keyword.Keyword.{Keyword}
use Rattle.text_scripts.specs.declared.script_read.script_keyword.Keyword.TheVariants as word
use Rattle.text_scripts.specs.declared.script_read.script_keyword.Part.{Part}
use Rattle.text_scripts.specs.declared.script_read.script_keyword.Part.TheVariants as part
use Rattle.text_scripts.specs.declared.script_read.script_fault.SizesFault.{SizesFault}
use Rattle.text_scripts.specs.declared.script_read.script_fault.SizesFault.TheVariants as sizes
use Rattle.text_scripts.specs.declared.script_read.script_fault.LineFault.{LineFault}
use Rattle.text_scripts.specs.declared.script_read.script_fault.LineFault.TheVariants as wrong

-- ---- names
abbrev pub keyword_text : Keyword → List ℕ
keyword_text word.Container = codes "container"
keyword_text word.Lines = codes "lines"
keyword_text word.Delays = codes "delays"
keyword_text word.Ring = codes "ring"
keyword_text word.Lag = codes "lag"
keyword_text word.Ticks = codes "ticks"
keyword_text word.Sink = codes "sink"
keyword_text word.Holdoff = codes "holdoff"
keyword_text word.Restore = codes "restore"
keyword_text word.Statuses = codes "statuses"
keyword_text word.Fail = codes "fail"
keyword_text word.Lost = codes "lost"
keyword_text word.Frame = codes "frame"
keyword_text word.Stream = codes "stream"
keyword_text word.Add = codes "add"
keyword_text word.Remove = codes "remove"
keyword_text word.Client = codes "client"
keyword_text word.Operator = codes "operator"
keyword_text word.Tick = codes "tick"
keyword_text word.Carry = codes "carry"
keyword_text word.Back = codes "back"
keyword_text word.Take = codes "take"
keyword_text word.Round = codes "round"
keyword_text word.Drain = codes "drain"

-- the lines of a part
abbrev pub part_text : Part → List ℕ
part_text part.Configuration = codes "configuration"
part_text part.Windows = codes "fail and lost"
part_text part.Items = codes "frame, stream, add and remove"
part_text part.Events = codes "event lines"

-- ---- lines
-- the words that a line may begin with
abbrev pub first_words : List ℕ
first_words =
    codes "a line begins with one of container, lines, delays, ring, lag, ticks, sink, holdoff, restore, statuses, fail, lost, frame, stream, add, remove, client, operator, tick, carry, back, take, round, drain"

-- how the sizes of frames have to be
abbrev pub sizes_text : SizesFault → List ℕ
sizes_text sizes.Digits = codes "word 2 is numbers of one to ten digits with commas between"
sizes_text sizes.Count = codes "word 2 has 1 to 16 numbers"
sizes_text sizes.Range = codes "each number of word 2 is from 64 to 9600"

abbrev pub line_help_text : LineFault → List ℕ
line_help_text wrong.First = first_words
line_help_text (wrong.Count keyword takes follow) = count_text (keyword_text keyword) takes follow
line_help_text (wrong.Field fault) = field_text fault
line_help_text (wrong.Sizes fault) = sizes_text fault
line_help_text wrong.LongNumber = codes "word 6 is a number of one to twenty digits"
line_help_text wrong.LongerPath =
    codes "word 5 is a number of one to ten digits; a path that gets longer is no slip: SLIP is 0, and delays has the longer delay"
line_help_text (wrong.Missing keyword) = missing_text (keyword_text keyword)
line_help_text (wrong.Part this begun) = order_text (part_text this) (part_text begun)
line_help_text (wrong.Stands keyword line) =
    codes "the line " ++ keyword_text keyword ++ codes " stands already in line " ++ decimal line
line_help_text wrong.ContainerFirst = codes "the line container stands before the line lines"
line_help_text (wrong.Twice option) = codes "there is a " ++ keyword_text option ++ codes " line already"
line_help_text (wrong.FullLine line) = codes "line " ++ decimal line ++ codes " has 256 failures already"
line_help_text wrong.FullPath = codes "there are 256 lost lines already"
line_help_text (wrong.TooMany items) =
    codes "a script has at most 268435456 items, and this line brings it to " ++ decimal items
line_help_text (wrong.FailureBefore end) = codes "the failure before ends at " ++ decimal end
line_help_text (wrong.LossBefore end) = codes "the loss before ends at " ++ decimal end
line_help_text (wrong.FrameBefore due) = codes "the frame before is due at " ++ decimal due
line_help_text (wrong.CommandBefore due) = codes "the command before is due at " ++ decimal due

-- ---- whole scripts
abbrev pub slip_help_text : ℕ → List ℕ
slip_help_text slip =
    codes "a slip of " ++ decimal slip ++ codes " needs a failure of at least " ++ decimal (slip + 1) ++ codes " frames"

abbrev pub spread_help_text : ℕ → ℕ → ℕ → List ℕ
spread_help_text slow fast slip =
    codes "delays from " ++ decimal fast ++ codes " to " ++ decimal slow ++ codes " and slips of " ++ decimal slip
    ++ codes " need a ring of at least " ++ decimal (slow - fast + slip + 1)

abbrev pub lag_help_text : ℕ → ℕ → ℕ → List ℕ
lag_help_text slow slip least =
    codes "a delay of " ++ decimal slow ++ codes " and slips of " ++ decimal slip ++ codes " need a lag of at least "
    ++ decimal least
