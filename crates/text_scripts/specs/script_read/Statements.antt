-- The lines of a script: what each may say after those before it, which fault it has first, and what it adds to them.
use Rattle.std.specs.Prelude.{unwrap_or, ℕ, ◌+◌, ◌-◌, ◌==◌, ◌&&◌, ◌||◌, nat_le, nat_lt, max, not, Bool, true, false}
use Rattle.std.specs.Prelude.{List, [], ◌∷◌, ◌++◌, length, map, replicate, Option, Some, None, option_map, slice_index_or, slice_set}
use Rattle.std.specs.Prelude.{drop, codes, bytes_eq, if◌then◌else◌}
use Rattle.std.specs.Option.{option_or}
use Rattle.std.specs.List.{slice_split, list_all}
use Rattle.text_scripts.specs.declared.script_read.script_fault.LineFault.{LineFault}
use Rattle.text_scripts.specs.declared.script_read.script_fault.LineFault.TheVariants as wrong
use Rattle.text_scripts.specs.declared.script_read.script_fault.SizesFault.{SizesFault}
use Rattle.text_scripts.specs.declared.script_read.script_fault.SizesFault.TheVariants as sizes
use Rattle.text_lines.specs.declared.text_faults.FieldFault.TheVariants as field
use Rattle.text_lines.specs.declared.text_faults.Names.TheVariants as names
use Rattle.text_lines.specs.WordsOfLine.{word_at, is_skipped, is_digit, is_number, number_of, number_at, octets_of}
use Rattle.text_lines.specs.Fields.{Field, within, any, above, digits, one_of, where_true, number_fault, fields_fault}
use Rattle.law_rates.specs.Limits.{most_sizes, most_mbits}
use Rattle.law_rates.specs.Rates.{count_of, due_of}
use Rattle.law_rates.specs.declared.rate_frames.Rate.{Rate}
use Rattle.law_model.specs.Common.{vc3_size, vc4_size, default_options, most_count, most_items, most_lines, most_ticks}
use Rattle.law_model.specs.Common.{shortest_frame, longest_frame}
use Rattle.law_model.specs.session.Items.{stream_items}
use Rattle.law_model.specs.declared.window_types.Window.{Window}
use Rattle.law_model.specs.declared.script_types.Item.{Item}
use Rattle.law_model.specs.declared.script_types.ItemKind.{ItemKind}
use Rattle.law_model.specs.declared.script_types.ItemKind.TheVariants as item
use Rattle.law_model.specs.declared.script_types.EventLine.TheVariants as event
use Rattle.text_scripts.specs.declared.script_read.script_keyword.Keyword.{Keyword}
use Rattle.text_scripts.specs.declared.script_read.script_keyword.Keyword.TheVariants as word
use Rattle.text_scripts.specs.declared.script_read.script_keyword.Part.{Part}
use Rattle.text_scripts.specs.declared.script_read.script_keyword.Part.TheVariants as part
use Rattle.text_scripts.specs.declared.script_read.script_draft.Statement.{Statement}
use Rattle.text_scripts.specs.declared.script_read.script_draft.Statement.TheVariants as says
use Rattle.text_scripts.specs.declared.script_read.script_draft.Draft.{Draft}
use Rattle.text_scripts.specs.declared.script_read.script_draft.Standing.{Standing}
use Rattle.law_model.specs.Common.{largest_ring, longest_delay, longest_holdoff, longest_lag, longest_offer}
use Rattle.law_model.specs.Common.{longest_restore, longest_slip, most_packets, most_windows}

-- ---- the first word
-- the words that may begin an event line
abbrev pub event_keyword : List ℕ → Option Keyword
event_keyword w =
    if bytes_eq w (codes "client") then Some word.Client
    else if bytes_eq w (codes "operator") then Some word.Operator
    else if bytes_eq w (codes "tick") then Some word.Tick
    else if bytes_eq w (codes "carry") then Some word.Carry
    else if bytes_eq w (codes "back") then Some word.Back
    else if bytes_eq w (codes "take") then Some word.Take
    else if bytes_eq w (codes "round") then Some word.Round
    else if bytes_eq w (codes "drain") then Some word.Drain
    else None

-- those and the words of windows and items
abbrev pub item_keyword : List ℕ → Option Keyword
item_keyword w =
    if bytes_eq w (codes "fail") then Some word.Fail
    else if bytes_eq w (codes "lost") then Some word.Lost
    else if bytes_eq w (codes "frame") then Some word.Frame
    else if bytes_eq w (codes "stream") then Some word.Stream
    else if bytes_eq w (codes "add") then Some word.Add
    else if bytes_eq w (codes "remove") then Some word.Remove
    else event_keyword w

-- those and the words of options
abbrev pub option_keyword : List ℕ → Option Keyword
option_keyword w =
    if bytes_eq w (codes "sink") then Some word.Sink
    else if bytes_eq w (codes "holdoff") then Some word.Holdoff
    else if bytes_eq w (codes "restore") then Some word.Restore
    else if bytes_eq w (codes "statuses") then Some word.Statuses
    else item_keyword w

-- all words that may begin a line
abbrev pub keyword_of : List ℕ → Option Keyword
keyword_of w =
    if bytes_eq w (codes "container") then Some word.Container
    else if bytes_eq w (codes "lines") then Some word.Lines
    else if bytes_eq w (codes "delays") then Some word.Delays
    else if bytes_eq w (codes "ring") then Some word.Ring
    else if bytes_eq w (codes "lag") then Some word.Lag
    else if bytes_eq w (codes "ticks") then Some word.Ticks
    else option_keyword w

-- the place of a line in a script: 0 to 5 are the lines of the configuration, 6 is that of options, which are of the
-- configuration too, 7 of windows, 8 of items, 9 of event lines
abbrev pub place : Keyword → ℕ
place word.Container = 0
place word.Lines = 1
place word.Delays = 2
place word.Ring = 3
place word.Lag = 4
place word.Ticks = 5
place word.Sink = 6
place word.Holdoff = 6
place word.Restore = 6
place word.Statuses = 6
place word.Fail = 7
place word.Lost = 7
place word.Frame = 8
place word.Stream = 8
place word.Add = 8
place word.Remove = 8
place word.Client = 9
place word.Operator = 9
place word.Tick = 9
place word.Carry = 9
place word.Back = 9
place word.Take = 9
place word.Round = 9
place word.Drain = 9

-- the line of the configuration that has to stand at a place; that of the container need not
abbrev pub awaited : ℕ → Keyword
awaited next =
    if nat_le next 1 then word.Lines
    else if next == 2 then word.Delays
    else if next == 3 then word.Ring
    else if next == 4 then word.Lag
    else word.Ticks

-- the part of a place
abbrev pub part_of : ℕ → Part
part_of at =
    if nat_le at 6 then part.Configuration
    else if at == 7 then part.Windows
    else if at == 8 then part.Items
    else part.Events

-- the part that has begun where a place is the next one: behind the configuration that of windows, even where none
-- stands
abbrev pub begun_at : ℕ → Part
begun_at next = part_of (max next 7)

-- the number of the line that has this first word, of the configuration or of an option, or 0 where none stands
abbrev pub standing_at : Standing → Keyword → ℕ
standing_at s word.Container = s.container
standing_at s word.Lines = s.lines
standing_at s word.Delays = s.delays
standing_at s word.Ring = s.ring
standing_at s word.Lag = s.lag
standing_at s word.Ticks = s.ticks
standing_at s word.Sink = s.sink
standing_at s word.Holdoff = s.holdoff
standing_at s word.Restore = s.restore
standing_at s word.Statuses = s.statuses
standing_at s k = 0

-- the fault of a line of an earlier part than the one that has begun, where none such stands; and of any
abbrev pub unstood_fault : ℕ → Keyword → LineFault
unstood_fault next word.Container = wrong.ContainerFirst
unstood_fault next k = wrong.Part (part_of (place k)) (begun_at next)

abbrev pub behind_fault : Draft → Keyword → LineFault
behind_fault d k =
    if nat_lt 0 (standing_at d.standing k) then wrong.Stands k (standing_at d.standing k) else unstood_fault d.next k

-- before place 6 each line has its place, and that of the container may be passed over; from there on no line comes
-- back to an earlier part
abbrev pub place_fault : Draft → Keyword → Option LineFault
place_fault d k =
    option_or
    (where_true (nat_lt d.next 6 && not (place k == d.next || (d.next == 0 && place k == 1)))
    (wrong.Missing (awaited d.next)))
    (where_true (nat_lt (place k) d.next) (behind_fault d k))

-- ---- the other words
-- what the words after a keyword have to be, of a failure those before its slip, of a stream those between its sizes and
-- its number; how many return packets tell all statuses is a name, as a container and what a sink does are
abbrev pub fields : Draft → Keyword → List Field
fields d word.Container = one_of names.Containers ∷ []
fields d word.Lines = within 1 most_lines ∷ []
fields d word.Delays = replicate d.config.lines (within 0 longest_delay)
fields d word.Ring = within 1 largest_ring ∷ []
fields d word.Lag = within 1 longest_lag ∷ []
fields d word.Ticks = within 1 most_ticks ∷ []
fields d word.Sink = one_of names.Sinks ∷ []
fields d word.Holdoff = within 0 longest_holdoff ∷ []
fields d word.Restore = within 0 longest_restore ∷ []
fields d word.Statuses = one_of names.Statuses ∷ []
fields d word.Fail = within 0 (d.config.lines - 1) ∷ any ∷ above d.config.ticks ∷ []
fields d word.Lost = any ∷ above most_packets ∷ []
fields d word.Frame = within 0 (d.config.ticks - 1) ∷ digits 1 longest_offer ∷ []
fields d word.Stream = within 1 most_mbits ∷ any ∷ above d.config.ticks ∷ []
fields d word.Add = within 0 (d.config.ticks - 1) ∷ within 0 255 ∷ []
fields d word.Remove = within 0 (d.config.ticks - 1) ∷ within 0 255 ∷ []
fields d word.Client = within 1 most_count ∷ []
fields d word.Operator = within 1 most_count ∷ []
fields d word.Tick = within 1 most_count ∷ []
fields d word.Carry = within 0 (d.config.lines - 1) ∷ within 1 most_count ∷ []
fields d word.Back = within 1 most_count ∷ []
fields d word.Take = within 1 most_count ∷ []
fields d word.Round = within 1 most_count ∷ []
fields d word.Drain = []

-- how many words follow it
abbrev pub takes : Draft → Keyword → ℕ
takes d word.Fail = 4
takes d word.Stream = 5
takes d k = length (fields d k)

-- a slip that says how much longer a path gets, which is none: a minus, and one to ten digits
abbrev pub is_longer : List ℕ → Bool
is_longer [] = false
is_longer (c ∷ number) = c == 45 && is_number number

-- the slip is word 5
abbrev pub longer_fault : List ℕ → Option LineFault
longer_fault word =
    option_or (where_true (is_longer word) wrong.LongerPath)
    (option_map wrong.Field (number_fault 5 0 longest_slip word))

-- the sizes that a word says: its parts between commas
abbrev pub parts_of : List ℕ → List (List ℕ)
parts_of word = slice_split (λ c. c == 44) word

abbrev pub sizes_of : List ℕ → List ℕ
sizes_of word = map number_of (parts_of word)

abbrev pub is_size : ℕ → Bool
is_size octets = nat_le shortest_frame octets && nat_le octets longest_frame

-- the form of all parts comes first, then how many they are, then their ranges
abbrev pub sizes_fault : List ℕ → Option SizesFault
sizes_fault word =
    option_or (where_true (not (list_all is_number (parts_of word))) sizes.Digits)
    (option_or (where_true (nat_lt most_sizes (length (parts_of word))) sizes.Count)
    (where_true (not (list_all is_size (sizes_of word))) sizes.Range))

-- a number of one to twenty digits, below 2^64, is word 6
abbrev pub are_digits : ℕ → List ℕ → Bool
are_digits most word = nat_le 1 (length word) && (nat_le (length word) most && list_all is_digit word)

abbrev pub long_fault : List ℕ → Option LineFault
long_fault word =
    option_or (where_true (not (are_digits 20 word)) wrong.LongNumber)
    (where_true (nat_lt 18446744073709551615 (number_of word)) (wrong.Field (field.Range 6 0 18446744073709551615)))

-- the fault of the words behind the first one, of which the first is word 2 of its line
abbrev pub each_fault : Draft → Keyword → List (List ℕ) → Option LineFault
each_fault d word.Fail ws =
    option_or (option_map wrong.Field (fields_fault (fields d word.Fail) 2 0 ws)) (longer_fault (word_at 3 ws))
each_fault d word.Stream ws =
    option_or (option_map wrong.Sizes (sizes_fault (word_at 0 ws)))
    (option_or (option_map wrong.Field (fields_fault (fields d word.Stream) 3 0 (drop 1 ws)))
    (long_fault (word_at 4 ws)))
each_fault d k ws = option_map wrong.Field (fields_fault (fields d k) 2 0 ws)

-- the traffic of a stream
abbrev pub rate_in : List (List ℕ) → Rate
rate_in ws = record {
  sizes = sizes_of (word_at 0 ws);
  mbits = number_at 1 ws;
  first = number_at 2 ws;
  end = number_at 3 ws;
  number = number_at 4 ws;
}

-- the payload octets of a container, by its name
abbrev pub size_of : List ℕ → Option ℕ
size_of w = if bytes_eq w (codes "vc3") then Some vc3_size else if bytes_eq w (codes "vc4") then Some vc4_size else None

-- whether a sink goes on without some control packets, by the name of what it does
abbrev pub infers_of : List ℕ → Option Bool
infers_of w =
    if bytes_eq w (codes "stops") then Some false else if bytes_eq w (codes "infers") then Some true else None

-- how many return packets tell all statuses, by the name of that number
abbrev pub statuses_of : List ℕ → Option ℕ
statuses_of w = if bytes_eq w (codes "16") then Some 16 else if bytes_eq w (codes "32") then Some 32 else None

-- ---- what the lines before it leave no room for
-- the windows of a line so far, and the end of the last of them
abbrev pub windows_of : Draft → ℕ → List Window
windows_of d m = slice_index_or d.config.windows m []

abbrev pub last_end : List Window → ℕ
last_end windows = slice_index_or (map (λ (window : Window). window.end) windows) (length windows - 1) 0

abbrev pub last_lost : List (ℕ × ℕ) → ℕ
last_lost lost = slice_index_or (map (λ (window : ℕ × ℕ). window.1) lost) (length lost - 1) 0

-- how many items there are with those of a line
abbrev pub items_with : Draft → Keyword → List (List ℕ) → ℕ
items_with d word.Stream ws = length d.items + count_of (rate_in ws)
items_with d k ws = length d.items + 1

-- an option stands already; a line, or the return path, has 256 windows; the items are too many
abbrev pub is_full : Draft → Keyword → List (List ℕ) → Bool
is_full d word.Sink ws = nat_lt 0 d.standing.sink
is_full d word.Holdoff ws = nat_lt 0 d.standing.holdoff
is_full d word.Restore ws = nat_lt 0 d.standing.restore
is_full d word.Statuses ws = nat_lt 0 d.standing.statuses
is_full d word.Fail ws = nat_le most_windows (length (windows_of d (number_at 0 ws)))
is_full d word.Lost ws = nat_le most_windows (length d.config.lost)
is_full d word.Frame ws = nat_lt most_items (items_with d word.Frame ws)
is_full d word.Stream ws = nat_lt most_items (items_with d word.Stream ws)
is_full d word.Add ws = nat_lt most_items (items_with d word.Add ws)
is_full d word.Remove ws = nat_lt most_items (items_with d word.Remove ws)
is_full d k ws = false

-- a window begins before the end of the one before it of its line, or of the return path; an item is due before the
-- last one of its kind, frame or command
abbrev pub is_early : Draft → Keyword → List (List ℕ) → Bool
is_early d word.Fail ws = nat_lt (number_at 1 ws) (last_end (windows_of d (number_at 0 ws)))
is_early d word.Lost ws = nat_lt (number_at 0 ws) (last_lost d.config.lost)
is_early d word.Frame ws = nat_lt (number_at 0 ws) d.frame_due
is_early d word.Stream ws = nat_lt (number_at 2 ws) d.frame_due
is_early d word.Add ws = nat_lt (number_at 0 ws) d.command_due
is_early d word.Remove ws = nat_lt (number_at 0 ws) d.command_due
is_early d k ws = false

-- ---- the first fault of a line
-- that of an option that stands already, of a line, or a return path, which is full, and of items, by its keyword
abbrev pub full_fault : Draft → Keyword → List (List ℕ) → LineFault
full_fault d word.Sink ws = wrong.Twice word.Sink
full_fault d word.Holdoff ws = wrong.Twice word.Holdoff
full_fault d word.Restore ws = wrong.Twice word.Restore
full_fault d word.Statuses ws = wrong.Twice word.Statuses
full_fault d word.Fail ws = wrong.FullLine (number_at 0 ws)
full_fault d word.Lost ws = wrong.FullPath
full_fault d k ws = wrong.TooMany (items_with d k ws)

-- and of what is early
abbrev pub early_fault : Draft → Keyword → List (List ℕ) → LineFault
early_fault d word.Fail ws = wrong.FailureBefore (last_end (windows_of d (number_at 0 ws)))
early_fault d word.Lost ws = wrong.LossBefore (last_lost d.config.lost)
early_fault d word.Frame ws = wrong.FrameBefore d.frame_due
early_fault d word.Stream ws = wrong.FrameBefore d.frame_due
early_fault d k ws = wrong.CommandBefore d.command_due

-- of the words after a first word that may stand there
abbrev pub rest_fault : Draft → Keyword → List (List ℕ) → Option LineFault
rest_fault d k ws =
    option_or (where_true (not (length ws == takes d k)) (wrong.Count k (takes d k) (length ws)))
    (option_or (each_fault d k ws)
    (option_or (where_true (is_full d k ws) (full_fault d k ws))
    (where_true (is_early d k ws) (early_fault d k ws))))

abbrev pub known_fault : Draft → List (List ℕ) → Option Keyword → Option LineFault
known_fault d ws None = Some wrong.First
known_fault d ws (Some k) = option_or (place_fault d k) (rest_fault d k ws)

-- of the words of a line
abbrev pub words_fault : Draft → List (List ℕ) → Option LineFault
words_fault d ws = if is_skipped ws then None else known_fault d (drop 1 ws) (keyword_of (word_at 0 ws))

-- ---- what a line without a fault says
abbrev pub said : Keyword → List (List ℕ) → Statement
said word.Container ws = says.Container (unwrap_or (size_of (word_at 0 ws)) 0)
said word.Lines ws = says.Lines (number_at 0 ws)
said word.Delays ws = says.Delays (map number_of ws)
said word.Ring ws = says.Ring (number_at 0 ws)
said word.Lag ws = says.Lag (number_at 0 ws)
said word.Ticks ws = says.Ticks (number_at 0 ws)
said word.Sink ws = says.Sink (unwrap_or (infers_of (word_at 0 ws)) false)
said word.Holdoff ws = says.Holdoff (number_at 0 ws)
said word.Restore ws = says.Restore (number_at 0 ws)
said word.Statuses ws = says.Statuses (unwrap_or (statuses_of (word_at 0 ws)) 0)
said word.Fail ws =
    says.Fail (number_at 0 ws) (record { first = number_at 1 ws; end = number_at 2 ws; slip = number_at 3 ws })
said word.Lost ws = says.Lost (number_at 0 ws) (number_at 1 ws)
said word.Frame ws = says.Item (record { due = number_at 0 ws; kind = item.Frame (octets_of (word_at 1 ws)) })
said word.Stream ws = says.Stream (rate_in ws)
said word.Add ws = says.Item (record { due = number_at 0 ws; kind = item.Add (number_at 1 ws) })
said word.Remove ws = says.Item (record { due = number_at 0 ws; kind = item.Remove (number_at 1 ws) })
said word.Client ws = says.Event (event.Client (number_at 0 ws))
said word.Operator ws = says.Event (event.Operator (number_at 0 ws))
said word.Tick ws = says.Event (event.Tick (number_at 0 ws))
said word.Carry ws = says.Event (event.Carry (number_at 0 ws) (number_at 1 ws))
said word.Back ws = says.Event (event.Back (number_at 0 ws))
said word.Take ws = says.Event (event.Take (number_at 0 ws))
said word.Round ws = says.Event (event.Round (number_at 0 ws))
said word.Drain ws = says.Event (event.Drain)

abbrev pub known_said : List (List ℕ) → Option Keyword → Statement
known_said ws None = says.Nothing
known_said ws (Some k) = said k ws

abbrev pub words_said : List (List ℕ) → Statement
words_said ws = if is_skipped ws then says.Nothing else known_said (drop 1 ws) (keyword_of (word_at 0 ws))

-- ---- what it adds, by its number, to what the lines before it say
abbrev pub after_item : Draft → Item → ItemKind → Draft
after_item d it (item.Frame octets) = record d { next = 8; items = d.items ++ it ∷ []; frame_due = it.due }
after_item d it (item.Add line) = record d { next = 8; items = d.items ++ it ∷ []; command_due = it.due }
after_item d it (item.Remove line) = record d { next = 8; items = d.items ++ it ∷ []; command_due = it.due }

abbrev pub after_stream : Draft → Rate → Draft
after_stream d rate = record d {
  next = 8;
  items = d.items ++ stream_items rate;
  frame_due = due_of rate (count_of rate - 1);
}

abbrev pub after : ℕ → Draft → Statement → Draft
after n d says.Nothing = d
after n d (says.Container size) = record d {
  next = 1;
  config = record d.config { size = size };
  standing = record d.standing { container = n };
}
after n d (says.Lines count) = record d {
  next = 2;
  config = record d.config { lines = count; windows = replicate count [] };
  standing = record d.standing { lines = n };
}
after n d (says.Delays delays) = record d {
  next = 3;
  config = record d.config { delays = delays };
  standing = record d.standing { delays = n };
}
after n d (says.Ring ring) = record d {
  next = 4;
  config = record d.config { ring = ring };
  standing = record d.standing { ring = n };
}
after n d (says.Lag lag) = record d {
  next = 5;
  config = record d.config { lag = lag };
  standing = record d.standing { lag = n };
}
after n d (says.Ticks ticks) = record d {
  next = 6;
  config = record d.config { ticks = ticks };
  standing = record d.standing { ticks = n };
}
after n d (says.Sink infers) = record d {
  config = record d.config { options = record d.config.options { infers = infers } };
  standing = record d.standing { sink = n };
}
after n d (says.Holdoff packets) = record d {
  config = record d.config { options = record d.config.options { holdoff = packets } };
  standing = record d.standing { holdoff = n };
}
after n d (says.Restore packets) = record d {
  config = record d.config { options = record d.config.options { restore = packets } };
  standing = record d.standing { restore = n };
}
after n d (says.Statuses count) = record d {
  config = record d.config { options = record d.config.options { statuses = count } };
  standing = record d.standing { statuses = n };
}
after n d (says.Fail m window) = record d {
  next = 7;
  config = record d.config { windows = slice_set d.config.windows m (windows_of d m ++ window ∷ []) };
}
after n d (says.Lost first end) =
    record d { next = 7; config = record d.config { lost = d.config.lost ++ (first, end) ∷ [] } }
after n d (says.Item it) = after_item d it it.kind
after n d (says.Stream rate) = after_stream d rate
after n d (says.Event e) = record d { next = 9; events = d.events ++ e ∷ [] }

-- no line of the configuration and no option stands
abbrev pub none_stand : Standing
none_stand = record {
  container = 0;
  lines = 0;
  delays = 0;
  ring = 0;
  lag = 0;
  ticks = 0;
  sink = 0;
  holdoff = 0;
  restore = 0;
  statuses = 0;
}

-- before the first line. The container is a VC-4 where no line says another, and the options are those of a script
-- without option lines
abbrev pub at_first : Draft
at_first = record {
  next = 0;
  config = record {
    lines = 0;
    delays = [];
    windows = [];
    lost = [];
    ring = 0;
    lag = 0;
    ticks = 0;
    size = vc4_size;
    options = default_options;
  };
  items = [];
  events = [];
  frame_due = 0;
  command_due = 0;
  standing = none_stand;
}
