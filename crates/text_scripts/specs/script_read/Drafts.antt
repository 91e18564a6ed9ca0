-- What a draft meets, and what a line may say that stands after those of a draft.
use Rattle.std.specs.Prelude.{◌≡◌, ◌⊎◌, ⊤, ℕ, ◌+◌, ◌-◌, ◌==◌, ◌<◌, ◌≤◌, not, nat_lt, Bool, true, false, List, [], ◌∷◌}
use Rattle.std.specs.Prelude.{length, replicate, Option, None, option_map, All}
use Rattle.std.specs.Option.{option_or}
use Rattle.law_model.specs.Common.{dues_of, frame_dues, command_dues, IsWithin, HasLosses, IsSize, IsItem, AreItems}
use Rattle.law_model.specs.Common.{IsEvent, IsOptions, IsStatuses, most_lines, most_ticks, most_count}
use Rattle.law_model.specs.declared.window_types.Window.{Window}
use Rattle.law_model.specs.declared.script_types.Config.{Config}
use Rattle.law_rates.specs.Rates.{IsRate, count_of}
use Rattle.law_rates.specs.declared.rate_frames.Rate.{Rate}
use Rattle.law_model.specs.declared.script_types.Item.{Item}
use Rattle.law_model.specs.declared.script_types.ItemKind.{ItemKind}
use Rattle.law_model.specs.declared.script_types.ItemKind.TheVariants as item
use Rattle.text_scripts.specs.declared.script_read.script_fault.LineFault.{LineFault}
use Rattle.text_scripts.specs.declared.script_read.script_fault.LineFault.TheVariants as wrong
use Rattle.text_scripts.specs.declared.script_read.script_fault.ScriptFault.{ScriptFault}
use Rattle.text_scripts.specs.declared.script_read.script_fault.ScriptFault.TheVariants as fault
use Rattle.text_scripts.specs.declared.script_read.script_fault.LineStop.{LineStop}
use Rattle.text_scripts.specs.declared.script_read.script_fault.LineStop.TheVariants as stop
use Rattle.text_scripts.specs.declared.script_read.script_keyword.Keyword.{Keyword}
use Rattle.text_scripts.specs.declared.script_read.script_keyword.Keyword.TheVariants as word
use Rattle.text_scripts.specs.declared.script_read.script_draft.Statement.{Statement}
use Rattle.text_scripts.specs.declared.script_read.script_draft.Statement.TheVariants as says
use Rattle.text_scripts.specs.declared.script_read.script_draft.Draft.{Draft}
use Rattle.text_lines.specs.declared.text_faults.Names.TheVariants as names
use Rattle.hex.specs.Hex.{decode_of}
use Rattle.text_lines.specs.WordsOfLine.{word_at, number_at, octets_of}
use Rattle.text_lines.specs.Fields.{where_true, within, number_fault, octets_fault, name_fault, fields_fault}
use Rattle.text_scripts.specs.script_read.Statements.{each_fault, windows_of, last_end, last_lost}
use Rattle.law_model.specs.Common.{largest_ring, longest_delay, longest_holdoff, longest_lag, longest_offer}
use Rattle.law_model.specs.Common.{longest_restore, longest_slip, most_items, most_packets, most_windows}

-- ---- faults
-- the fault of line n, which wasn't read
abbrev pub fault_at : ℕ → LineStop → ScriptFault
fault_at n (stop.Fault f) = fault.Line n f
fault_at n stop.Memory = fault.Memory

-- a keyword takes so many words
abbrev pub count_fault : Keyword → ℕ → List (List ℕ) → Option LineFault
count_fault k n ws = where_true (not (length ws == n)) (wrong.Count k n (length ws))

-- the fault of the words of a container, of a number of delays, of one number, of a sink, a timer and statuses, where
-- these stand already or don't, and of a command
abbrev pub container_fault : List (List ℕ) → Option LineFault
container_fault ws =
    option_or (count_fault word.Container 1 ws) (option_map wrong.Field (name_fault 2 names.Containers (word_at 0 ws)))

abbrev pub delays_fault : ℕ → List (List ℕ) → Option LineFault
delays_fault n ws =
    option_or (count_fault word.Delays n ws)
    (option_map wrong.Field (fields_fault (replicate n (within 0 longest_delay)) 2 0 ws))

abbrev pub one_fault : Keyword → ℕ → ℕ → List (List ℕ) → Option LineFault
one_fault k least most ws =
    option_or (count_fault k 1 ws) (option_map wrong.Field (number_fault 2 least most (word_at 0 ws)))

-- a keyword behind which a number stands alone that is 1 or more, and the most that it may be
abbrev pub says_number : Keyword → Bool
says_number word.Lines = true
says_number word.Ring = true
says_number word.Lag = true
says_number word.Ticks = true
says_number word.Client = true
says_number word.Operator = true
says_number word.Tick = true
says_number word.Back = true
says_number word.Take = true
says_number word.Round = true
says_number k = false

abbrev pub most_of : Keyword → ℕ
most_of word.Lines = most_lines
most_of word.Ring = largest_ring
most_of word.Lag = longest_lag
most_of word.Ticks = most_ticks
most_of k = most_count

-- and one behind which no list stands, of delays or of octets
abbrev pub is_plain : Keyword → Bool
is_plain word.Delays = false
is_plain word.Frame = false
is_plain k = true

abbrev pub timer_fault : Keyword → ℕ → Bool → List (List ℕ) → Option LineFault
timer_fault k most stands ws =
    option_or (count_fault k 1 ws)
    (option_or (option_map wrong.Field (number_fault 2 0 most (word_at 0 ws))) (where_true stands (wrong.Twice k)))

abbrev pub sink_fault : Bool → List (List ℕ) → Option LineFault
sink_fault stands ws =
    option_or (count_fault word.Sink 1 ws)
    (option_or (option_map wrong.Field (name_fault 2 names.Sinks (word_at 0 ws)))
    (where_true stands (wrong.Twice word.Sink)))

abbrev pub statuses_fault : Bool → List (List ℕ) → Option LineFault
statuses_fault stands ws =
    option_or (count_fault word.Statuses 1 ws)
    (option_or (option_map wrong.Field (name_fault 2 names.Statuses (word_at 0 ws)))
    (where_true stands (wrong.Twice word.Statuses)))

abbrev pub command_fault : Draft → Keyword → List (List ℕ) → Option LineFault
command_fault d k ws =
    option_or (count_fault k 2 ws)
    (option_or (option_map wrong.Field (fields_fault (within 0 (d.config.ticks - 1) ∷ within 0 255 ∷ []) 2 0 ws))
    (option_or (where_true (nat_lt most_items (length d.items + 1)) (wrong.TooMany (length d.items + 1)))
    (where_true (nat_lt (number_at 0 ws) d.command_due) (wrong.CommandBefore d.command_due))))

-- and of the traffic of a stream, but for what the lines before it leave no room for
abbrev pub rate_fault : Draft → List (List ℕ) → Option LineFault
rate_fault d ws = option_or (count_fault word.Stream 5 ws) (each_fault d word.Stream ws)

-- a keyword's place may stand next
abbrev pub IsPlaced : ℕ → ℕ → Type 0
IsPlaced next at = (at ≤ 5 → (next ≡ at) ⊎ ((next ≡ 0) × (at ≡ 1))) × (6 ≤ at → (6 ≤ next) × (next ≤ at))

-- ---- the lines of a draft
-- windows each of which isn't empty and begins at the end of the one before or later, from this container on
unfoldable pub AreInOrder : ℕ → List Window → Type 0
AreInOrder from [] = Unit {0}
AreInOrder from (window ∷ windows) = (from ≤ window.first) × (window.first < window.end) × AreInOrder window.end windows

-- the windows of a line, before their slips are tested
pub record AreFailures (ticks : ℕ) (windows : List Window) : Type 0 where
  pub few : length windows ≤ most_windows
  pub order : AreInOrder 0 windows
  pub ends : All (λ (window : Window). window.end ≤ ticks) windows
  pub slips : All (λ (window : Window). window.slip ≤ longest_slip) windows

-- the configuration, line by line: each fact stands once the next place is beyond that line
pub record HasConfig (next : ℕ) (config : Config) : Type 0 where
  pub few : config.lines ≤ most_lines
  pub lines : 2 ≤ next → (1 ≤ config.lines) × (length config.windows ≡ config.lines)
  pub delay_each : 3 ≤ next → length config.delays ≡ config.lines
  pub delays : All (λ delay. delay ≤ longest_delay) config.delays
  pub ring : 4 ≤ next → IsWithin 1 largest_ring config.ring
  pub lag : 5 ≤ next → IsWithin 1 longest_lag config.lag
  pub ticks : 6 ≤ next → IsWithin 1 most_ticks config.ticks
  pub size : IsSize config.size
  pub options : IsOptions config.options
  pub none : next ≤ 5 → All (λ windows. windows ≡ []) config.windows
  pub windows : All (AreFailures config.ticks) config.windows
  pub lost : HasLosses config.lost
  pub few_lost : length config.lost ≤ most_windows

pub record IsDraft (d : Draft) : Type 0 where
  pub config : HasConfig d.next d.config
  pub no_items : d.next ≤ 7 → d.items ≡ []
  pub items : AreItems d.config.ticks d.items
  pub few : length d.items ≤ most_items
  pub frame_due : All (λ due. due ≤ d.frame_due) (frame_dues (dues_of d.items))
  pub command_due : All (λ due. due ≤ d.command_due) (command_dues (dues_of d.items))
  pub no_events : d.next ≤ 8 → d.events ≡ []
  pub events : All (IsEvent d.config.lines) d.events

-- ---- what may come next
-- the due tick of the last item of its kind
abbrev pub last_due : Draft → ItemKind → ℕ
last_due d (item.Frame octets) = d.frame_due
last_due d (item.Add line) = d.command_due
last_due d (item.Remove line) = d.command_due

-- these words are when a frame is due and digits that say its octets
pub record IsFrameOf (due octets : List ℕ) (ws : List (List ℕ)) : Type 0 where
  pub digits : List ℕ
  pub words : ws ≡ due ∷ digits ∷ []
  pub sound : octets_fault 3 1 longest_offer (decode_of digits) ≡ None
  pub is : octets ≡ octets_of digits

-- a window that line m may have next
pub record IsNext (d : Draft) (m : ℕ) (window : Window) : Type 0 where
  pub line : m < d.config.lines
  pub some : window.first < window.end
  pub ends : window.end ≤ d.config.ticks
  pub slips : window.slip ≤ longest_slip
  pub order : last_end (windows_of d m) ≤ window.first
  pub room : length (windows_of d m) < most_windows

-- and a return window
pub record IsNextLost (d : Draft) (first end : ℕ) : Type 0 where
  pub some : first < end
  pub ends : end ≤ most_packets
  pub order : last_lost d.config.lost ≤ first
  pub room : length d.config.lost < most_windows

-- and the traffic of a stream
pub record IsNextStream (d : Draft) (rate : Rate) : Type 0 where
  pub sound : IsRate rate
  pub ends : rate.end ≤ d.config.ticks
  pub order : d.frame_due ≤ rate.first
  pub room : length d.items + count_of rate ≤ most_items

-- and an item
pub record IsNextItem (d : Draft) (it : Item) : Type 0 where
  pub fits : IsItem d.config.ticks it
  pub order : last_due d it.kind ≤ it.due
  pub room : length d.items < most_items

abbrev pub Fits : Draft → Statement → Type 0
Fits d says.Nothing = ⊤
Fits d (says.Container n) = (d.next ≡ 0) × IsSize n
Fits d (says.Lines n) = (d.next ≤ 1) × IsWithin 1 most_lines n
Fits d (says.Delays ns) = (d.next ≡ 2) × (length ns ≡ d.config.lines) × All (λ n. n ≤ longest_delay) ns
Fits d (says.Ring n) = (d.next ≡ 3) × IsWithin 1 largest_ring n
Fits d (says.Lag n) = (d.next ≡ 4) × IsWithin 1 longest_lag n
Fits d (says.Ticks n) = (d.next ≡ 5) × IsWithin 1 most_ticks n
Fits d (says.Sink infers) = (d.next ≡ 6) × (d.standing.sink ≡ 0)
Fits d (says.Holdoff n) = (d.next ≡ 6) × (n ≤ longest_holdoff) × (d.standing.holdoff ≡ 0)
Fits d (says.Restore n) = (d.next ≡ 6) × (n ≤ longest_restore) × (d.standing.restore ≡ 0)
Fits d (says.Statuses n) = (d.next ≡ 6) × IsStatuses n × (d.standing.statuses ≡ 0)
Fits d (says.Fail m window) = (6 ≤ d.next) × (d.next ≤ 7) × IsNext d m window
Fits d (says.Lost first end) = (6 ≤ d.next) × (d.next ≤ 7) × IsNextLost d first end
Fits d (says.Item it) = (6 ≤ d.next) × (d.next ≤ 8) × IsNextItem d it
Fits d (says.Stream rate) = (6 ≤ d.next) × (d.next ≤ 8) × IsNextStream d rate
Fits d (says.Event e) = (6 ≤ d.next) × IsEvent d.config.lines e
