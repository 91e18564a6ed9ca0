-- Where a reader of a live text of both ways stands, and what it keeps of the lines of both groups.
use Rattle.std.specs.Prelude.{◌≡◌, ◌⊎◌, ℕ, ◌+◌, ◌≤◌, Bool, is_none, List, Option, Some, None, option_map, IfSome}
use Rattle.std.specs.Prelude.{IsSome, vec_capacity}
use Rattle.law_model.specs.Common.{longest_input, longest_offer}
use Rattle.law_model.specs.declared.script_types.Config.{Config}
use Rattle.law_model.specs.declared.script_types.Script.{Script}
use Rattle.law_model.specs.declared.script_types.ItemKind.TheVariants as item_kind
use Rattle.text_scripts.specs.declared.script_read.script_fault.ScriptFault.TheVariants.{Line as script_line, Memory}
use Rattle.text_scripts.specs.declared.script_read.script_reader.ScriptReader.{ScriptReader}
use Rattle.text_scripts.specs.script_read.Script.{script_in}
use Rattle.text_scripts.specs.script_read.ScriptInPieces.{IsReader, IsUntested, next_number, drafted}
use Rattle.law_pair.specs.declared.pair_events.Way.{Way}
use Rattle.law_live.specs.Common.{lands_on, cuts_on, mends_on, both_pass, IsPairNetwork}
use Rattle.text_live.specs.declared.live_keyword.LiveKeyword.{LiveKeyword}
use Rattle.text_live.specs.LiveLines.{Told, nothing as one_nothing, setting as one_setting, happens as one_happens}
use Rattle.text_live.specs.LiveReaderStands.{Keeps, IsKept, IsRoom}
use Rattle.text_pairs.specs.declared.script_pair.PairFault.TheVariants as pair_fault
use Rattle.pair_live.specs.declared.live_pair_fault.LivePairFault.{LivePairFault}
use Rattle.pair_live.specs.declared.live_pair_fault.LivePairFault.TheVariants as text_wrong
use Rattle.pair_live.specs.declared.live_pair_line.LivePairLine.{LivePairLine}
use Rattle.pair_live.specs.declared.live_pair_line.LivePairLine.TheVariants as line
use Rattle.pair_live.specs.declared.read_pair_line.BothStates.{BothStates}
use Rattle.pair_live.specs.declared.live_pair_reader.LivePairReader.{LivePairReader}
use Rattle.pair_live.specs.PairLines.{BothLive, PairSaid, PairWrong, of_script, of_limits, undivided, of_live}
use Rattle.pair_live.specs.PairLines.{PairTold, nothing, setting, happens, of_way, there_config, back_config, both_now}
use Rattle.pair_live.specs.PairLines.{both_after, pair_rest_fault, pair_live_told, pair_told, pair_line_fault}
use Rattle.pair_live.specs.PairLines.{pair_line_after}

-- ---- faults
-- the fault of line n
abbrev pub pair_fault_at : ℕ → PairWrong → LivePairFault
pair_fault_at n (of_script wrong) = text_wrong.Pair (pair_fault.Script (script_line n wrong))
pair_fault_at n (of_limits wrong) = text_wrong.Pair wrong
pair_fault_at n undivided = text_wrong.Pair (pair_fault.Undivided n)
pair_fault_at n (of_live wrong) = text_wrong.Line n wrong

-- memory was short
abbrev pub no_pair_memory : LivePairFault
no_pair_memory = text_wrong.Pair (pair_fault.Script Memory)

-- the line of a number has a fault, and is told
pub record IsPairToldAt (n : ℕ) (found : Option PairWrong) (told : LivePairFault) : Type 0 where
  pub wrong : PairWrong
  pub fails : found ≡ Some wrong
  pub is : told ≡ pair_fault_at n wrong

-- ---- what a line says, where the octets of a frame stand apart
abbrev pub told_pair_line : List ℕ → LivePairLine → PairTold
told_pair_line octets line.Blank = nothing
told_pair_line octets line.Setting = setting
told_pair_line octets (line.Frame way) = happens (lands_on way (item_kind.Frame octets))
told_pair_line octets (line.Add way n) = happens (lands_on way (item_kind.Add n))
told_pair_line octets (line.Remove way n) = happens (lands_on way (item_kind.Remove n))
told_pair_line octets (line.Cut way n) = happens (cuts_on way n)
told_pair_line octets (line.Mend way n) = happens (mends_on way n)
told_pair_line octets (line.Pass n) = happens (both_pass n)

-- what is said of one way
abbrev pub told_of_way : Way → Told → PairTold
told_of_way way one_nothing = nothing
told_of_way way one_setting = setting
told_of_way way (one_happens saying) = happens (of_way way saying)

-- ---- what is kept of live lines
-- of both ways it stands for what live lines say
pub record KeepsBoth (states : BothStates) (there back : Config) (both : BothLive) : Type 0 where
  pub keeps_there : Keeps states.there there both.there
  pub keeps_back : Keeps states.back back both.back

abbrev pub KeepsPair : BothStates → PairSaid → BothLive → Type 0
KeepsPair states s both = KeepsBoth states (there_config s) (back_config s) both

-- it was made by its calls: as many ticks are left in both
pub record AreKept (states : BothStates) : Type 0 where
  pub there_kept : IsKept states.there
  pub back_kept : IsKept states.back
  pub ticks : states.there.ticks ≡ states.back.ticks
  pub passed : states.there.passed ≡ states.back.passed

-- nothing is kept yet
pub record AreRooms (states : BothStates) : Type 0 where
  pub there_room : IsRoom states.there
  pub back_room : IsRoom states.back

-- a live line is read, and what is kept stands for what is said with it
pub record ReadsBoth (now : BothStates) (octets : List ℕ) (s : PairSaid) (k : LiveKeyword) (ws : List (List ℕ))
    (said : LivePairLine) : Type 0 where
  pub fine : pair_rest_fault s k ws ≡ None
  pub told : told_pair_line octets said ≡ happens (pair_live_told k ws)
  pub keeps : KeepsPair now s (both_after (both_now s) (pair_live_told k ws))

-- ---- a reader
-- why it doesn't read on, where it doesn't
abbrev pub pair_failure : LivePairReader → Option LivePairFault
pair_failure reader = reader.fault

-- the number of the line that is read next
abbrev pub pair_number : LivePairReader → ℕ
pair_number reader = reader.number

-- the configurations, where they wait to be handed out
abbrev pub waiting_configs : LivePairReader → Option (Config × Config)
waiting_configs reader = reader.configs

-- the octets of the last frame
abbrev pub pair_frame : LivePairReader → List ℕ
pair_frame reader = reader.octets.items

-- one more line may follow
abbrev pub HasPairLinesLeft : LivePairReader → Type 0
HasPairLinesLeft reader = pair_number reader ≤ longest_input

-- before the first live line
pub record ArePairSettings (first : Option Script) (reader : ScriptReader) (number : ℕ) (states : BothStates) :
    Type 0 where
  pub made : IsReader reader
  pub at : next_number reader ≡ number
  pub first_untested : IfSome first IsUntested
  pub rooms : AreRooms states

-- and from it on
abbrev pub IsPairStage : Option Script → Option ScriptReader → ℕ → BothStates → Option LivePairFault → Type 0
IsPairStage first (Some reader) number states stopped = ArePairSettings first reader number states
IsPairStage first None number states (Some stop) = Unit {0}
IsPairStage first None number states None = AreKept states

-- the live lines have begun
abbrev pub pair_begun : LivePairReader → Bool
pair_begun reader = is_none reader.settings

-- two configurations are those of a pair
abbrev pub ArePairConfigs : Config × Config → Type 0
ArePairConfigs both = IsPairNetwork both.0 both.1

-- it was made by its calls
pub record IsLivePairReader (reader : LivePairReader) : Type 0 where
  pub stage : IsPairStage reader.first reader.settings reader.number reader.states reader.fault
  pub configs : IfSome reader.configs ArePairConfigs
  pub room : longest_offer ≤ vec_capacity reader.octets
  pub count : pair_number reader ≤ longest_input + 1

-- the lines of scripts so far say this
pub record SaysSettings (first : Option Script) (reader : ScriptReader) (s : PairSaid) : Type 0 where
  pub live : s.live ≡ None
  pub now : drafted reader ≡ s.settings
  pub before : first ≡ option_map script_in s.first

-- and the live ones; then a line has divided the scripts
pub record SaysLive (states : BothStates) (s : PairSaid) : Type 0 where
  pub both : BothLive
  pub live : s.live ≡ Some both
  pub divided : IsSome s.first
  pub keeps : KeepsPair states s both

abbrev pub SaysPair : Option Script → Option ScriptReader → BothStates → PairSaid → Type 0
SaysPair first (Some reader) states s = SaysSettings first reader s
SaysPair first None states s = SaysLive states s

-- it reads the line of this number next, after lines that say this
pub record IsPairAt (reader : LivePairReader) (n : ℕ) (s : PairSaid) : Type 0 where
  pub goes_on : pair_failure reader ≡ None
  pub number : pair_number reader ≡ n
  pub says : SaysPair reader.first reader.settings reader.states s

-- ---- one more line
-- with the first live line, or the end of a text without one, the live lines begin
abbrev pub pair_opened : PairSaid → PairSaid
pair_opened s = record s { live = Some (both_now s) }

-- then the configurations wait to be handed out
abbrev pub HandsOutBoth : LivePairReader → PairSaid → Type 0
HandsOutBoth now s = s.live ≡ None → waiting_configs now ≡ Some (there_config s, back_config s)

-- a line was read that has no fault
pub record ReadsPairLine (now : LivePairReader) (n : ℕ) (s : PairSaid) (ws : List (List ℕ)) (said : LivePairLine) :
    Type 0 where
  pub fine : pair_line_fault s ws ≡ None
  pub told : told_pair_line (pair_frame now) said ≡ pair_told ws
  pub at : IsPairAt now (n + 1) (pair_line_after n s ws)
  pub opens : (both : BothLive) → (pair_line_after n s ws).live ≡ Some both → HandsOutBoth now s

-- a line was not read, for its fault or, before the first live line, for want of memory
abbrev pub StopsPair : ℕ → PairSaid → List (List ℕ) → LivePairFault → Type 0
StopsPair n s ws stop =
    ((stop ≡ no_pair_memory) × (s.live ≡ None)) ⊎ IsPairToldAt n (pair_line_fault s ws) stop
