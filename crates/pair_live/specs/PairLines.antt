-- The lines of a live text of both ways: what each may say after those before it, which fault it has first, and what
-- it adds to them. The lines of two scripts up to their windows come first, which a line divides, and then live lines:
-- what happens in a way, which such a line names, or ticks that pass in both. This language is this project's own.
use Rattle.std.specs.Prelude.{ℕ, ◌==◌, ◌&&◌, not, Bool, true, false, List, length, drop, Option, Some, None}
use Rattle.std.specs.Prelude.{option_map, is_none, unwrap_or, codes, bytes_eq, if◌then◌else◌}
use Rattle.std.specs.Option.{option_or}
use Rattle.text_lines.specs.WordsOfLine.{word_at, is_skipped, number_at}
use Rattle.text_lines.specs.Fields.{where_true}
use Rattle.text_lines.specs.Language.{Language}
use Rattle.law_model.specs.declared.script_types.Config.{Config}
use Rattle.text_scripts.specs.declared.script_read.script_draft.Draft.{Draft}
use Rattle.text_scripts.specs.declared.script_read.script_fault.LineFault.{LineFault}
use Rattle.text_scripts.specs.script_read.Statements.{words_fault, words_said, after, at_first}
use Rattle.text_scripts.specs.script_read.Script.{missing_line, script_in}
use Rattle.law_pair.specs.declared.pair_events.Way.{Way}
use Rattle.law_pair.specs.declared.pair_events.Way.TheVariants.{There, Back}
use Rattle.law_live.specs.Common.{Saying, lands, cuts, mends, passes, Live, opened, live_from}
use Rattle.law_live.specs.Common.{PairSaying, lands_on, cuts_on, mends_on, both_pass, saying_on, config_on}
use Rattle.text_live.specs.declared.live_keyword.EarlierPart.{EarlierPart}
use Rattle.text_live.specs.declared.live_keyword.LiveKeyword.{LiveKeyword}
use Rattle.text_live.specs.declared.live_keyword.LiveKeyword.TheVariants as word
use Rattle.text_live.specs.declared.live_keyword.FirstWord.{FirstWord}
use Rattle.text_live.specs.declared.live_keyword.FirstWord.TheVariants as first
use Rattle.text_live.specs.declared.live_fault.LiveLineFault.TheVariants as live_wrong
use Rattle.text_live.specs.LiveLines.{first_of, rest_fault, value_fault, live_said}
use Rattle.text_pairs.specs.declared.script_pair.ScriptPair.{ScriptPair}
use Rattle.text_pairs.specs.declared.script_pair.PairFault.{PairFault}
use Rattle.text_pairs.specs.PairTextLines.{is_division}
use Rattle.text_pairs.specs.PairOfText.{limits_fault}
use Rattle.pair_live.specs.declared.live_pair_fault.PairLineFault.{PairLineFault}
use Rattle.pair_live.specs.declared.live_pair_fault.PairLineFault.TheVariants as line_wrong

-- ---- what lines say
-- how it stands with both ways
pub record BothLive : Type 0 where
  pub there : Live
  pub back : Live

-- what the lines of the first script say, where the line behind them has come; those of the script that goes on; and
-- the live ones, where one has come
pub record PairSaid : Type 0 where
  pub first : Option Draft
  pub settings : Draft
  pub live : Option BothLive

-- what is wrong with a line: a fault that scripts have; two scripts that don't fit together, of which the first live
-- line is told; no line that divides them; or a fault of live texts alone
pub data PairWrong : Type 0 where
  of_script : LineFault → PairWrong
  of_limits : PairFault → PairWrong
  undivided : PairWrong
  of_live : PairLineFault → PairWrong

-- ---- the configurations
-- where no line divides there is a fault before
abbrev pub there_draft : PairSaid → Draft
there_draft s = unwrap_or s.first at_first

abbrev pub there_config : PairSaid → Config
there_config s = (there_draft s).config

abbrev pub back_config : PairSaid → Config
back_config s = s.settings.config

abbrev pub config_in : PairSaid → Way → Config
config_in s way = config_on (there_config s) (back_config s) way

-- ---- the line that divides
-- its one word is `other`, and it is the first such line
abbrev pub pair_divides : PairSaid → List (List ℕ) → Bool
pair_divides s ws = is_none s.first && is_division ws

abbrev pub pair_divided : PairSaid → PairSaid
pair_divided s = record s { first = Some s.settings; settings = at_first }

-- ---- before the first live line
-- the scripts without items
abbrev pub settings_pair : PairSaid → ScriptPair
settings_pair s = record { there = script_in (there_draft s); back = script_in s.settings }

-- the configuration that goes on isn't whole where it has to be, no line divides, or the two scripts don't fit together
abbrev pub opening_by : Option BothLive → PairSaid → Option PairWrong
opening_by (Some both) s = None
opening_by None s =
    option_or (option_map of_script (missing_line s.settings))
    (option_or (where_true (is_none s.first) undivided) (option_map of_limits (limits_fault (settings_pair s))))

abbrev pub pair_opening_fault : PairSaid → Option PairWrong
pair_opening_fault s = opening_by s.live s

-- ---- how it stands
abbrev pub both_opened : PairSaid → BothLive
both_opened s = record { there = opened (there_config s); back = opened (back_config s) }

abbrev pub both_or : Option BothLive → PairSaid → BothLive
both_or (Some both) s = both
both_or None s = both_opened s

abbrev pub both_now : PairSaid → BothLive
both_now s = both_or s.live s

abbrev pub live_on : BothLive → Way → Live
live_on both There = both.there
live_on both Back = both.back

abbrev pub both_after : BothLive → PairSaying → BothLive
both_after both saying = record {
  there = live_from both.there (saying_on There saying);
  back = live_from both.back (saying_on Back saying);
}

-- ---- the first fault of a line
-- the way that a word names
abbrev pub way_named : List ℕ → Option Way
way_named w =
    if bytes_eq w (codes "there") then Some There
    else if bytes_eq w (codes "back") then Some Back
    else None

-- of a line of one way: word 3, by the configuration of this way and what was said of it
abbrev pub way_fault : PairSaid → LiveKeyword → List ℕ → Option Way → Option PairLineFault
way_fault s k w None = Some line_wrong.Way
way_fault s k w (Some way) =
    option_map line_wrong.Live (value_fault (config_in s way) (live_on (both_now s) way) k 3 w)

-- of the words behind its first one
abbrev pub way_line_fault : PairSaid → LiveKeyword → List (List ℕ) → Option PairLineFault
way_line_fault s k ws =
    option_or (where_true (not (length ws == 2)) (line_wrong.Count k (length ws)))
    (way_fault s k (word_at 1 ws) (way_named (word_at 0 ws)))

-- of a line by which ticks pass in both: as many are left in each
abbrev pub pass_fault : PairSaid → List (List ℕ) → Option PairLineFault
pass_fault s ws = option_map line_wrong.Live (rest_fault (there_config s) (both_now s).there word.Pass ws)

abbrev pub is_pass : LiveKeyword → Bool
is_pass word.Frame = false
is_pass word.Add = false
is_pass word.Remove = false
is_pass word.Cut = false
is_pass word.Mend = false
is_pass word.Pass = true

abbrev pub pair_rest_fault : PairSaid → LiveKeyword → List (List ℕ) → Option PairLineFault
pair_rest_fault s k ws = if is_pass k then pass_fault s ws else way_line_fault s k ws

-- of a line that scripts have: none stands behind a live one
abbrev pub pair_earlier_fault : Option BothLive → Draft → EarlierPart → List (List ℕ) → Option PairWrong
pair_earlier_fault (Some both) d p ws = Some (of_live (line_wrong.Live (live_wrong.Behind p)))
pair_earlier_fault None d p ws = option_map of_script (words_fault d ws)

abbrev pub pair_fault_by : PairSaid → List (List ℕ) → FirstWord → Option PairWrong
pair_fault_by s ws (first.Earlier p) = pair_earlier_fault s.live s.settings p ws
pair_fault_by s ws (first.Live k) =
    option_or (pair_opening_fault s) (option_map of_live (pair_rest_fault s k (drop 1 ws)))
pair_fault_by s ws first.Other = Some (of_live (line_wrong.Live live_wrong.First))

-- of the words of a line that doesn't divide, and of any; where it divides, the script before it has to be whole
abbrev pub undividing_fault : PairSaid → List (List ℕ) → Option PairWrong
undividing_fault s ws = if is_skipped ws then None else pair_fault_by s ws (first_of (word_at 0 ws))

abbrev pub pair_line_fault : PairSaid → List (List ℕ) → Option PairWrong
pair_line_fault s ws =
    if pair_divides s ws then option_map of_script (missing_line s.settings) else undividing_fault s ws

-- ---- what a line says
-- nothing; something of the scripts, as that the second begins; or what happens now
pub data PairTold : Type 0 where
  nothing : PairTold
  setting : PairTold
  happens : PairSaying → PairTold

-- what happens in a way; ticks pass in both
abbrev pub of_way : Way → Saying → PairSaying
of_way way (lands kind) = lands_on way kind
of_way way (cuts m) = cuts_on way m
of_way way (mends m) = mends_on way m
of_way way (passes k) = both_pass k

-- a word that names no way is a fault
abbrev pub way_said : List ℕ → Way
way_said w = unwrap_or (way_named w) There

abbrev pub pair_live_told : LiveKeyword → List (List ℕ) → PairSaying
pair_live_told k ws =
    if is_pass k then both_pass (number_at 0 ws) else of_way (way_said (word_at 0 ws)) (live_said k (word_at 1 ws))

-- a line that begins with another word divides the scripts, or is faulty
abbrev pub pair_told_by : List (List ℕ) → FirstWord → PairTold
pair_told_by ws (first.Earlier p) = setting
pair_told_by ws (first.Live k) = happens (pair_live_told k (drop 1 ws))
pair_told_by ws first.Other = setting

abbrev pub pair_told : List (List ℕ) → PairTold
pair_told ws = if is_skipped ws then nothing else pair_told_by ws (first_of (word_at 0 ws))

-- ---- what it adds, by its number, to what the lines before it say
-- the live lines with this one
abbrev pub pair_with : PairSaid → PairSaying → PairSaid
pair_with s saying = record s { live = Some (both_after (both_now s) saying) }

abbrev pub pair_said_with : ℕ → PairSaid → List (List ℕ) → PairTold → PairSaid
pair_said_with n s ws nothing = s
pair_said_with n s ws setting = record s { settings = after n s.settings (words_said ws) }
pair_said_with n s ws (happens saying) = pair_with s saying

abbrev pub pair_line_after : ℕ → PairSaid → List (List ℕ) → PairSaid
pair_line_after n s ws =
    if pair_divides s ws then pair_divided s else pair_said_with n s ws (pair_told ws)

-- ---- the lines one after another
abbrev pub nothing_said : PairSaid
nothing_said = record { first = None; settings = at_first; live = None }

abbrev pub pair_lines : Language PairSaid PairWrong
pair_lines = record {
  first = nothing_said;
  fault = pair_line_fault;
  after = pair_line_after;
  missing = pair_opening_fault;
}
