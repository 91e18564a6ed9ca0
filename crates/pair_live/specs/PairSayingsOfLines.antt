-- What lines of a live text of both ways say that happens, one after another, and the two scripts that say the same
-- afterwards.
use Rattle.std.specs.Prelude.{◌≡◌, ℕ, List, [], ◌∷◌, flat_map, Option, Some, None}
use Rattle.text_lines.specs.WordsOfLine.{words}
use Rattle.law_model.specs.declared.script_types.Config.{Config}
use Rattle.law_pair.specs.declared.pair_events.Way.TheVariants.{There, Back}
use Rattle.law_live.specs.Common.{live_of, PairSaying, said_on, IsPairNetwork, IsPairSaid, script_on}
use Rattle.text_live.specs.Sayings.{behind, AreFineBehind}
use Rattle.text_pairs.specs.declared.script_pair.ScriptPair.{ScriptPair}
use Rattle.pair_live.specs.PairLines.{BothLive, PairSaid, PairTold, nothing, setting, happens, there_config}
use Rattle.pair_live.specs.PairLines.{back_config, pair_told, pair_line_after, pair_lines, nothing_said}

-- ---- what happens
-- a line says at most that one thing does
abbrev pub pair_saying_of : PairTold → List PairSaying
pair_saying_of nothing = []
pair_saying_of setting = []
pair_saying_of (happens saying) = saying ∷ []

abbrev pub line_pair_saying : List ℕ → List PairSaying
line_pair_saying line = pair_saying_of (pair_told (words line))

abbrev pub pair_sayings : List (List ℕ) → List PairSaying
pair_sayings ls = flat_map line_pair_saying ls

-- ---- all that is said
abbrev pub pair_with_line : ℕ → PairSaid → List ℕ → PairSaid
pair_with_line n s line = pair_line_after n s (words line)

abbrev pub pair_said_in : List (List ℕ) → PairSaid
pair_said_in ls = behind pair_lines 1 nothing_said ls

abbrev pub AreFine : PairSaid → List (List ℕ) → Type 0
AreFine s ls = AreFineBehind pair_lines 1 s ls

-- ---- the two scripts
abbrev pub scripts_by : PairSaid → List PairSaying → ScriptPair
scripts_by s said = record {
  there = script_on (there_config s) There said;
  back = script_on (back_config s) Back said;
}

abbrev pub scripts_of_live : List (List ℕ) → ScriptPair
scripts_of_live ls = scripts_by (pair_said_in ls) (pair_sayings ls)

-- ---- what they say beside what happens: before the first live line nothing does, and from it on the configurations
-- are those of a pair, over which what happens is well said of each way and leaves it as it stands
abbrev pub both_of : Config → Config → List PairSaying → BothLive
both_of there back said = record {
  there = live_of there (said_on There said);
  back = live_of back (said_on Back said);
}

-- over two configurations
pub record BothAgree (there back : Config) (said : List PairSaying) (both : BothLive) : Type 0 where
  pub network : IsPairNetwork there back
  pub well : IsPairSaid there back said
  pub stands : both ≡ both_of there back said

abbrev pub AgreesWith : PairSaid → List PairSaying → Option BothLive → Type 0
AgreesWith s said None = said ≡ []
AgreesWith s said (Some both) = BothAgree (there_config s) (back_config s) said both
