-- What is said while both ways of a pair run: an item, a cut or a mend of one way, or that some ticks pass, which they
-- do in both. What is said of one way is a conversation with it: so how it then stands, what may be said, its script,
-- and which scripts agree are those of one session. This way of telling a pair is this project's own.
use Rattle.std.specs.Prelude.{◌≡◌, ℕ, ◌≤◌, List, [], ◌∷◌, flat_map}
use Rattle.law_model.specs.Common.{IsNetwork, leg_of}
use Rattle.law_model.specs.declared.script_types.Config.{Config}
use Rattle.law_model.specs.declared.script_types.ItemKind.{ItemKind}
use Rattle.law_model.specs.declared.script_types.Script.{Script}
use Rattle.law_pair.specs.Pair.{IsPair}
use Rattle.law_pair.specs.declared.pair_events.Way.{Way}
use Rattle.law_pair.specs.declared.pair_events.Way.TheVariants.{There, Back}
use Rattle.law_live.specs.LiveSayings.{Saying, lands, cuts, mends, passes, live_of}
use Rattle.law_live.specs.WellSaid.{IsWellSaid}
use Rattle.law_live.specs.ScriptOfSayings.{config_by}
use Rattle.law_live.specs.Agrees.{Agrees}

-- an item of a way lands; a line of a way is cut, or mended; some ticks pass in both
pub data PairSaying : Type 0 where
  lands_on : Way → ItemKind → PairSaying
  cuts_on : Way → ℕ → PairSaying
  mends_on : Way → ℕ → PairSaying
  both_pass : ℕ → PairSaying

-- ---- what is said of a way
-- what is of some way, where it is this one
abbrev pub if_on : {X : Type 0} → Way → Way → X → List X
if_on There There x = x ∷ []
if_on There Back x = []
if_on Back There x = []
if_on Back Back x = x ∷ []

abbrev pub saying_on : Way → PairSaying → List Saying
saying_on way (lands_on of kind) = if_on way of (lands kind)
saying_on way (cuts_on of m) = if_on way of (cuts m)
saying_on way (mends_on of m) = if_on way of (mends m)
saying_on way (both_pass k) = passes k ∷ []

abbrev pub said_on : Way → List PairSaying → List Saying
said_on way said = flat_map (saying_on way) said

-- ---- over the configurations of both ways
abbrev pub config_on : Config → Config → Way → Config
config_on there back There = there
config_on there back Back = back

-- no return packet is lost by itself, the lags of both ways are the same and at most 256, and both make as many ticks
pub record IsPairNetwork (there back : Config) : Type 0 where
  pub there_network : IsNetwork there
  pub back_network : IsNetwork back
  pub there_lost : there.lost ≡ []
  pub back_lost : back.lost ≡ []
  pub near : there.lag ≤ 256
  pub lag : there.lag ≡ back.lag
  pub ticks : there.ticks ≡ back.ticks

-- of each way it is well said
abbrev pub IsPairSaid : Config → Config → List PairSaying → Type 0
IsPairSaid there back said = (way : Way) → IsWellSaid (config_on there back way) (said_on way said)

-- the script of a way says nothing of the order of events
abbrev pub script_on : Config → Way → List PairSaying → Script
script_on config way said = record {
  config = config_by config (live_of config (said_on way said));
  items = (live_of config (said_on way said)).items;
  events = [];
}

-- ---- two scripts agree with what was said, where each does with what was said of its way
pub record PairAgrees (there back : Config) (said : List PairSaying) (one other : Script) : Type 0 where
  pub there_agrees : Agrees there (live_of there (said_on There said)) (leg_of one)
  pub back_agrees : Agrees back (live_of back (said_on Back said)) (leg_of other)

-- two pairs of scripts that do
pub record ArePairs (there back : Config) (said : List PairSaying) (one other a b : Script) : Type 0 where
  pub pair : IsPair one other
  pub second : IsPair a b
  pub well : IsPairSaid there back said
  pub agrees : PairAgrees there back said one other
  pub second_agrees : PairAgrees there back said a b

-- how many ticks have passed, in each way as many
abbrev pub both_passed : Config → List PairSaying → ℕ
both_passed there said = (live_of there (said_on There said)).passed
