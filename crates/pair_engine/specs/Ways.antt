-- What a pair holds, by its scripts and its counts.
use Rattle.std.specs.Prelude.{◌≡◌, ◌*◌, ◌≤◌, [], None}
use Rattle.law_model.specs.Common.{IsNetwork, Leg, Counts, begin}
use Rattle.law_model.specs.declared.script_types.Config.{Config}
use Rattle.law_model.specs.declared.script_types.Script.{Script}
use Rattle.law_model.specs.session.Scenario.{packets_in}
use Rattle.law_walk.specs.Common.{walk_plan}
use Rattle.terminal_group.specs.ReturnInbox.{empty_inbox}
use Rattle.terminal_group.specs.Item.{bare_items}
use Rattle.terminal_group.specs.Landed.{none_landed}
use Rattle.law_pair.specs.Common.{IsPair, way_of, PairCounts, IsPairWalked}
use Rattle.walk_engine.specs.walk_core.WayParts.{WayStands}
use Rattle.walk_engine.specs.Common.{HasLanded, HasWindows, IsAlike, counts_of}
use Rattle.pair_engine.specs.declared.live_way.LiveWay.{LiveWay}
use Rattle.pair_engine.specs.declared.pair_way.PairWay.{PairWay}
use Rattle.pair_engine.specs.LivePairs.{WayLives, WayWalking, PairWalking, way_walked}

-- what a way holds, and what both do
abbrev pub walking_of : LiveWay → WayWalking
walking_of own = record { core = own.core; said = own.said; lag = own.lag; last = own.last }

abbrev pub walking_both : LiveWay → LiveWay → PairWalking
walking_both there back = record { there = walking_of there; back = walking_of back }

-- the leg of a way, beside the other one
abbrev pub leg_beside : PairWay → PairWay → Leg
leg_beside own other = way_of own.script other.script

-- the counts of a way: each return packet that its sink said has come
abbrev pub way_counts : PairWay → Counts
way_counts own = way_walked (walking_of own.live)

abbrev pub pair_counts : PairWay → PairWay → PairCounts
pair_counts there back = record { there = way_counts there; back = way_counts back }

-- it stands for a leg
abbrev pub StandsAs : Leg → PairWay → Type 0
StandsAs leg own = WayStands leg (packets_in own.live.core.sink.taken) own.live.core

-- what has landed is the leg's
abbrev pub LandedAs : Leg → PairWay → Type 0
LandedAs leg own = HasLanded leg (way_counts own) own.landing

-- ---- before any event
-- a network with twice the lag
abbrev pub with_both_lags : Config → Config
with_both_lags config = record config { lag = 2 * config.lag }

-- a way can be opened over a network: no return packet is lost by itself, and twice the lag isn't too much
pub record CanOpen (config : Config) : Type 0 where
  pub network : IsNetwork config
  pub near : config.lag ≤ 256
  pub lost : config.lost ≡ []

-- a way over a network, for each leg over it that has twice the lag
pub record IsNewLive (config : Config) (own : WayWalking) : Type 0 where
  pub lag : own.lag ≡ config.lag
  pub stands : (leg : Leg) → IsAlike leg (with_both_lags config) → WayStands leg 0 own.core
  pub counts : (leg : Leg) → IsAlike leg (with_both_lags config) → counts_of own.core 0 ≡ begin (walk_plan leg)
  pub inbox : own.core.source.inbox ≡ empty_inbox [] (2 * config.lag)
  pub windows : HasWindows config own.core.lines
  pub said : own.said ≡ record { packets = []; room = config.lag }
  pub last : own.last ≡ None

pub record IsNewWay (script : Script) (own : PairWay) : Type 0 where
  pub script_is : own.script ≡ script
  pub landing : own.landing ≡ none_landed script.config.lines (bare_items script.items)
  pub live : IsNewLive script.config (walking_of own.live)

-- ---- after some events
-- a way beside the other one
pub record IsWayBeside (other own : PairWay) : Type 0 where
  pub lives : WayLives own.script other.script other.live.core.sink.taken (walking_of own.live)
  pub windows : HasWindows own.script.config own.live.core.lines
  pub landed : LandedAs (leg_beside own other) own

-- both ways
pub record IsPairWalk (there back : PairWay) : Type 0 where
  pub pair : IsPair there.script back.script
  pub walked : IsPairWalked there.script back.script (pair_counts there back)
  pub there_way : IsWayBeside back there
  pub back_way : IsWayBeside there back
