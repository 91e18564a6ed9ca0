-- The walk of a pair of scripts.
use Rattle.law_model.specs.declared.script_types.Script.{Script}
use Rattle.law_walk.specs.Common.{walk_plan}
use Rattle.law_pair.specs.Pair.{way_of}
use Rattle.law_pair.specs.PairCounts.{PairPlan, PairCounts, pair_drain, pair_bound}
use Rattle.law_pair.specs.PairNeverStuck.{IsPairReached}

-- each way walks as its leg says, which has twice the lag
abbrev pub pair_plan : Script → Script → PairPlan
pair_plan there back = record {
  lag = there.config.lag;
  there = walk_plan (way_of there back);
  back = walk_plan (way_of back there);
}

-- the counts after rounds until all rows of both ways are taken
abbrev pub pair_drained : Script → Script → PairCounts → PairCounts
pair_drained there back s = pair_drain (pair_bound (pair_plan there back)) (pair_plan there back) s

-- some list of a pair's events leads to these counts
abbrev pub IsPairWalked : Script → Script → PairCounts → Type 0
IsPairWalked there back s = IsPairReached (pair_plan there back) s
