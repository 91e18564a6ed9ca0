-- The words that most definitions and proofs cite, passed on from one place. Declares nothing.
pub use Rattle.law_pair.specs.Pair.{IsPair, IsWay, is_unheard, run_then, said_of, unheard, way_config, way_of}
pub use Rattle.law_pair.specs.Pair.{way_telling, way_tells}
unfoldable pub use Rattle.law_pair.specs.Pair.{runs_of}
pub use Rattle.law_pair.specs.PairCounts.{PairCounts, PairPlan, PairStep, counts_on, done_at, first_way, full_at}
pub use Rattle.law_pair.specs.PairCounts.{held_at, is_over, is_unsaid, land_first, land_item, landed, missing_at}
pub use Rattle.law_pair.specs.PairCounts.{on_way, or_else, pair_begin, pair_bound, pair_round, pair_step, plan_on}
pub use Rattle.law_pair.specs.PairCounts.{sooner, take_one, take_said, tick_by, tick_cause, tick_of, ticked}
pub use Rattle.law_pair.specs.PairCounts.{with_counts}
unfoldable pub use Rattle.law_pair.specs.PairCounts.{carries_on, first_due, left_after, pair_drain, pair_run}
pub use Rattle.law_pair.specs.PairNeverStuck.{HasWayLine, IsOpen, IsPairPlan, IsPairProgress, IsPairReached, IsStill}
pub use Rattle.law_pair.specs.PairNeverStuck.{SomePairProgress, with_lag, with_lines}
pub use Rattle.law_pair.specs.PairWalk.{IsPairWalked, pair_drained, pair_plan}
pub use Rattle.law_pair.specs.OtherTelling.{telling_of}
pub use Rattle.law_pair.specs.WorkedPairScripts.{failing_back, worked_back, worked_script, worked_there}
