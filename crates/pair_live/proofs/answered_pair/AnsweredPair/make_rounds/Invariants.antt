-- Some rounds of the pass were made and told, in each pair that agrees with it.
use Rattle.std.proofs.Common.{ℕ, ◌-◌, ◌^◌, List, [], ◌∷◌, ◌++◌}
use Rattle.law_model.specs.declared.script_types.Config.{Config}
use Rattle.law_model.specs.declared.script_types.Script.{Script}
use Rattle.law_pair.proofs.PairMeasureAndDrainLaws.{pair_made}
use Rattle.law_live.specs.Common.{PairSaying, both_pass, pair_counts}
use Rattle.walk_live.specs.declared.asked.Asked.{Asked}
use Rattle.pair_engine.specs.LivePairs.{SameWindows, walking_counts}
use Rattle.pair_live.specs.PairAnswered.{ArePairOf}
use Rattle.pair_live.specs.PairPassing.{CanPassBoth, IsOtherPair}
use Rattle.pair_live.proofs.PairRoundLaws.{BothPassIn, BothTellIn}
use Rattle.pair_live.proofs.answered_pair.AnsweredPair.make_rounds.Given as goal

abbrev pub invariant-loop-self : goal.invariant-loop-self
invariant-loop-self g l = record {
  same : IsOtherPair l.fn.self l.self;
  windows : SameWindows l.fn.self.pair l.self.pair;
  rounds : (asked : Asked) (there back : Config) (said : List PairSaying) (k : ℕ) →
      CanPassBoth l.fn.self asked there back said k l.fn.until →
      (one other : Script) → ArePairOf there back (said ++ both_pass k ∷ []) one other →
      BothPassIn one other (pair_counts one other said) l.fn.until l.self.pair;
  told : (asked : Asked) (there back : Config) (said : List PairSaying) (k : ℕ) →
      CanPassBoth l.fn.self asked there back said k l.fn.until →
      (one other : Script) → ArePairOf there back (said ++ both_pass k ∷ []) one other →
      BothTellIn g.K.ByteSink.written g.K.ByteSink.faults l.fn.out l.out l.fn.block l.block asked one other
      (pair_counts one other said) l.fn.until (walking_counts l.self.pair);
}

-- far more is never made
abbrev pub decreases-loop-self : goal.decreases-loop-self
decreases-loop-self g l = 2 ^ 41 - pair_made (walking_counts l.self.pair)
