-- Some rounds of the pass were made and told, in each leg that agrees with it.
use Rattle.std.proofs.Common.{◌≡◌, ℕ, ◌-◌, ◌^◌, List, [], ◌∷◌, ◌++◌}
use Rattle.law_model.specs.Common.{Leg}
use Rattle.law_model.specs.declared.script_types.Config.{Config}
use Rattle.law_progress.specs.Progress.{made}
use Rattle.law_live.specs.Common.{Saying, live_counts, passes}
use Rattle.walk_engine.specs.walk_core.LiveWalking.{walking_counts}
use Rattle.walk_engine.specs.walk_core.WayParts.{windows_in}
use Rattle.walk_live.specs.Answered.{IsLegOf}
use Rattle.walk_live.specs.PassingRounds.{CanPass, IsOtherwise}
use Rattle.walk_live.proofs.PassRoundsLaws.{PassesIn, TellsIn}
use Rattle.walk_live.proofs.answered_walk.AnsweredWalk.make_rounds.Given as goal
use Rattle.walk_live.specs.declared.asked.Asked.{Asked}

abbrev pub invariant-loop-self : goal.invariant-loop-self
invariant-loop-self g l = record {
  same : IsOtherwise l.fn.self l.self;
  windows : windows_in l.self.walk.way.lines ≡ windows_in l.fn.self.walk.way.lines;
  rounds : (asked : Asked) (config : Config) (said : List Saying) (k : ℕ) → CanPass l.fn.self asked config said k l.fn.until →
      (leg : Leg) → IsLegOf config (said ++ passes k ∷ []) leg →
      PassesIn leg (live_counts leg said) l.fn.until l.self.walk;
  told : (asked : Asked) (config : Config) (said : List Saying) (k : ℕ) → CanPass l.fn.self asked config said k l.fn.until →
      (leg : Leg) → IsLegOf config (said ++ passes k ∷ []) leg →
      TellsIn g.K.ByteSink.written g.K.ByteSink.faults l.fn.out l.out l.fn.block l.block asked leg (live_counts leg said)
      l.fn.until (walking_counts l.self.walk);
}

-- far more is never made
abbrev pub decreases-loop-self : goal.decreases-loop-self
decreases-loop-self g l = 2 ^ 40 - made (walking_counts l.self.walk)
