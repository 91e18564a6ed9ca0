-- Items of one kind have landed, each of the last events one.
use Rattle.std.proofs.Common.{◌≡◌, ◌-◌, length}
use Rattle.walk_engine.specs.Common.{landing_of}
use Rattle.law_model.specs.Common.{leg_of}
use Rattle.law_walk.specs.Common.{walk_plan}
use Rattle.walk_engine.proofs.WalkRoundAndTotalsLaws.{Landed, landed_of}
use Rattle.walk_engine.proofs.walk_core.walk.Walk.land_all.Given as goal

abbrev pub invariant-loop : goal.invariant-loop
invariant-loop l = record {
  script : l.self.script ≡ l.fn.self.script;
  landed : Landed (walk_plan (leg_of l.fn.self.script)) l.fn.self.counts l.self.counts (landing_of l.fn.client)
      (landed_of l.fn.client);
  rows : l.self.counts.rows ≡ l.fn.self.counts.rows;
}

abbrev pub decreases-loop : goal.decreases-loop
decreases-loop l = length (walk_plan (leg_of l.fn.self.script)).items - landed_of l.fn.client l.self.counts
