-- The rounds that are left give what all of them give.
use Rattle.std.proofs.Common.{◌≡◌, ◌≤◌, ◌-◌}
use Rattle.law_model.specs.Common.{drain, bound, leg_of}
use Rattle.law_progress.specs.Progress.{made}
use Rattle.law_walk.specs.Common.{walk_plan}
use Rattle.walk_engine.specs.Common.{GivesRows}
use Rattle.walk_engine.proofs.walk_core.walk.Walk.drain.Given as goal

abbrev pub invariant-loop-self : goal.invariant-loop-self
invariant-loop-self g l = record {
  script : l.self.script ≡ l.fn.self.script;
  left : drain (bound (walk_plan (leg_of l.fn.self.script))) (walk_plan (leg_of l.fn.self.script)) l.self.counts
      ≡ drain (bound (walk_plan (leg_of l.fn.self.script))) (walk_plan (leg_of l.fn.self.script)) l.fn.self.counts;
  rises : l.fn.self.counts.rows ≤ l.self.counts.rows;
  gives : GivesRows g.F.FrameOut.stands_for l.fn.out l.out
      (leg_of l.fn.self.script) l.fn.self.counts.rows l.self.counts.rows;
}

abbrev pub decreases-loop-self : goal.decreases-loop-self
decreases-loop-self g l = bound (walk_plan (leg_of l.fn.self.script)) - made l.self.counts
