-- What is left of the events gives what all of them give.
use Rattle.std.proofs.Common.{◌≡◌, drop}
use Rattle.law_model.specs.Common.{Leg, run, carries_from}
use Rattle.law_walk.specs.Common.{walk_plan}
use Rattle.walk_engine.specs.Common.{LiveStands, walking_counts, windows_in}
use Rattle.walk_engine.proofs.walk_core.live_walk.LiveWalk.finish_round.Given as goal

abbrev pub invariant-loop-line : goal.invariant-loop-line
invariant-loop-line g l = record {
  stands : (leg : Leg) → LiveStands leg l.fn.self → LiveStands leg l.self;
  left : (leg : Leg) → LiveStands leg l.fn.self → run (walk_plan leg) (walking_counts l.self)
      (carries_from l.line (drop l.line (walk_plan leg).paths))
      ≡ run (walk_plan leg) (walking_counts l.fn.self) (carries_from 0 (walk_plan leg).paths);
  rows : (walking_counts l.self).rows ≡ (walking_counts l.fn.self).rows;
  landed : l.self.way.source.landed ≡ l.fn.self.way.source.landed;
  windows : windows_in l.self.way.lines ≡ windows_in l.fn.self.way.lines;
}
