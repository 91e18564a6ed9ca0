-- The carries that are left give what all of them give.
use Rattle.std.proofs.Common.{◌≡◌, drop}
use Rattle.law_model.specs.declared.script_types.Script.{Script}
use Rattle.law_pair.specs.Common.{carries_on, pair_plan, pair_run, plan_on}
use Rattle.pair_engine.specs.LivePairs.{PairLives, SameWindows, walking_counts}
use Rattle.pair_engine.specs.WayCalls.{KeepsRows}
use Rattle.pair_engine.proofs.live_pair.LivePair.carry_all.Given as goal

abbrev pub invariant-loop-line : goal.invariant-loop-line
invariant-loop-line l = record {
  lives : (one other : Script) → PairLives one other l.fn.self → PairLives one other l.self;
  left : (one other : Script) → PairLives one other l.fn.self → pair_run (pair_plan one other) (walking_counts l.self)
      (carries_on l.way l.line (drop l.line (plan_on (pair_plan one other) l.way).paths))
      ≡ pair_run (pair_plan one other) (walking_counts l.fn.self)
      (carries_on l.way 0 (plan_on (pair_plan one other) l.way).paths);
  rows : KeepsRows l.fn.self l.self;
  windows : SameWindows l.fn.self l.self;
}
