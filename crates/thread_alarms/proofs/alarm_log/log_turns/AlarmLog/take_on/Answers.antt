-- One alarm more.
use Rattle.std.proofs.Common.{refl, ◌∙◌, arith}
use Rattle.thread_alarms.proofs.LaterServedLineLaws.{same-log, same-then, grown-none, grown-then}
use Rattle.thread_alarms.proofs.alarm_log.log_turns.AlarmLog.take_on.Goals as goal

pub loop-init : goal.loop-init
loop-init g c = record {
  least = omega arith;
  each = omega arith;
  grown = grown-none _;
  quiet = refl;
  same = same-log c.args.self.now;
}

pub loop-preserved : goal.loop-preserved
loop-preserved g c =
    let moved = c.take_one.ensures.moved c.if-not-take_one.false in
    let before = c.loop.invariant in
    record {
      least = omega (arith, moved, before.least);
      each = omega (arith, moved, before.each);
      grown = grown-then _ _ _ before.grown c.take_one.ensures.grown;
      quiet = c.take_one.ensures.quiet c.if-not-take_one.false ∙ before.quiet;
      same = same-then _ _ _ before.same c.take_one.ensures.same;
    }

pub returns-then-not-take_one-clause-grown : goal.returns-then-not-take_one-clause-grown
returns-then-not-take_one-clause-grown g c = grown-then _ _ _ c.loop.invariant.grown c.take_one.ensures.grown

pub returns-then-not-take_one-clause-same : goal.returns-then-not-take_one-clause-same
returns-then-not-take_one-clause-same g c = same-then _ _ _ c.loop.invariant.same c.take_one.ensures.same
