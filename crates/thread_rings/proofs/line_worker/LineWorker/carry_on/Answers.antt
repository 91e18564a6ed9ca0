-- One carry more.
use Rattle.std.proofs.Common.{◌≡◌, ◌+◌, arith, rules}
use Rattle.thread_rings.specs.WorkerOfLine.{carries_of}
use Rattle.thread_rings.proofs.LineWorkerAlarmsLaws.{later-refl, later-then}
use Rattle.thread_rings.proofs.LineWorkerAlarmsLaws.{noted-refl, noted-then}
use Rattle.thread_rings.proofs.line_worker.LineWorker.carry_on.Goals as goal

pub loop-init : goal.loop-init
loop-init c = record {
  least = omega arith;
  most = omega arith;
  later = later-refl c.args.self.now;
  noted = noted-refl c.args.self.now;
  few = omega (arith, c.requires);
}

pub loop-preserved : goal.loop-preserved
loop-preserved c =
    let before = c.loop.invariant in
    let step : carries_of c.carry.new.self ≡ carries_of c.loop.self + 1 = search rules in
    record {
      least = omega (arith, step, before.least);
      most = omega (arith, step, before.most);
      later = later-then c.args.self.now c.loop.self c.carry.new.self before.later c.carry.ensures.later;
      noted = noted-then c.args.self.now c.loop.self c.carry.new.self before.noted c.carry.ensures.noted;
      few = omega (arith, c.carry.ensures.few, before.few);
    }

pub returns-then-ne-clause-later : goal.returns-then-ne-clause-later
returns-then-ne-clause-later c =
    later-then c.args.self.now c.loop.self c.carry.new.self c.loop.invariant.later c.carry.ensures.later

pub returns-then-ne-clause-noted : goal.returns-then-ne-clause-noted
returns-then-ne-clause-noted c =
    noted-then c.args.self.now c.loop.self c.carry.new.self c.loop.invariant.noted c.carry.ensures.noted
