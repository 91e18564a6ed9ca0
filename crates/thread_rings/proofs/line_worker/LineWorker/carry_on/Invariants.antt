-- Each turn makes at most one carry.
use Rattle.std.proofs.Common.{◌+◌, ◌≤◌, length}
use Rattle.thread_rings.specs.WorkerOfLine.{carries_of, IsLater, last_raised, HasNoted}
use Rattle.thread_rings.proofs.line_worker.LineWorker.carry_on.Given as goal

abbrev pub invariant-loop : goal.invariant-loop
invariant-loop l = record {
  least : carries_of l.fn.self ≤ carries_of l.self;
  most : carries_of l.self + 1 ≤ carries_of l.fn.self + l.counter;
  later : IsLater l.fn.self l.self;
  noted : HasNoted l.fn.self l.self;
  few : length (last_raised l.self) ≤ l.counter;
}
