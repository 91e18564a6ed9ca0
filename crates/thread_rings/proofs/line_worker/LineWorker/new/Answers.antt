-- Nothing was received, and the path has no cell yet.
use Rattle.std.proofs.Common.{◌≡◌, length, false, sym, ◌∙◌, ap, subst, arith}
use Rattle.member_path.specs.path_delay.CallsOnDelayedLine.{DelayStands, opened, path_cells}
use Rattle.thread_rings.specs.EndsOfRing.{in_passed}
use Rattle.thread_rings.specs.WorkerLineCalls.{calls_on}
use Rattle.thread_rings.specs.LineAlarms.{failed_after}
use Rattle.thread_rings.proofs.LineWorkerAlarmsLaws.{calls-opened, opened-path}
use Rattle.thread_rings.proofs.line_worker.LineWorker.new.Goals as goal

pub invariant_of-result : goal.invariant_of-result
unfolding failed_after
invariant_of-result c =
    let line = c.args.core in
    let calls : opened line.delay line.windows line.total ≡ calls_on line (in_passed c.args.consumer) =
    calls-opened line c.requires.core ∙ ap (calls_on line) (sym c.requires.consumer) in
    record {
      stands = subst (DelayStands line) calls c.requires.core;
      sent = c.requires.producer ∙ sym (opened-path line.delay line.windows line.total) ∙ ap path_cells calls;
      order = λ some. absurd (omega (arith, some, c.requires.core.flushed));
      flushes = omega (arith, c.requires.core.flushed);
      received = let size = ap length c.requires.consumer in omega (arith, size);
      failed = c.new.ensures.failed ∙ sym (ap (failed_after false) c.requires.producer);
      next = let size = ap length c.requires.producer in omega (arith, size, c.new.ensures.place);
    }
