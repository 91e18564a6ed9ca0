-- All rows were taken before.
use Rattle.std.proofs.Common.{sym, subst}
use Rattle.std.proofs.Math.Seq.{drop-length}
use Rattle.text_report.specs.ReportLines.{got_texts}
use Rattle.terminal_sink.specs.sink_core.TakenAndGiven.{given_frames}
use Rattle.thread_sink.specs.Told.{Writes}
use Rattle.thread_sink.specs.WorkerOfSink.{cells_of, options_of, size_of, taken_of, has_failed}
use Rattle.thread_sink.proofs.SinkStepAndFrameLaws.{writes-none}
use Rattle.thread_sink.proofs.sink_worker.SinkWorker.burst.Goals as goal

pub returns-then-taken-self-clause-written : goal.returns-then-taken-self-clause-written
returns-then-taken-self-clause-written g c stands =
    let own = c.args.self.now in
    let written = g.K.ByteSink.written in
    let faults = g.K.ByteSink.faults in
    subst (λ frames. Writes written faults (has_failed own) (has_failed own) c.args.out.now c.args.out.now
    (got_texts frames))
    (sym (drop-length (given_frames (options_of own) (size_of own) (cells_of own) (taken_of own))))
    (writes-none written faults (has_failed own) c.args.out.now)
