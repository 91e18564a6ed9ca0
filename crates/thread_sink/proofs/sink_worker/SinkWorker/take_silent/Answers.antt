-- The frames are counted.
use Rattle.std.proofs.Common.{[], refl}
use Rattle.terminal_sink.specs.sink_core.TakenAndGiven.{given_frames, added_frames}
use Rattle.thread_sink.specs.ReceivedByRings.{received}
use Rattle.thread_sink.specs.SinkParts.{parts}
use Rattle.thread_sink.specs.WorkerOfSink.{parts_of}
use Rattle.thread_sink.proofs.SinkStepAndFrameLaws.{counts-then, given-then}
use Rattle.thread_sink.proofs.sink_worker.SinkWorker.take_silent.Goals as goal

pub returns-clause-stands : goal.returns-clause-stands
returns-clause-stands c stands =
    let old = c.args.self.now in
    let was = parts_of old in
    let now = parts c.take_rows-first.new.rows c.take_rows-first.new.core c.take_rows-first.new.rx.items
    c.take_rows-first.new.back in
    let counted = c.take_rows-first.ensures.gives stands.keeps (record { octets = []; faults = 0; name = 0 }) [] refl in
    record {
      keeps = c.take_rows-first.ensures.keeps stands.keeps;
      counted = counts-then (given_frames was.core.options was.core.size (received was.rx) was.core.taken)
          (added_frames now.core.options now.core.size (received now.rx) was.core.taken now.core.taken) _
          old.got _ c.saturating_add-self.result (given-then was now stands.keeps
          c.take_rows-first.ensures.later) stands.counted counted c.saturating_add-self.ensures;
    }
