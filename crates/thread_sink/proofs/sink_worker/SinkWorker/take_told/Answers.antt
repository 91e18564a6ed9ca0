-- The frames are counted, and their lines told.
use Rattle.std.proofs.Common.{rules, [], refl, sym, ◌∙◌, subst, false, is_err}
use Rattle.text_report.specs.ReportLines.{got_texts}
use Rattle.terminal_sink.specs.sink_core.TakenAndGiven.{given_frames, added_frames}
use Rattle.text_got.specs.TextSoFar.{start_at}
use Rattle.text_got.specs.LentText.{HasText, name_of}
use Rattle.thread_sink.specs.Told.{Writes}
use Rattle.thread_sink.specs.ReceivedByRings.{received}
use Rattle.thread_sink.specs.SinkParts.{parts}
use Rattle.thread_sink.specs.WorkerOfSink.{parts_of}
use Rattle.thread_sink.proofs.SinkStepAndFrameLaws.{counts-then, told-end, given-then}
use Rattle.thread_sink.proofs.sink_worker.SinkWorker.take_told.Goals as goal

pub returns-clause-stands : goal.returns-clause-stands
returns-clause-stands g c stands =
    let old = c.args.self.now in
    let was = parts_of old in
    let now = parts c.take_rows-first.new.rows c.take_rows-first.new.core c.take_rows-first.new.rx.items
    c.take_rows-first.new.back in
    let start = start_at g.K.ByteSink.written g.K.ByteSink.faults c.args.out.now (name_of c.new.result) in
    let told = c.take_rows-first.ensures.gives stands.keeps start [] (c.new.ensures.fresh, refl) in
    record {
      keeps = c.take_rows-first.ensures.keeps stands.keeps;
      counted = counts-then (given_frames was.core.options was.core.size (received was.rx) was.core.taken)
          (added_frames now.core.options now.core.size (received now.rx) was.core.taken now.core.taken) _
          old.got _ c.saturating_add-self.result (given-then was now stands.keeps
          c.take_rows-first.ensures.later) stands.counted told.1 c.saturating_add-self.ensures;
    }

pub returns-clause-written : goal.returns-clause-written
returns-clause-written g c stands =
    let old = c.args.self.now in
    let was = parts_of old in
    let now = parts c.take_rows-first.new.rows c.take_rows-first.new.core c.take_rows-first.new.rx.items
    c.take_rows-first.new.back in
    let written = g.K.ByteSink.written in
    let faults = g.K.ByteSink.faults in
    let first = c.args.out.now in
    let told = c.take_rows-first.ensures.gives stands.keeps (start_at written faults first (name_of c.new.result)) []
    (c.new.ensures.fresh, refl) in
    let lines = c.take_rows-first.new.out.lines in
    let text = got_texts
    (added_frames now.core.options now.core.size (received now.rx) was.core.taken now.core.taken) in
    let has : HasText written faults lines (start_at written faults first (name_of lines)) text =
    subst (λ name. HasText written faults lines (start_at written faults first name) text) (sym told.0.0) told.0 in
    let all = told-end written faults c.finish-back.result.1 first c.finish-back.result.0.now text
    (c.finish-back.ensures.ok first text has) (c.finish-back.ensures.err first text has) in
    let k : Writes written faults false c.is_err-self.result first c.take_back.new.out text =
    subst (λ failed. Writes written faults false failed first c.take_back.new.out text)
    (sym c.is_err-self.ensures.value)
    (subst (λ now. Writes written faults false (is_err c.finish-back.result.1) first now text)
    (sym c.take_back.ensures) all) in
    let named = c.finish-back.ensures.name ∙ told.0.0 ∙ c.new.ensures.name in
    search (rules, k, named)
