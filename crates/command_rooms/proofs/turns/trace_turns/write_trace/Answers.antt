-- The walk is traced to its end, or up to the first write that fails.
use Rattle.std.proofs.Common.{rules, inl, sym, ◌∙◌, OnErr}
use Rattle.std.proofs.lemmas.Result.{on_err_weaker}
use Rattle.walk_live.proofs.TimedLineWritingLaws.{on-ok}
use Rattle.law_headline.specs.WalkTexts.{walk_text}
use Rattle.command_rooms.specs.HandedWalk.{StopsBoth}
use Rattle.command_rooms.specs.commands.Trace.{trace_text}
use Rattle.command_rooms.proofs.WalkTraceAndEventCountLaws.{appends-all, part-told, whole-told, text-told}
use Rattle.command_rooms.proofs.turns.trace_turns.write_trace.Goals as goal

pub drive-requires-clause-seen : goal.drive-requires-clause-seen
drive-requires-clause-seen g c = (_, c.new-tracer.ensures.begun c.args.walk.now c.requires.begun c.requires.lines)

pub returns-then-over-clause-err : goal.returns-then-over-clause-err
returns-then-over-clause-err g c =
    let traced = c.in-Ok.ensures.seen _ (c.new-tracer.ensures.begun c.args.walk.now c.requires.begun c.requires.lines) in
    let told = part-told _ _ _ _ c.args.out.now c.args.notes.now _ c.new-tracer.result.got _ c.args.walk.now.script
    c.drive.new.walk c.drive.ensures.script c.in-Ok.ensures.counts _ traced.told _ c.if-over.true
    c.abandon-back.ensures.gives_up in
    let notes = rw (sym c.take_back.ensures) at told.1 in
    let both = rw (sym c.take_back-then-over.ensures) at notes in
    let named = traced.name ∙ c.new-tracer.ensures.notes in
    let name = c.abandon-back.ensures.name ∙ told.0 ∙ c.new-tracer.ensures.out in
    search (rules, both, name, named)

-- the text of the walk is written or waits, where it was begun, and the trace is written
pub returns : goal.returns
returns g c =
    let script = c.args.walk.now.script in
    let traced = c.in-Ok.ensures.seen _ (c.new-tracer.ensures.begun c.args.walk.now c.requires.begun c.requires.lines) in
    let told = whole-told _ _ _ _ c.args.out.now c.args.notes.now _ c.new-tracer.result.got _ script c.drive.new.walk
    c.drive.ensures.script c.in-Ok.ensures.counts _ traced.told c.if-over.false in
    let has = text-told g.K.ByteSink.written g.K.ByteSink.faults c.args.out.now c.new-tracer.result.got
    c.drive.new.watcher.got c.write_rest.new.got script c.drive.new.walk c.drive.ensures.script c.in-Ok.ensures.counts
    told.0 c.write_rest.ensures in
    let notes = rw (sym c.take_back.ensures) at told.1 in
    let named = traced.name ∙ c.new-tracer.ensures.notes in
    let name = c.finish-back.ensures.name ∙ has.0 ∙ c.new-tracer.ensures.out in
    record {
      script = search rules;
      counts = search rules;
      walked =
          let end = rw (sym c.take_back-2.ensures) at c.finish-back.ensures.ok c.args.out.now (walk_text script) has.1 in
          search (rules, end, name);
      traced = on-ok c.finish-back.result.1 (search (rules, notes, named));
      err =
          let trace = appends-all _ _ _ _ (trace_text script) told.1 in
          let end : OnErr c.finish-back.result.1
          (StopsBoth g.K.ByteSink.written g.K.ByteSink.faults c.args.out.now c.finish-back.result.0.now (walk_text script)
          g.E.ByteSink.written g.E.ByteSink.faults c.args.notes.now c.drive.new.watcher.notes.now (trace_text script)) =
          on_err_weaker c.finish-back.result.1 (λ part. inl (part, trace))
          (c.finish-back.ensures.err c.args.out.now (walk_text script) has.1) in
          let both = rw (sym c.take_back.ensures) at end in
          let back = rw (sym c.take_back-2.ensures) at both in
          search (rules, back, name, named);
    }
