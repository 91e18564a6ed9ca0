-- The capture is written, or a part of it up to a write that failed.
use Rattle.std.proofs.Common.{rules, refl, sym, ◌∙◌, ap, subst}
use Rattle.law_model.specs.Common.{Counts, Start}
use Rattle.text_got.specs.TextSoFar.{start_at}
use Rattle.text_captures.specs.capture_file.CaptureSoFar.{HasCapture, name_of}
use Rattle.command_rooms.specs.commands.Capture.{taken_frames}
use Rattle.command_rooms.proofs.WalkCaptureAndFrameSumLaws.{begun-taken}
use Rattle.command_rooms.proofs.commands.capture.write_capture.Goals as goal

pub drive-requires-clause-seen : goal.drive-requires-clause-seen
drive-requires-clause-seen g c = (
  _,
  begun-taken g.K.ByteSink.written g.K.ByteSink.faults c.new-capture.result _ c.args.walk.now
      c.new-capture.ensures.fresh c.requires.begun,
)

pub returns : goal.returns
returns g c =
    let start : Start = start_at g.K.ByteSink.written g.K.ByteSink.faults c.args.out.now
    (name_of c.new-capture.result) in
    let has = subst (HasCapture g.K.ByteSink.written g.K.ByteSink.faults c.drive.new.watcher start)
    (ap (λ s. taken_frames s c.drive.new.walk.counts.rows) c.drive.ensures.script
    ∙ ap (λ (s : Counts). taken_frames c.args.walk.now.script s.rows) c.in-Ok.ensures.counts)
    (c.in-Ok.ensures.seen start
    (begun-taken g.K.ByteSink.written g.K.ByteSink.faults c.new-capture.result start c.args.walk.now
    c.new-capture.ensures.fresh c.requires.begun)) in
    let name = c.finish-back.ensures.name ∙ has.0 ∙ c.new-capture.ensures.name in
    record {
      script = search rules;
      counts = search rules;
      ok =
          let end = rw (sym c.take_back.ensures) at c.finish-back.ensures.ok c.args.out.now _ (refl, has.1) in
          search (rules, end, name);
      err =
          let end = rw (sym c.take_back.ensures) at c.finish-back.ensures.err c.args.out.now _ (refl, has.1) in
          search (rules, end, name);
    }
