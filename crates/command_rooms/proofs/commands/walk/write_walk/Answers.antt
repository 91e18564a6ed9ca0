-- The text of the walk is written, or a part of it up to a write that failed.
use Rattle.std.proofs.Common.{rules, sym, ◌∙◌}
use Rattle.law_headline.specs.WalkTexts.{walk_text}
use Rattle.command_rooms.proofs.WalkTraceAndEventCountLaws.{rows-begun, text-told}
use Rattle.command_rooms.proofs.commands.walk.write_walk.Goals as goal

pub drive-requires-clause-seen : goal.drive-requires-clause-seen
drive-requires-clause-seen g c = (
  _,
  rows-begun g.K.ByteSink.written g.K.ByteSink.faults c.new-got.result _ c.args.walk.now c.new-got.ensures.fresh
      c.requires.begun,
)

pub returns : goal.returns
returns g c =
    let script = c.args.walk.now.script in
    let rows = c.in-Ok.ensures.seen _ (rows-begun g.K.ByteSink.written g.K.ByteSink.faults c.new-got.result _
    c.args.walk.now c.new-got.ensures.fresh c.requires.begun) in
    let has = text-told g.K.ByteSink.written g.K.ByteSink.faults c.args.out.now c.new-got.result c.drive.new.watcher
    c.write_rest.new.got script c.drive.new.walk c.drive.ensures.script c.in-Ok.ensures.counts rows c.write_rest.ensures in
    let name = c.finish-back.ensures.name ∙ has.0 ∙ c.new-got.ensures.name in
    record {
      script = search rules;
      counts = search rules;
      ok =
          let end = rw (sym c.take_back.ensures) at c.finish-back.ensures.ok c.args.out.now (walk_text script) has.1 in
          search (rules, end, name);
      err =
          let end = rw (sym c.take_back.ensures) at c.finish-back.ensures.err c.args.out.now (walk_text script) has.1 in
          search (rules, end, name);
    }
