-- The lines are written, or a part of them up to a write that failed.
use Rattle.std.proofs.Common.{rules, [], refl, sym, ◌∙◌}
use Rattle.law_model.specs.Common.{Start}
use Rattle.text_got.specs.TextSoFar.{name_of, start_at}
use Rattle.command_rooms.specs.commands.H4.{h4_text}
use Rattle.command_rooms.proofs.commands.h4.write_octets.Goals as goal

pub returns : goal.returns
returns g c =
    let start : Start = start_at g.K.ByteSink.written g.K.ByteSink.faults c.args.out.now (name_of c.new-got.result) in
    let text = h4_text c.args.octets.now in
    let has = c.write_multiframes.ensures start [] c.new-got.ensures.fresh in
    let name = c.finish-back.ensures.name ∙ has.0 ∙ c.new-got.ensures.name in
    record {
      ok =
          let end = rw (sym c.take_back.ensures) at c.finish-back.ensures.ok c.args.out.now text (refl, has.1) in
          search (rules, end, name);
      err =
          let end = rw (sym c.take_back.ensures) at c.finish-back.ensures.err c.args.out.now text (refl, has.1) in
          search (rules, end, name);
    }
