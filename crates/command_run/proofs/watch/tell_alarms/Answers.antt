-- What waits are the alarms.
use Rattle.std.proofs.Common.{rules, [], refl, sym, ◌∙◌}
use Rattle.command_run.proofs.watch.tell_alarms.Goals as goal

pub returns : goal.returns
returns g c =
    let has = rw c.alarms.ensures at c.write_alarms.ensures _ [] c.new-got.ensures.fresh in
    let name = c.finish-back.ensures.name ∙ has.0 ∙ c.new-got.ensures.name in
    record {
      ok =
          let end = rw (sym c.take_back.ensures) at c.finish-back.ensures.ok c.args.notes.now _ (refl, has.1) in
          search (rules, end, name);
      err =
          let end = rw (sym c.take_back.ensures) at c.finish-back.ensures.err c.args.notes.now _ (refl, has.1) in
          search (rules, end, name);
    }
