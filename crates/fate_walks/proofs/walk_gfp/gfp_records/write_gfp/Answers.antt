-- The capture is written, or a part of it up to a write that failed.
use Rattle.std.proofs.Common.{rules, refl, sym, ◌∙◌}
use Rattle.fate_walks.proofs.walk_gfp.gfp_records.write_gfp.Goals as goal

pub returns : goal.returns
returns g c =
    let has = c.write_records.ensures _ c.new-gfp.ensures.fresh in
    let name = c.finish-back.ensures.name ∙ has.0 ∙ c.new-gfp.ensures.name in
    let ok = rw (sym c.take_back.ensures) at c.finish-back.ensures.ok c.args.out.now _ (refl, has.1) in
    let err = rw (sym c.take_back.ensures) at c.finish-back.ensures.err c.args.out.now _ (refl, has.1) in
    record { ok = search (rules, ok, name); err = search (rules, err, name) }
