-- One more line has passed its number.
use Rattle.std.proofs.Common.{◌<◌, length, Some, sym, ◌∙◌, ap, arith, option_map}
use Rattle.std.specs.Global.{Box}
use Rattle.std.proofs.lemmas.Option.{slice_get-get_or, slice_get-map}
use Rattle.law_model.specs.Common.{Container}
use Rattle.member_cells.specs.HeldPlaces.{held}
use Rattle.member_rows.proofs.RowGatherLinesLaws.{decided-shut}
use Rattle.member_rows.proofs.RowGatherLinesLaws.{passed_more}
use Rattle.member_rows.proofs.realign_rows.row_gather.pass_all.Goals as goal

pub pass-requires-clause-decided : goal.pass-requires-clause-decided
pass-requires-clause-decided c =
    let m = c.loop-m.m in
    let inside : m < length c.loop-m.lines = omega arith in
    let here = slice_get-get_or c.loop-m.lines m c.index-lines-m.result inside in
    decided-shut c.args.lines.now m _ c.requires.decided (sym (c.loop-m.invariant.others m (omega arith)) ∙ here)

pub loop-m-preserved : goal.loop-m-preserved
loop-m-preserved c =
    let m = c.loop-m.m in
    let line = slice_get-get_or c.loop-m.lines m c.index-lines-m.result (omega arith) in
    let box = slice_get-get_or c.args.places.now m c.index-places-m.result (omega arith)
    ∙ ap Some (sym c.index-places-m.is) in
    let place = slice_get-map (λ (b : Box Container). b.value) c.args.places.now m
    ∙ ap (option_map (λ (b : Box Container). b.value)) box
    ∙ ap Some (sym (c.container.ensures ∙ c.deref.ensures)) in
    passed_more m c.args.j (held c.args.places.now) c.args.lines.now c.loop-m.lines _ c.pass.new.self _
    c.loop-m.invariant line place c.pass.ensures.stands
