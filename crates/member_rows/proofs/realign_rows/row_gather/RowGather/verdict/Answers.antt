-- What is said of a line.
use Rattle.std.proofs.Common.{◌≡◌, ◌<◌, length, slice_get, Some, sym, ◌∙◌, ap, subst, arith, option_map}
use Rattle.std.specs.Global.{Box}
use Rattle.std.proofs.lemmas.Option.{slice_get-get_or, slice_get-map}
use Rattle.law_model.specs.Common.{Container, verdict}
use Rattle.member_cells.specs.HeldPlaces.{held}
use Rattle.member_path.specs.cell_numbers.SignsAsCells.{told_by}
use Rattle.member_rows.specs.realign_rows.Gather.{Gather, GatherStands, AreDecided, decided_lines}
use Rattle.member_rows.proofs.RowGatherLinesLaws.{decided-shut}
use Rattle.member_rows.proofs.realign_rows.row_gather.RowGather.verdict.Goals as goal

pub verdict-requires : goal.verdict-requires
verdict-requires c =
    let inside = c.self.inside in
    let m = c.from-m.result in
    let decided : decided_lines inside.lines.items ≡ length inside.lines.items =
    subst AreDecided (sym c.self.view_is) c.requires.decided in
    let size = ap (λ v. length v.lines) c.self.view_is in
    let within : m < length inside.lines.items = omega (arith, c.requires.line, c.from-m.ensures, size) in
    let here = slice_get-get_or inside.lines.items m c.index.result.now within ∙ ap Some (sym c.index.ensures) in
    record { decided = decided-shut inside.lines.items m c.index.result.now decided here }

pub returns : goal.returns
returns c cells own stands told =
    let inside = c.self.inside in
    let m = c.from-m.result in
    let old : Gather = record {
      lines = inside.lines.items;
      places = held inside.places.items;
      packets =
          inside.packets.items;
      rows = inside.rows;
    } in
    let before : GatherStands old cells = subst (λ v. GatherStands v cells) (sym c.self.view_is) stands in
    let size = ap (λ v. length v.lines) c.self.view_is in
    let within : m < length inside.lines.items = omega (arith, c.requires.line, c.from-m.ensures, size) in
    let sizes = c.self.invariant.1 in
    let here = slice_get-get_or inside.lines.items m c.index.result.now within ∙ ap Some (sym c.index.ensures) in
    let box = slice_get-get_or inside.places.items m c.index-2.result.now (omega arith)
    ∙ ap Some (sym c.index-2.ensures) in
    let there = slice_get-map (λ (b : Box Container). b.value) inside.places.items m
    ∙ ap (option_map (λ (b : Box Container). b.value)) box
    ∙ ap Some (sym (c.container.ensures ∙ c.deref.ensures)) in
    let told' = subst (λ m. slice_get cells m ≡ Some own) (sym c.from-m.ensures) told in
    subst (λ rows. verdict own rows ≡ Some (told_by c.verdict.result)) (ap (λ v. v.rows) c.self.view_is)
    (c.verdict.ensures.told own inside.rows
    (before.each m c.index.result.now c.container.result.now own here there told'))
