-- One line has taken the cell, and where it was the first that waits, another one may be.
use Rattle.std.proofs.Common.{◌<◌, ◌∷◌, [], length, slice_set, Some, sym, ◌∙◌, ap, subst, arith, length-set}
use Rattle.std.proofs.lemmas.Option.{slice_get-get_or}
use Rattle.member_cells.specs.HeldPlaces.{held}
use Rattle.member_path.specs.cell_numbers.SignsAsCells.{cell_with}
use Rattle.member_rows.specs.realign_rows.Gather.{Gather, GatherStands, IsOpenAt, decided_lines, with_cell}
use Rattle.member_rows.specs.realign_rows.Line.{Line, LineStands}
use Rattle.member_rows.proofs.BegunPacketNibbleLaws.{nibbles-stay}
use Rattle.member_rows.proofs.RowGatherLinesLaws.{offered_held}
use Rattle.member_rows.proofs.realign_rows.row_gather.RowGather.offer.Goals as goal

pub invariant_of-self : goal.invariant_of-self
invariant_of-self c =
    let inside = c.self.inside in
    let m = c.from-m.result in
    let old = inside.lines.items in
    let after : Line = record { numbers = c.cell.new.self; begun = c.own.inside.nibbles } in
    let known = c.self.invariant in
    let lines = length-set old m after in
    let size = ap (λ v. length v.lines) c.self.view_is in
    let within : m < length old = omega (arith, c.requires.line, c.from-m.ensures, size) in
    let was = slice_get-get_or old m c.index_mut-own.result.now within ∙ ap Some (sym c.index_mut-own.ensures.value) in
    let is : IsOpenAt (record {
      lines = old;
      places = held inside.places.items;
      packets = inside.packets.items;
      rows =
          inside.rows;
    }) m =
    subst (λ v. IsOpenAt v m) (sym c.self.view_is)
    (subst (IsOpenAt c.args.self.now) (sym c.from-m.ensures) c.requires.open) in (
      omega (arith, lines, known.0),
      length-set inside.places.items m _ ∙ known.1 ∙ sym lines,
      known.2 ∙ sym lines,
      c.decided_after-self-inside.ensures old c.index_mut-own.result.now after c.deref.ensures.value known.3 was
          (is c.index_mut-own.result.now was) ∙ ap decided_lines c.deref.ensures.value,
    )

pub returns-clause-stands : goal.returns-clause-stands
returns-clause-stands c cells stands =
    let inside = c.self.inside in
    let m = c.from-m.result in
    let old = inside.lines.items in
    let own = c.own.inside in
    let after : Line = record { numbers = c.cell.new.self; begun = own.nibbles } in
    let known = c.self.invariant in
    let before = subst (λ v. GatherStands v cells) (sym c.self.view_is) stands in
    let size = ap (λ v. length v.lines) c.self.view_is in
    let within : m < length old = omega (arith, c.requires.line, c.from-m.ensures, size) in
    let sizes = known.1 in
    let was = slice_get-get_or old m c.index_mut-own.result.now within ∙ ap Some (sym c.index_mut-own.ensures.value) in
    let lay = slice_get-get_or inside.places.items m c.index_mut.result.now (omega arith)
    ∙ ap Some (sym c.index_mut.ensures.value) in
    let new : Gather = record {
      lines = slice_set old m after;
      places = held (slice_set inside.places.items m c.cell.new.place);
      packets = inside.packets.items;
      rows = inside.rows;
    } in
    subst (λ k. GatherStands new (with_cell cells k (cell_with c.args.sign c.args.container.now.value))) c.from-m.ensures
    (offered_held old inside.places.items inside.packets.items inside.rows m c.index_mut-own.result.now
    after c.index_mut.result.now c.cell.new.place
    (cell_with c.args.sign c.args.container.now.value) cells was lay
    (λ cells t stands.
    let line = subst (λ (line : Line). LineStands line c.index_mut.result.now.value cells t) (sym c.own.view_is) stands in
    record {
      numbers = c.cell.ensures.stands cells t line.numbers;
      nibbles = nibbles-stay own.nibbles own.numbers c.index_mut.result.now.value cells
          (cell_with c.args.sign c.args.container.now.value ∷ []) t line.numbers line.nibbles;
    }) before)
