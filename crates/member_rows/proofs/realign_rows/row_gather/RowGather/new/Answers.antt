-- No cell came on any line.
use Rattle.std.proofs.Common.{length, None, ◌∙◌, ap, arith}
use Rattle.std.proofs.lemmas.List.{length-replicate}
use Rattle.member_cells.specs.HeldPlaces.{held}
use Rattle.member_rows.proofs.RowGatherLinesLaws.{new_stands, decided-new}
use Rattle.member_rows.proofs.realign_rows.row_gather.RowGather.new.Goals as goal

pub invariant_of-result : goal.invariant_of-result
invariant_of-result c =
    let lines = c.in_ok-new_lines.ensures in
    let size = lines.size in
    let none = ap length c.in_ok-no_packets.ensures ∙ length-replicate c.args.lines None in (
      omega arith,
      omega (arith, c.in_ok-blank_boxes.ensures.count, size),
      omega (arith, none, size),
      decided-new c.args.lines c.in_ok-new_lines.field-0.items lines,
    )

pub returns-clause-stands : goal.returns-clause-stands
returns-clause-stands c =
    let lines = c.in_ok-new_lines.ensures in
    new_stands c.args.lines c.in_ok-new_lines.field-0.items (held c.in_ok-blank_boxes.field-0.items)
    c.in_ok-no_packets.field-0.items lines.size c.in_ok-no_packets.ensures
    (λ m line place here. lines.fresh m line place here)
