-- One more packet was read.
use Rattle.std.proofs.Common.{Some, sym, ◌∙◌, ap, subst, arith}
use Rattle.std.proofs.lemmas.Option.{slice_get-get_or}
use Rattle.member_rows.specs.realign_rows.BegunNibbles.{HasNibbles}
use Rattle.member_rows.specs.realign_rows.Line.{Line}
use Rattle.member_rows.proofs.RowGatherLinesLaws.{read_more}
use Rattle.member_rows.proofs.realign_rows.row_gather.read_all.Goals as goal

pub loop-m-preserved : goal.loop-m-preserved
loop-m-preserved c =
    let m = c.loop-m.m in
    let here = slice_get-get_or c.args.lines.now m c.index-lines-m.result (omega arith)
    ∙ ap Some (sym c.index-lines-m.is) in
    read_more m c.args.lines.now c.loop-m.packets _ c.packet.result c.loop-m.invariant here
    (λ place own t stands. c.packet.ensures own t
    (subst (λ (line : Line). HasNibbles line.begun own t) (sym c.line.view_is) stands.nibbles))
