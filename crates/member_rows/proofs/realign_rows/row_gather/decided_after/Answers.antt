-- The first line on which it wasn't is another one only where that one has changed.
use Rattle.std.proofs.Common.{◌+◌, drop, sym, ◌∙◌, ap, ap₂, arith, length-drop}
use Rattle.std.proofs.lemmas.List.{take_rest}
use Rattle.member_rows.specs.realign_rows.Gather.{decided_lines}
use Rattle.member_rows.proofs.RowGatherLinesLaws.{decided-most, decided-again, decided-kept}
use Rattle.member_rows.proofs.realign_rows.row_gather.decided_after.Goals as goal

pub overflow_add-result : goal.overflow_add-result
overflow_add-result c =
    let lines = c.args.lines.now in
    let m = c.args.m in
    let rest = c.decided_lines.ensures ∙ ap decided_lines (take_rest lines m) in
    let most = decided-most (drop m lines) in
    omega (arith, rest, most, length-drop m lines, c.if-m-before.true, c.requires.line, c.requires.few)

pub returns-then-m-before : goal.returns-then-m-before
returns-then-m-before c old was now changed before here open' =
    let m = c.args.m in
    let rest = c.decided_lines.ensures ∙ ap decided_lines (take_rest c.args.lines.now m) in
    ap₂ (λ a b. a + b) (sym c.if-m-before.true) rest
    ∙ ap (λ lines. m + decided_lines (drop m lines)) changed
    ∙ decided-again old m now (c.if-m-before.true ∙ before)
    ∙ ap decided_lines (sym changed)

pub returns-else-m-before : goal.returns-else-m-before
returns-else-m-before c old was now changed before here open' =
    before
    ∙ decided-kept old c.args.m now was (λ e. c.if-m-before.false (e ∙ sym before)) here open'
    ∙ ap decided_lines (sym changed)
