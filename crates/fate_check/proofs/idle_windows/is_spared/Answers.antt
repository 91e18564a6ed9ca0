-- By whether a line carries payload in the row.
use Rattle.std.proofs.Common.{◌≡◌, ◌==◌, false, true, not, sym, ◌∙◌, ap}
use Rattle.std.specs.List.{list_any}
use Rattle.fate_check.specs.UsedLines.{has_payload}
use Rattle.fate_check.proofs.UsedLineAndSparedRowLaws.{some-by-length, none-by-length}
use Rattle.fate_check.proofs.UsedLineAndSparedRowLaws.{spared-bare, spared-used, whole-by-cause}
use Rattle.fate_check.proofs.idle_windows.is_spared.Goals as goal

pub returns-then-is_empty : goal.returns-then-is_empty
returns-then-is_empty c = λ scenario cells same are.
    let row = c.args.row in
    let none : has_payload scenario cells row ≡ false =
    none-by-length c.used_lines-used.result.now scenario cells row (c.used_lines-used.ensures scenario cells are)
    (sym c.is_empty.ensures ∙ c.if-is_empty.true) in
    whole-by-cause scenario cells row c.row_cause.result c.is_none.result (c.row_cause.ensures scenario cells same are)
    c.is_none.ensures
    ∙ sym (spared-bare scenario cells c.args.line row none)

pub returns-else-is_empty : goal.returns-else-is_empty
returns-else-is_empty c = λ scenario cells same are.
    let row = c.args.row in
    let some : has_payload scenario cells row ≡ true =
    some-by-length c.used_lines-used.result.now scenario cells row (c.used_lines-used.ensures scenario cells are)
    (sym c.is_empty.ensures ∙ c.if-is_empty.false) in
    ap not (c.contains.ensures.value ∙ ap (list_any (λ used. used == c.args.line)) (c.used_lines-used.ensures scenario cells are))
    ∙ sym (spared-used scenario cells c.args.line row some)
