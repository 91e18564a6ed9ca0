-- By the packet that governs the row, if one does.
use Rattle.std.proofs.Common.{sym, ◌∙◌}
use Rattle.fate_check.proofs.UsedLineAndSparedRowLaws.{early-lines, late-lines}
use Rattle.fate_check.proofs.used_lines.used_lines.Goals as goal

pub returns-then-row-lt-FIRST : goal.returns-then-row-lt-FIRST
returns-then-row-lt-FIRST c = λ scenario cells are. sym (early-lines scenario cells c.args.row c.if-row-lt-FIRST.true)

pub returns : goal.returns
returns c = λ scenario cells are.
    c.active.ensures.lines scenario cells are ∙ sym (late-lines scenario cells c.args.row c.if-row-lt-FIRST.false)
