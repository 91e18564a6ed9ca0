-- The rows before the first one that a packet governs, or those of a packet.
use Rattle.std.proofs.Common.{arith}
use Rattle.fate_check.proofs.UsedLineAndSparedRowLaws.{alike-early, alike-late}
use Rattle.fate_check.proofs.used_lines.next_governed.Goals as goal

pub returns-then-row-lt-FIRST-clause-alike : goal.returns-then-row-lt-FIRST-clause-alike
returns-then-row-lt-FIRST-clause-alike c = λ t low high. alike-early t c.args.row c.if-row-lt-FIRST.true (omega (arith, high))

pub returns-else-row-lt-FIRST-clause-alike : goal.returns-else-row-lt-FIRST-clause-alike
returns-else-row-lt-FIRST-clause-alike c = λ t low high. alike-late t c.args.row c.if-row-lt-FIRST.false low (omega (arith, high))
