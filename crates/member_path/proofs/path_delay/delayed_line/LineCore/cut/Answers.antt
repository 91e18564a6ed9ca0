-- None of the containers that are damaged was pushed.
use Rattle.std.proofs.Common.{arith}
use Rattle.member_path.proofs.DelayedPathCellLaws.{cut-cells}
use Rattle.member_path.proofs.path_delay.delayed_line.LineCore.cut.Goals as goal

pub returns-clause-cells : goal.returns-clause-cells
returns-clause-cells c calls stands =
    let pushed = c.requires.pushed in
    let same = stands.pushed in cut-cells calls c.args.first (omega (arith, pushed, same))
