-- None of the containers that aren't damaged any longer was pushed.
use Rattle.std.proofs.Common.{subst, arith}
use Rattle.member_path.specs.failure_window.OpenWindows.{CanClose}
use Rattle.member_path.proofs.DelayedPathCellLaws.{mend-cells}
use Rattle.member_path.proofs.path_delay.delayed_line.LineCore.mend.Goals as goal

pub returns-clause-cells : goal.returns-clause-cells
returns-clause-cells c calls stands =
    let pushed = c.requires.pushed in
    let same = stands.pushed in
    mend-cells calls c.args.end (subst (λ windows. CanClose windows c.args.end) stands.windows c.requires.cut)
    (omega (arith, pushed, same))
