-- Cell by cell.
use Rattle.std.proofs.Common.{rules, ◌≡◌, Bool, Option, Some, sym, ap}
use Rattle.law_model.specs.Common.{Container}
use Rattle.member_path.specs.path_delay.Carry.{carry_cells}
use Rattle.member_path.specs.declared.cell_numbers.signs_and_verdicts.CellSign.{CellSign}
use Rattle.member_path.specs.declared.cell_numbers.signs_and_verdicts.CellSign.TheVariants.{Good, Fail, End}
use Rattle.thread_rings.specs.LineAlarms.{failed_after}
use Rattle.thread_rings.proofs.raised_alarms.fails_after.Goals as goal

of-carry : (failed : Bool) (container : Container) (carry known : Option CellSign) → carry ≡ known →
    failed_after failed (carry_cells known container) ≡ failed_after failed (carry_cells carry container)
of-carry failed container carry known is =
    ap (λ (one : Option CellSign). failed_after failed (carry_cells one container)) (sym is)

pub returns-in-None : goal.returns-in-None
unfolding failed_after
returns-in-None c container = of-carry c.args.failed container _ _ c.in-None.is

pub returns-in-Some-Fail : goal.returns-in-Some-Fail
unfolding failed_after
returns-in-Some-Fail c container =
    let known : c.args.carry ≡ Some Fail = search rules in
    of-carry c.args.failed container _ _ known

pub returns-in-Some-Good : goal.returns-in-Some-Good
unfolding failed_after
returns-in-Some-Good c container =
    let known : c.args.carry ≡ Some Good = search rules in
    of-carry c.args.failed container _ _ known

pub returns-in-Some-End : goal.returns-in-Some-End
unfolding failed_after
returns-in-Some-End c container =
    let known : c.args.carry ≡ Some End = search rules in
    of-carry c.args.failed container _ _ known
