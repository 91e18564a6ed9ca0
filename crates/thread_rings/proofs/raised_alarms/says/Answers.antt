-- Cell by cell.
use Rattle.std.proofs.Common.{rules, ◌≡◌, ℕ, Option, Some, Bool, true, false, [], ◌∷◌, not, refl, sym, ◌∙◌, ap}
use Rattle.std.specs.Bool.{then_some}
use Rattle.law_model.specs.Common.{Container, Good, Fail}
use Rattle.member_path.specs.path_delay.Carry.{carry_cells}
use Rattle.member_path.specs.declared.cell_numbers.signs_and_verdicts.CellSign.{CellSign}
use Rattle.member_path.specs.declared.cell_numbers.signs_and_verdicts.CellSign.TheVariants.{Good as GoodSign, Fail as FailSign, End as EndSign}
use Rattle.thread_rings.specs.declared.alarm_kinds.AlarmKind.TheVariants.{Fails, Returns}
use Rattle.thread_rings.specs.LineAlarms.{alarms_from, alarm_if}
use Rattle.thread_rings.proofs.raised_alarms.says.Goals as goal

good-says : (m i : ℕ) (failed : Bool) (c : Container) →
    alarms_from m i failed (Good c ∷ []) ≡ alarm_if m i (then_some failed Returns)
unfolding alarms_from
good-says m i true c = refl
good-says m i false c = refl

fail-says : (m i : ℕ) (failed : Bool) → alarms_from m i failed (Fail ∷ []) ≡ alarm_if m i (then_some (not failed) Fails)
unfolding alarms_from
fail-says m i true = refl
fail-says m i false = refl

of-carry : (m i : ℕ) (failed : Bool) (container : Container) (carry known : Option CellSign) → carry ≡ known →
    alarms_from m i failed (carry_cells carry container) ≡ alarms_from m i failed (carry_cells known container)
of-carry m i failed container carry known is =
    ap (λ (one : Option CellSign). alarms_from m i failed (carry_cells one container)) is

pub returns-in-None : goal.returns-in-None
unfolding alarms_from
returns-in-None c m i container = of-carry m i c.args.failed container _ _ c.in-None.is

pub returns-in-Some-Good : goal.returns-in-Some-Good
returns-in-Some-Good c m i container =
    let known : c.args.carry ≡ Some GoodSign = search rules in
    of-carry m i c.args.failed container _ _ known
    ∙ good-says m i c.args.failed container ∙ ap (alarm_if m i) (sym c.then_some.ensures)

pub returns-in-Some-Fail : goal.returns-in-Some-Fail
returns-in-Some-Fail c m i container =
    let known : c.args.carry ≡ Some FailSign = search rules in
    of-carry m i c.args.failed container _ _ known
    ∙ fail-says m i c.args.failed ∙ ap (alarm_if m i) (sym c.then_some-in-Some-Fail.ensures)

pub returns-in-Some-End : goal.returns-in-Some-End
unfolding alarms_from
returns-in-Some-End c m i container =
    let known : c.args.carry ≡ Some EndSign = search rules in
    of-carry m i c.args.failed container _ _ known
