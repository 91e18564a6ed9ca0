-- The eight statuses of the group are replaced where they stand; where there are none, the others stay.
use Rattle.std.proofs.Common.{◌≡◌, ◌+◌, ◌*◌, ◌-◌, sym, ◌∙◌, arith}
use Rattle.law_model.specs.Common.{oks_in}
use Rattle.terminal_source.proofs.GroupBitAndReturnStatusLaws.{keep-in_place, keep-below, oks_in-size}
use Rattle.terminal_source.proofs.lcas_source.member_table.keep.Goals as goal

pub returns-then-group-lt-GROUPS : goal.returns-then-group-lt-GROUPS
returns-then-group-lt-GROUPS c =
    let eight : 8 * c.args.group + 8 - 8 * c.args.group ≡ 8 = omega arith in
    let said = c.copy_from_slice.ensures.after ∙ c.statuses_in.ensures in
    rw (said, eight) (keep-in_place c.args.group (oks_in c.args.mst) c.args.statuses.now (oks_in-size c.args.mst)
    (omega arith))

pub returns-else-group-lt-GROUPS : goal.returns-else-group-lt-GROUPS
returns-else-group-lt-GROUPS c =
    sym (keep-below c.args.group (oks_in c.args.mst) 0 c.args.statuses.now (omega arith))
