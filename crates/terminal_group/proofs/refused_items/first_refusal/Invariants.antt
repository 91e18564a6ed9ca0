-- The items passed aren't refused.
use Rattle.std.proofs.Common.{◌≡◌, ◌-◌, length}
use Rattle.terminal_group.specs.RefusalCodes.{refusals_left}
use Rattle.terminal_group.proofs.refused_items.first_refusal.Given as goal

abbrev pub invariant-loop-number : goal.invariant-loop-number
invariant-loop-number l =
    refusals_left l.lines l.codes l.number l.items ≡ refusals_left l.lines l.codes l.from l.items

abbrev pub decreases-loop-number : goal.decreases-loop-number
decreases-loop-number l = length l.items - l.number
