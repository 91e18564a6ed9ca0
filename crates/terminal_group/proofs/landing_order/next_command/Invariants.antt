-- The items passed are of the other kind.
use Rattle.std.proofs.Common.{◌≡◌, ◌+◌, ◌-◌, ◌≤◌, length, drop}
use Rattle.terminal_group.specs.ItemPlaces.{is_command, place_of}
use Rattle.terminal_group.proofs.landing_order.next_command.Given as goal

abbrev pub invariant-loop-i : goal.invariant-loop-i
invariant-loop-i l = record {
  within : l.i ≤ length l.items;
  at : l.i + place_of is_command 0 (drop l.i l.items) ≡ l.from + place_of is_command 0 (drop l.from l.items);
}

abbrev pub decreases-loop-i : goal.decreases-loop-i
decreases-loop-i l = length l.items - l.i
