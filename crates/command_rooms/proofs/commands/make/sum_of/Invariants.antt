-- The octets so far are added up.
use Rattle.std.proofs.Common.{◌≡◌, ◌*◌, ◌≤◌, take, sum}
use Rattle.command_rooms.proofs.commands.make.sum_of.Given as goal

abbrev pub invariant-loop-octet : goal.invariant-loop-octet
invariant-loop-octet l = record {
  sum : l.total ≡ sum (take l.octet-index l.octets);
  small : l.total ≤ 255 * l.octet-index;
}
