-- There are none so far.
use Rattle.std.proofs.Common.{◌≡◌, replicate, None}
use Rattle.member_rows.proofs.realign_rows.row_gather.no_packets.Given as goal

abbrev pub invariant-loop : goal.invariant-loop
invariant-loop l = l.packets.items ≡ replicate l.counter None
