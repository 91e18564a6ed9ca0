-- The row up to here is spread over these ranks.
use Rattle.std.proofs.Common.{◌+◌, ◌*◌}
use Rattle.member_cells.specs.HeldPlaces.{held}
use Rattle.member_rows.specs.vcat_interleave.Spread.{SpreadsOver}
use Rattle.member_rows.proofs.vcat_interleave.spread_members.spread_ranks.Given as goal

abbrev pub invariant-loop-k : goal.invariant-loop-k
invariant-loop-k l = SpreadsOver l.rank (l.rank + l.ranks) l.place (l.k * 16) l.row l.active (held l.fn.containers)
    (held l.containers)
