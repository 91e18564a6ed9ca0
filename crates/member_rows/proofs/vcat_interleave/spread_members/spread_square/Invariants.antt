-- The ranks of the square up to here have their parts.
use Rattle.std.proofs.Common.{◌+◌}
use Rattle.member_cells.specs.HeldPlaces.{held}
use Rattle.member_rows.specs.vcat_interleave.Spread.{SpreadsOver}
use Rattle.member_rows.proofs.vcat_interleave.spread_members.spread_square.Given as goal

abbrev pub invariant-loop-i : goal.invariant-loop-i
invariant-loop-i l = SpreadsOver l.rank (l.rank + l.i) l.place 16 l.row l.active (held l.fn.containers)
    (held l.containers)
