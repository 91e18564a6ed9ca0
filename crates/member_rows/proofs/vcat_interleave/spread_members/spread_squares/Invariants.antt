-- The ranks up to here have their parts.
use Rattle.std.proofs.Common.{◌*◌}
use Rattle.member_cells.specs.HeldPlaces.{held}
use Rattle.member_rows.specs.vcat_interleave.Spread.{SpreadsOver}
use Rattle.member_rows.proofs.vcat_interleave.spread_members.spread_squares.Given as goal

abbrev pub invariant-loop-k : goal.invariant-loop-k
invariant-loop-k l = SpreadsOver 0 (16 * l.k) l.place (l.squares * 16) l.row l.active (held l.fn.containers)
    (held l.containers)
