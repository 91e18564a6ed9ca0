-- The members of the ranks up to here have their parts.
use Rattle.member_cells.specs.HeldPlaces.{held}
use Rattle.member_rows.specs.vcat_interleave.Spread.{SpreadsOver}
use Rattle.member_rows.proofs.vcat_interleave.spread_members.spread_each.Given as goal

abbrev pub invariant-loop-rank : goal.invariant-loop-rank
invariant-loop-rank l = SpreadsOver 0 l.rank l.place l.places l.row l.active (held l.fn.containers) (held l.containers)
