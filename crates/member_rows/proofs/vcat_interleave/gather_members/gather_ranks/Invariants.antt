-- The members of the ranks up to here are written.
use Rattle.std.proofs.Common.{◌≡◌, ℕ, ◌+◌, ◌*◌, ◌<◌, slice_index}
use Rattle.member_cells.specs.HeldPlaces.{held}
use Rattle.member_rows.specs.vcat_interleave.Square.{octet_at}
use Rattle.member_rows.specs.vcat_interleave.MemberPayloads.{payloads_of}
use Rattle.member_rows.proofs.vcat_interleave.gather_members.gather_ranks.Given as goal

abbrev pub invariant-loop-rank : goal.invariant-loop-rank
invariant-loop-rank l = (p r : ℕ) → p < l.places → r < l.rank →
    slice_index l.out (p * l.x + r) ≡ octet_at (payloads_of (held l.containers) l.active) r (l.place + p)
