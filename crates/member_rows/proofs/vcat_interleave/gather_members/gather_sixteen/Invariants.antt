-- The ranks of the squares up to here are written.
use Rattle.std.proofs.Common.{◌≡◌, ℕ, ◌+◌, ◌*◌, ◌<◌, min, slice_index}
use Rattle.member_cells.specs.HeldPlaces.{held}
use Rattle.member_rows.specs.vcat_interleave.Square.{octet_at}
use Rattle.member_rows.specs.vcat_interleave.MemberPayloads.{payloads_of}
use Rattle.member_rows.proofs.vcat_interleave.gather_members.gather_sixteen.Given as goal

abbrev pub invariant-loop-k : goal.invariant-loop-k
invariant-loop-k l = (j r : ℕ) → j < 16 → r < min (16 * l.k) l.x →
    slice_index l.out (j * l.x + r) ≡ octet_at (payloads_of (held l.containers) l.active) r (l.place + j)
