-- The rows up to here are those of their members.
use Rattle.std.proofs.Common.{◌≡◌, ℕ, ◌+◌, ◌<◌, length}
use Rattle.member_cells.specs.HeldPlaces.{held}
use Rattle.member_rows.specs.vcat_interleave.Square.{octet_at}
use Rattle.member_rows.specs.vcat_interleave.MemberPayloads.{payloads_of}
use Rattle.member_rows.proofs.vcat_interleave.gather_members.rows_of.Given as goal

abbrev pub invariant-loop-i : goal.invariant-loop-i
invariant-loop-i l = record {
  size : length l.rows ≡ 16;
  done : (i j : ℕ) → i < l.i → j < 16 →
      octet_at l.rows i j ≡ octet_at (payloads_of (held l.containers) l.active) (l.rank + i) (l.place + j);
}
