-- The places up to here are taken.
use Rattle.std.proofs.Common.{◌≡◌, ℕ, ◌+◌, ◌*◌, ◌<◌, length, slice_index}
use Rattle.member_rows.specs.vcat_interleave.Square.{octet_at}
use Rattle.member_rows.proofs.vcat_interleave.spread_members.rows_between.Given as goal

abbrev pub invariant-loop-j : goal.invariant-loop-j
invariant-loop-j l = record {
  size : length l.rows ≡ 16;
  done : (j i : ℕ) → j < l.j → i < 16 → octet_at l.rows j i ≡ slice_index l.row (j * l.x + (l.rank + i));
}
