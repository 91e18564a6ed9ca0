-- The places up to here are written, and no others of other ranks.
use Rattle.std.proofs.Common.{◌≡◌, ◌≢◌, ℕ, ◌+◌, ◌*◌, ◌%◌, ◌<◌, slice_index}
use Rattle.member_rows.proofs.vcat_interleave.octets_of_member.put_rank.Given as goal

abbrev pub invariant-loop-p : goal.invariant-loop-p
invariant-loop-p l = record {
  placed : (p : ℕ) → p < l.p → slice_index l.row (p * l.x + l.rank) ≡ slice_index l.octets p;
  others : (i : ℕ) → i % l.x ≢ l.rank → slice_index l.row i ≡ slice_index l.fn.row i;
}
