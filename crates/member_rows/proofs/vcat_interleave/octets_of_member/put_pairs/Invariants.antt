-- The pairs up to here are written.
use Rattle.std.proofs.Common.{◌≡◌, ℕ, ◌+◌, ◌*◌, ◌<◌, slice_index}
use Rattle.member_rows.proofs.vcat_interleave.octets_of_member.put_pairs.Given as goal

abbrev pub invariant-loop-p : goal.invariant-loop-p
invariant-loop-p l = record {
  firsts : (p : ℕ) → p < l.p → slice_index l.row (p * 2) ≡ slice_index l.first p;
  seconds : (p : ℕ) → p < l.p → slice_index l.row (p * 2 + 1) ≡ slice_index l.second p;
}
