-- The octets up to here are taken.
use Rattle.std.proofs.Common.{◌≡◌, ℕ, ◌+◌, ◌*◌, ◌<◌, slice_index}
use Rattle.member_rows.proofs.vcat_interleave.octets_of_member.take_again.Given as goal

abbrev pub invariant-loop-k : goal.invariant-loop-k
invariant-loop-k l = (p : ℕ) → p < l.k * 16 → slice_index l.octets p ≡ slice_index l.row (p * l.x + l.rank)

abbrev pub invariant-loop-p : goal.invariant-loop-p
invariant-loop-p l = (p : ℕ) → p < l.p → slice_index l.octets p ≡ slice_index l.row (p * l.x + l.rank)
