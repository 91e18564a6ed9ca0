-- The octets up to here are those of the first places, again and again.
use Rattle.std.proofs.Common.{◌≡◌, ℕ, ◌+◌, ◌*◌, ◌%◌, ◌<◌, length, slice_index}
use Rattle.member_rows.proofs.vcat_interleave.octets_of_member.sixteen_of.Given as goal

abbrev pub invariant-loop-i : goal.invariant-loop-i
invariant-loop-i l = record {
  size : length l.sixteen ≡ 16;
  done : (i : ℕ) → i < l.i → slice_index l.sixteen i ≡ slice_index l.row (i % 4 * l.x + l.rank);
}
