-- The rows of the two halves up to here stand in turn.
use Rattle.std.proofs.Common.{◌≡◌, ℕ, ◌+◌, ◌*◌, ◌/◌, ◌%◌, ◌<◌, length}
use Rattle.member_rows.specs.vcat_interleave.Square.{octet_at}
use Rattle.member_rows.proofs.vcat_interleave.transpose_square.round.Given as goal

abbrev pub invariant-loop-i : goal.invariant-loop-i
invariant-loop-i l = record {
  size : length l.all ≡ 16;
  done : (r c : ℕ) → r < 2 * l.i → c < 16 →
      octet_at l.all r c ≡ octet_at l.rows (r / 2 + 8 * (c % 2)) (8 * (r % 2) + c / 2);
}
