-- The ranks of the square are written at the places up to here, and no others.
use Rattle.std.proofs.Common.{◌≡◌, ℕ, ◌+◌, ◌*◌, ◌<◌, ◌≤◌, ◌⊎◌, slice_index}
use Rattle.member_rows.specs.vcat_interleave.Square.{octet_at}
use Rattle.member_rows.proofs.vcat_interleave.gather_members.put_rows.Given as goal

abbrev pub invariant-loop-j : goal.invariant-loop-j
invariant-loop-j l = record {
  placed : (j i : ℕ) → j < l.j → i < 16 → slice_index l.out (j * l.x + (l.rank + i)) ≡ octet_at l.rows j i;
  others : (j r : ℕ) → j < 16 → r < l.x → (r < l.rank) ⊎ (l.rank + 16 ≤ r) →
      slice_index l.out (j * l.x + r) ≡ slice_index l.fn.out (j * l.x + r);
}
