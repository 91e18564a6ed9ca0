-- The octets of the places up to here stand.
use Rattle.std.proofs.Common.{◌≡◌, ℕ, ◌+◌, ◌*◌, ◌<◌, slice_index}
use Rattle.member_rows.specs.vcat_interleave.Square.{octet_at}
use Rattle.member_rows.proofs.vcat_interleave.gather_members.put_places.Given as goal

abbrev pub invariant-loop-j : goal.invariant-loop-j
invariant-loop-j l = (j i : ℕ) → j < l.j → i < l.x → slice_index l.out (j * l.x + i) ≡ octet_at l.rows j i
