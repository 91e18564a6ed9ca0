-- The row up to here is written.
use Rattle.std.proofs.Common.{◌≡◌, ◌*◌, take}
use Rattle.member_cells.specs.HeldPlaces.{held}
use Rattle.law_model.specs.Common.{octets_from}
use Rattle.member_rows.specs.vcat_interleave.MemberPayloads.{payloads_of}
use Rattle.member_rows.proofs.vcat_interleave.gather_members.gather_few.Given as goal

abbrev pub invariant-loop-k : goal.invariant-loop-k
invariant-loop-k l = take (l.k * 16 * l.x) l.out ≡ octets_from l.place (l.k * 16)
    (payloads_of (held l.containers) l.active)
