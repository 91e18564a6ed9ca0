-- One more member is written at the places of its rank.
use Rattle.std.proofs.Common.{◌+◌, ◌*◌, inl, inr, length, slice_index, sym, ap, ◌∙◌, arith}
use Rattle.std.proofs.lemmas.Bool.{cases_eq}
use Rattle.member_cells.specs.HeldPlaces.{held}
use Rattle.member_rows.specs.vcat_interleave.Square.{octet_at}
use Rattle.member_rows.specs.vcat_interleave.MemberPayloads.{payloads_of}
use Rattle.member_rows.proofs.RowPartAndLaneLaws.{rank-place, is-row}
use Rattle.member_rows.proofs.vcat_interleave.gather_members.gather_ranks.Goals as goal

pub loop-rank-preserved : goal.loop-rank-preserved
loop-rank-preserved c p r low below =
    let x = length c.args.active.now in
    let q = c.loop-rank.rank in
    elim (cases_eq r q) [
      | inl same ↦
          ap (λ n. slice_index c.put_rank.new.row (p * x + n)) same
          ∙ c.put_rank.ensures.placed p (omega (arith, c.piece.ensures.size))
          ∙ c.piece.ensures.octets p low
          ∙ ap (λ n. octet_at (payloads_of (held c.args.containers.now) c.args.active.now) n (c.args.place + p))
          (sym same)
      | inr other ↦
          c.put_rank.ensures.others (p * x + r) (λ is. other (sym (rank-place x p r (omega arith)).0 ∙ is))
          ∙ c.loop-rank.invariant p r low (omega arith)
    ]

pub returns : goal.returns
returns c =
    is-row (held c.args.containers.now) c.args.active.now c.args.place c.args.places c.loop-rank.out
    (c.loop-rank.auto.out ∙ c.requires.out)
    (λ p rank low below. c.loop-rank.invariant p rank low (omega (arith, c.loop-rank-test.false, below)))
