-- The octets stand at the places of the rank, sixteen more at a time.
use Rattle.std.proofs.Common.{◌≡◌, ◌+◌, ◌-◌, ◌*◌, inl, inr, slice_index, sym, ap, ◌∙◌, arith}
use Rattle.std.proofs.lemmas.Bool.{cases_lt}
use Rattle.law_model.specs.Common.{part_of}
use Rattle.member_rows.proofs.RowPartAndLaneLaws.{is-part_of}
use Rattle.member_rows.proofs.vcat_interleave.octets_of_member.take_half.Goals as goal

pub loop-k-preserved : goal.loop-k-preserved
loop-k-preserved c p low =
    let at = c.loop-k.k * 16 in
    let out = c.put_octets.new.out in
    elim (cases_lt p at) [
      | inl before ↦ c.put_octets.ensures.others p (inl before) ∙ c.loop-k.invariant p before
      | inr here ↦
          let i = p - at in
          let there : p ≡ at + i = omega arith in
          ap (slice_index out) there
          ∙ c.put_octets.ensures.placed i (omega arith)
          ∙ c.half_of.ensures i (omega arith)
          ∙ ap (λ n. slice_index c.args.row.now (n * 2 + c.args.rank)) (sym there)
    ]

pub returns : goal.returns
returns c =
    is-part_of c.loop-p.octets c.args.row.now c.args.rank 2 (λ p within. c.loop-p.invariant p (omega arith))
    ∙ ap (λ n. part_of c.args.rank 2 n c.args.row.now) (c.loop-p.auto.octets ∙ c.loop-k.auto.octets)
