-- The octets stand at the places of the rank, and those of sixteen places come again.
use Rattle.std.proofs.Common.{◌≡◌, ◌+◌, ◌-◌, ◌*◌, ◌%◌, inl, inr, length, slice_index, ap, ◌∙◌, arith}
use Rattle.std.proofs.lemmas.Bool.{cases_lt}
use Rattle.law_model.specs.Common.{part_of}
use Rattle.member_rows.proofs.RowPartAndLaneLaws.{is-part_of, within-row}
use Rattle.member_rows.proofs.vcat_interleave.octets_of_member.take_again.Goals as goal

pub loop-k-preserved : goal.loop-k-preserved
loop-k-preserved c p low =
    let at = c.loop-k.k * 16 in
    let x = c.args.x in
    let rank = c.args.rank in
    let out = c.put_octets.new.out in
    elim (cases_lt p at) [
      | inl before ↦ c.put_octets.ensures.others p (inl before) ∙ c.loop-k.invariant p before
      | inr here ↦
          let i = p - at in
          let there : p ≡ at + i = omega arith in
          let turn : i ≡ p % 16 = omega arith in
          ap (slice_index out) there
          ∙ c.put_octets.ensures.placed i (omega arith)
          ∙ ap (slice_index c.sixteen_of-sixteen.result) turn
          ∙ c.sixteen_of-sixteen.ensures p
          (omega (arith, within-row x (length c.args.octets.now) p rank (omega arith) c.requires.rank, c.requires.row))
    ]

pub returns : goal.returns
returns c =
    is-part_of c.loop-p.octets c.args.row.now c.args.rank c.args.x (λ p within. c.loop-p.invariant p (omega arith))
    ∙ ap (λ n. part_of c.args.rank c.args.x n c.args.row.now) (c.loop-p.auto.octets ∙ c.loop-k.auto.octets)
