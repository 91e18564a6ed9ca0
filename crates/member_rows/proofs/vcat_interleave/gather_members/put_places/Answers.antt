-- A later place begins after all ranks of an earlier one.
use Rattle.std.proofs.Common.{◌+◌, ◌*◌, ◌<◌, inl, inr, slice_index, sym, ap, ◌∙◌, arith}
use Rattle.std.proofs.lemmas.Bool.{cases_eq}
use Rattle.member_rows.specs.vcat_interleave.Square.{octet_at}
use Rattle.member_rows.proofs.PutOctetAndRowSpreadLaws.{later}
use Rattle.member_rows.proofs.vcat_interleave.gather_members.put_places.Goals as goal

pub loop-j-preserved : goal.loop-j-preserved
loop-j-preserved c j i low below =
    let k = c.loop-j.j in
    let x = c.args.x in
    elim (cases_eq j k) [
      | inl same ↦
          ap (λ n. slice_index c.put_octets.new.out (n * x + i)) same
          ∙ c.put_octets.ensures.placed i (omega (arith, below, c.requires.few))
          ∙ ap (λ n. octet_at c.args.rows.now n i) (sym same)
      | inr other ↦
          let before : j * x + i < k * x = omega (arith, later j k x (omega (arith, low, other)), below) in
          c.put_octets.ensures.others (j * x + i) (inl before)
          ∙ c.loop-j.invariant j i (omega (arith, low, other)) below
    ]
