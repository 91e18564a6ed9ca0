-- A later place begins after all ranks of an earlier one.
use Rattle.std.proofs.Common.{◌≡◌, ◌+◌, ◌*◌, inl, inr, get_or, sym, ap, ◌∙◌, arith}
use Rattle.std.proofs.lemmas.Bool.{cases_eq}
use Rattle.member_rows.specs.vcat_interleave.Square.{octet_at}
use Rattle.member_rows.proofs.PutOctetAndRowSpreadLaws.{earlier, aside}
use Rattle.member_rows.proofs.vcat_interleave.gather_members.put_rows.Goals as goal

pub loop-j-preserved : goal.loop-j-preserved
loop-j-preserved c =
    let k = c.loop-j.j in
    let x = c.args.x in
    let rank = c.args.rank in
    record {
      placed = λ j i h small. elim (cases_eq j k) [
        | inl same ↦ (let e : j * x + (rank + i) ≡ k * x + rank + i =
            omega (arith, ap (λ n. n * x) same) in ap (λ n. get_or c.put_octets.new.out n 0) e)
            ∙ c.put_octets.ensures.placed i small ∙ ap (λ n. octet_at c.args.rows.now n i) (sym same)
        | inr other ↦ c.put_octets.ensures.others (j * x + (rank + i))
            (inl (earlier j k x rank i (omega arith) c.requires.rank small))
            ∙ c.loop-j.invariant.placed j i (omega arith) small
      ];
      others = λ j r h below where_else. c.put_octets.ensures.others (j * x + r)
          (aside j k x rank r c.requires.rank below where_else)
          ∙ c.loop-j.invariant.others j r h below where_else;
    }
