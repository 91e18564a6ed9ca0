-- The octets stand at the places of the rank.
use Rattle.std.proofs.Common.{◌∙◌, ap, arith}
use Rattle.law_model.specs.Common.{part_of}
use Rattle.member_rows.proofs.RowPartAndLaneLaws.{is-part_of}
use Rattle.member_rows.proofs.vcat_interleave.octets_of_member.take_rank.Goals as goal

pub returns : goal.returns
returns c =
    is-part_of c.loop-p.octets c.args.row.now c.args.rank c.args.x (λ p within. c.loop-p.invariant p (omega arith))
    ∙ ap (λ n. part_of c.args.rank c.args.x n c.args.row.now) c.loop-p.auto.octets
