-- The octets of a member come again too.
use Rattle.std.proofs.Common.{◌%◌, ◌∙◌, arith}
use Rattle.member_rows.proofs.RowPartAndLaneLaws.{again-part}
use Rattle.member_rows.proofs.vcat_interleave.octets_of_member.sixteen_of.Goals as goal

pub returns : goal.returns
returns c p within =
    c.loop-i.invariant.done (p % 16) (omega arith)
    ∙ again-part c.args.row.now c.requires.again p c.args.x c.args.rank within
