-- The octets of two vectors of sixteen, in turn.
use Rattle.member_rows.proofs.RowPartAndLaneLaws.{front_is, back_is}
use Rattle.member_rows.proofs.vcat_interleave.transpose_square.in_turn.Goals as goal

pub returns-clause-front : goal.returns-clause-front
returns-clause-front c = front_is c.args.a c.args.b c.fits-a.0

pub returns-clause-back : goal.returns-clause-back
returns-clause-back c = back_is c.args.a c.args.b c.fits-a.0
