-- Every second octet of two vectors.
use Rattle.std.proofs.Common.{◌++◌}
use Rattle.member_rows.proofs.RowPartAndLaneLaws.{firsts_are, seconds_are}
use Rattle.member_rows.proofs.vcat_interleave.octets_of_member.by_turns.Goals as goal

pub returns-clause-firsts : goal.returns-clause-firsts
returns-clause-firsts c = firsts_are (c.args.a ++ c.args.b)

pub returns-clause-seconds : goal.returns-clause-seconds
returns-clause-seconds c = seconds_are (c.args.a ++ c.args.b)
