-- No cell came.
use Rattle.std.proofs.Common.{[]}
use Rattle.member_rows.proofs.realign_rows.gather_line.GatherLine.new.Goals as goal

pub returns-clause-stands : goal.returns-clause-stands
returns-clause-stands c place = record { numbers = c.new.ensures.stands place; nibbles = c.new-2.ensures [] }
