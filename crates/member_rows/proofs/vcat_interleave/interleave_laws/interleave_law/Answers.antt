-- Each clause is a law of rows.
use Rattle.member_rows.proofs.RowPartAndLaneLaws.{dealt, length-part_of, row_of-parts, part_of-row, octets_from-add}
use Rattle.member_rows.proofs.vcat_interleave.interleave_laws.interleave_law.Goals as goal

pub returns-clause-dealt : goal.returns-clause-dealt
returns-clause-dealt c = dealt

pub returns-clause-size : goal.returns-clause-size
returns-clause-size c = length-part_of

pub returns-clause-joined : goal.returns-clause-joined
returns-clause-joined c = row_of-parts

pub returns-clause-parted : goal.returns-clause-parted
returns-clause-parted c = part_of-row

pub returns-clause-pieces : goal.returns-clause-pieces
returns-clause-pieces c = octets_from-add
