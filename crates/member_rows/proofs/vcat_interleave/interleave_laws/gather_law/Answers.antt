-- The places of each rank are those of the row from the gathering of that rank on.
use Rattle.member_rows.proofs.RowPartAndLaneLaws.{gathered-row}
use Rattle.member_rows.proofs.vcat_interleave.interleave_laws.gather_law.Goals as goal

pub returns : goal.returns
returns c = gathered-row
