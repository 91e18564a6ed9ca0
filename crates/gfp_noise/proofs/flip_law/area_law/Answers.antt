-- The one type header without a fault, an area as it is sent, and one that flips have changed.
use Rattle.std.proofs.Common.{ap, ◌∙◌}
use Rattle.gfp_model.specs.fcs_model.Fcs.{fcs_type_fault}
use Rattle.gfp_noise.proofs.FlippedFcsAreaLaws.{fcs_header_right, fcs_type_fault-right}
use Rattle.gfp_noise.proofs.FlippedFcsAreaLaws.{fcs_area-delivered, fcs_area-dropped}
use Rattle.gfp_noise.proofs.flip_law.area_law.Goals as goal

pub returns-clause-header : goal.returns-clause-header
returns-clause-header c =
    λ octets size all. (fcs_type_fault-right octets size all, λ e. ap fcs_type_fault e ∙ fcs_header_right)

pub returns-clause-delivered : goal.returns-clause-delivered
returns-clause-delivered c = fcs_area-delivered

pub returns-clause-dropped : goal.returns-clause-dropped
returns-clause-dropped c = λ frame flips is size single. fcs_area-dropped frame flips is size single
