-- The FCS with its flips is never that of the octets with theirs.
use Rattle.gfp_noise.proofs.FlippedFcsAreaLaws.{fcs_differs}
use Rattle.gfp_noise.proofs.flip_law.fcs_law.Goals as goal

pub returns : goal.returns
returns c = fcs_differs
