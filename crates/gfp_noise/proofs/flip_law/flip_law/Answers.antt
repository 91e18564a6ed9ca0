-- The frames that are delivered are those whose window is clear.
use Rattle.gfp_noise.proofs.FlippedFcsStreamLaws.{delivered-clear}
use Rattle.gfp_noise.proofs.flip_law.flip_law.Goals as goal

pub returns : goal.returns
returns c = delivered-clear
