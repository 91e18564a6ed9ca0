-- The law of flips by places.
use Rattle.std.proofs.Common.{refl}
use Rattle.gfp_noise.proofs.FlippedFcsStreamLaws.{delivered-places}
use Rattle.gfp_noise.specs.noise_link.NoiseReportText.{flip_bits}
use Rattle.gfp_noise.proofs.noise_link.noise_law.Goals as goal

pub returns : goal.returns
unfolding Rattle.gfp_noise.specs.noise_link.NoiseReportText.received
returns c noise is single =
    delivered-places noise.frames noise.flips (flip_bits noise) is.frames is.flips refl single.idles single.few
