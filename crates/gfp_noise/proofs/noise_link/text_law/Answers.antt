-- By the lines of the text, and the law of flips by places.
use Rattle.gfp_noise.proofs.NoiseDraftLaws.{valid_noise, single_written}
use Rattle.gfp_noise.proofs.noise_link.text_law.Goals as goal

pub returns-clause-valid : goal.returns-clause-valid
returns-clause-valid c = valid_noise

pub returns-clause-single : goal.returns-clause-single
returns-clause-single c = single_written
