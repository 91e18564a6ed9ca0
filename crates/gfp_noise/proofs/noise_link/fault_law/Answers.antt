-- The first fault of a text is that of its language.
use Rattle.text_lines.proofs.LineLanguageAndTableLaws.{said_fault}
use Rattle.gfp_noise.specs.noise_link.NoiseTextLines.{noise_table}
use Rattle.gfp_noise.specs.noise_link.Noise.{noise_in}
use Rattle.gfp_noise.proofs.noise_link.fault_law.Goals as goal

pub returns : goal.returns
returns c = said_fault noise_table noise_in
