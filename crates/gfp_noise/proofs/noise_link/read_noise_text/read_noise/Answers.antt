-- What is made of what the lines say.
use Rattle.std.proofs.Common.{ap}
use Rattle.text_lines.specs.LanguageTable.{said_in, formed}
use Rattle.text_lines.proofs.LineLanguageAndTableLaws.{fault_formed}
use Rattle.gfp_noise.specs.noise_link.NoiseTextLines.{noise_table}
use Rattle.gfp_noise.specs.noise_link.Noise.{noise_in}
use Rattle.gfp_noise.proofs.NoiseDraftLaws.{valid_noise}
use Rattle.gfp_noise.proofs.noise_link.read_noise_text.read_noise.Goals as goal

pub returns-in-Ok-clause-valid : goal.returns-in-Ok-clause-valid
returns-in-Ok-clause-valid c =
    valid_noise c.args.text.now (noise_in c.in-Ok.draft) (ap (formed noise_in) c.in-Ok.ensures.ok)

pub returns-in-Err-clause-fault : goal.returns-in-Err-clause-fault
returns-in-Err-clause-fault c =
    fault_formed noise_in (said_in noise_table c.args.text.now) c.in-Err.fault c.in-Err.ensures.err
